-- The laws as they are proved in Entries.
use Rattle.steps.proofs.Entries.{amounts, new_entries, order}
use Rattle.steps.proofs.laws.entries_kept.Goals as goal

pub returns : goal.returns
returns c = record { amounts = amounts; added = new_entries; order = order }
