-- The laws as they are proved in Rank.
use Rattle.entries.proofs.Rank.{what_stands, others_unchanged}
use Rattle.entries.proofs.laws.what_stands.Goals as goal

pub returns : goal.returns
returns c = record { names = what_stands; entries = others_unchanged }
