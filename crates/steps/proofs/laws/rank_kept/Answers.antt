-- The law as it is proved in Ranks, and where it starts, in Opening.
use Rattle.steps.proofs.Opening.{no_entries}
use Rattle.steps.proofs.Ranks.{rank_kept}
use Rattle.steps.proofs.laws.rank_kept.Goals as goal

pub returns : goal.returns
returns c = record { rank = rank_kept; opening = no_entries }
