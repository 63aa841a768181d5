-- The laws as they are proved in Rank.
use Rattle.entries.proofs.Rank.{nothing_new_ahead, rank_no_worse, order_kept}
use Rattle.entries.proofs.laws.rank_kept.Goals as goal

pub returns : goal.returns
returns c = record { ahead = nothing_new_ahead; rank = rank_no_worse; order = order_kept }
