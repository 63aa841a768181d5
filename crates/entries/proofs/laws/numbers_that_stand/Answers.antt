-- The laws as they are proved in Rank.
use Rattle.entries.proofs.Rank.{numbers_that_stand, stays_distinct, stays_below, how_many}
use Rattle.entries.proofs.laws.numbers_that_stand.Goals as goal

pub returns : goal.returns
returns c = record { which = numbers_that_stand; distinct = stays_distinct; below = stays_below; length = how_many }
