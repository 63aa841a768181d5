-- What an act at a place makes of the entries: the steps that the acts of a page are proved by.
use Rattle.std.proofs.lemmas.List.{length-take-le}
use Rattle.entries.proofs.First.{none_of, any_at, changed_at, without_at, yielded_at_end, yielded_at}
use Rattle.entries.proofs.Taken.{take_of_set, take_of_rotated, take_of_exchanged}

pub ruleset acts_at = (none_of, any_at, changed_at, without_at, yielded_at_end, yielded_at, take_of_set, take_of_rotated, take_of_exchanged, length-take-le)
