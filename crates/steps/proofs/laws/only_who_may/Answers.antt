-- The laws as they are proved in Stays.
use Rattle.steps.proofs.Stays.{rejected_stays, closed_stays, by_owner, by_holder}
use Rattle.steps.proofs.laws.only_who_may.Goals as goal

pub returns : goal.returns
returns c = record { rejected = rejected_stays; closed = closed_stays; owner = by_owner; holder = by_holder }
