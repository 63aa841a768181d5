-- The law as it is proved in Reasons.
use Rattle.steps.proofs.Reasons.{first_reason}
use Rattle.steps.proofs.laws.first_reason.Goals as goal

pub returns : goal.returns
returns c = first_reason
