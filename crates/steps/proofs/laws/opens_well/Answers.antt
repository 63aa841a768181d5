-- The laws as they are proved in Opening.
use Rattle.steps.proofs.Opening.{opens_well}
use Rattle.steps.proofs.laws.opens_well.Goals as goal

pub returns : goal.returns
returns c = opens_well
