use Rattle.steps.proofs.Run.{from_an_opening_on}
use Rattle.steps.proofs.laws.from_an_opening_on.Goals as goal

pub returns : goal.returns
returns c = from_an_opening_on
