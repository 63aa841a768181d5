-- The example as it is computed in Example.
use Rattle.steps.proofs.Example.{example}
use Rattle.steps.proofs.laws.example.Goals as goal

pub returns : goal.returns
returns c = example
