-- The laws as they are proved in Areas.
use Rattle.steps.proofs.Areas.{land_kept}
use Rattle.steps.proofs.laws.land_kept.Goals as goal

pub returns : goal.returns
returns c = land_kept
