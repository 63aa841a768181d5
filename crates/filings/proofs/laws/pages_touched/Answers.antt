-- The laws as they are proved in Touches.
use Rattle.filings.proofs.Touches.{sharing, touching, made_apart}
use Rattle.filings.proofs.laws.pages_touched.Goals as goal

pub returns : goal.returns
returns c = record { sharing = sharing; touching = touching; made = made_apart }
