use Rattle.steps.proofs.Locals.{filings_are_local}
use Rattle.steps.proofs.locality.filings_are_local.Goals as goal

pub returns : goal.returns
returns c = filings_are_local
