-- The laws as they are proved in Limits.
use Rattle.filings.proofs.Limits.{limits}
use Rattle.filings.proofs.laws.amounts_read.Goals as goal

pub returns : goal.returns
returns c = limits
