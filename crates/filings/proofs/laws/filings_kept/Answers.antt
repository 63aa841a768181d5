-- The laws as they are proved in Keeping.
use Rattle.filings.proofs.Keeping.{keeping}
use Rattle.filings.proofs.laws.filings_kept.Goals as goal

pub returns : goal.returns
returns c = keeping
