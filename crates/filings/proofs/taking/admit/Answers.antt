-- What is read has the length of its kind, and so is read back from a slot.
use Rattle.std.proofs.Common.{arith}
use Rattle.filings.proofs.Keeping.{is_admitted}
use Rattle.filings.proofs.taking.admit.Goals as goal

pub returns-clause-slot : goal.returns-clause-slot
returns-clause-slot c = is_admitted c.args.count c.args.bytes.now _ (omega arith) c.in_ok-filing.ensures
