use Rattle.std.proofs.Common.{length}
use Rattle.daybook.proofs.Ends.{Left}
use Rattle.daybook.proofs.file.filings_end.Given as goal

-- what is left of the file decides
abbrev pub invariant-loop-length : goal.invariant-loop-length
invariant-loop-length l = Left l.bytes l.start l.rest

abbrev pub decreases-loop-length : goal.decreases-loop-length
decreases-loop-length l = length l.rest
