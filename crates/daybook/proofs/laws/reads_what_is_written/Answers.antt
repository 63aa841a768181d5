use Rattle.daybook.proofs.Written.{reads_what_is_written}
use Rattle.daybook.proofs.Read.{written_if_read}
use Rattle.daybook.proofs.laws.reads_what_is_written.Goals as goal

pub returns : goal.returns
returns c = record { reads = reads_what_is_written; writes = written_if_read }
