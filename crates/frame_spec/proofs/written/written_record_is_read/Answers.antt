use Rattle.frame_spec.proofs.WrittenSizes.{written_has_length, written_is_read}
use Rattle.frame_spec.proofs.written.written_record_is_read.Goals as goal

pub returns-clause-length : goal.returns-clause-length
returns-clause-length c = written_has_length

pub returns-clause-read : goal.returns-clause-read
returns-clause-read c = written_is_read
