use Rattle.std.proofs.Common.{arith}
use Rattle.record_fit.proofs.HeadLengths as head
use Rattle.record_fit.proofs.head_record.dsid_length.Goals as goal

pub returns : goal.returns
returns c = omega (arith, head.dsid_length c.args.dsid.now)
