use Rattle.std.proofs.Common.{arith}
use Rattle.s57_types.specs.RecordFields.{dsid_of_head}
use Rattle.record_fit.proofs.HeadLengths.{dsid_length}
use Rattle.record_fit.proofs.head.identification_length.Goals as goal

pub returns : goal.returns
returns c = omega (arith, dsid_length (dsid_of_head c.args.head.now))
