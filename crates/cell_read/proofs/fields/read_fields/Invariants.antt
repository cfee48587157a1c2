use Rattle.std.proofs.Common.{◌≡◌, take, []}
use Rattle.file_spec.specs.RecordReading.{fields_fault}
use Rattle.cell_read.specs.Kept.{AreKept}
use Rattle.cell_read.specs.ValuesOf.{values_of, fault_from}
use Rattle.cell_read.proofs.fields.read_fields.Given as goal

abbrev pub invariant-loop-k : goal.invariant-loop-k
invariant-loop-k l = record {
  values : AreKept l.values (values_of l.nall (take l.k l.frame.fields));
  good : fault_from l.nall l.kind l.frame.fields l.k ≡ fields_fault l.nall l.kind [] l.frame.fields;
}
