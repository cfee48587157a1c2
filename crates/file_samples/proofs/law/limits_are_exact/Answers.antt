use Rattle.std.proofs.Common.{refl}
use Rattle.std.proofs.lemmas.Bool.{le-leb, lt-leb, le-ltb, lt-ltb}
use Rattle.std.specs.Fmt.{digits}
use Rattle.field_spec.specs.Contents.{vrid_content}
use Rattle.s57_types.specs.Fitness.{unfitness}
use Rattle.file_spec.specs.RecordReading.{fields_fault}
use Rattle.file_spec.specs.DecodedCell.{record_behind}
use Rattle.file_samples.specs.Limits.{LastStepsHaveOrder}
use Rattle.file_samples.proofs.law.limits_are_exact.Goals as goal

last_steps : LastStepsHaveOrder
unfolding record_behind
last_steps c fields type r type_is values_are = record {
  twice = λ named. rw (type_is, values_are, named) refl;
  too_long = λ new long. rw (type_is, values_are, new, lt-leb _ _ long) refl;
  too_many = λ new fits full. rw (type_is, values_are, new, le-leb _ _ fits, le-ltb _ _ full) refl;
  taken = λ new fits room. rw (type_is, values_are, new, le-leb _ _ fits, lt-ltb _ _ room) refl;
}

pub returns-clause-length : goal.returns-clause-length
unfolding digits unfitness
returns-clause-length c = ((refl, refl), (refl, refl))

pub returns-clause-count : goal.returns-clause-count
unfolding digits vrid_content fields_fault record_behind
returns-clause-count c = refl

pub returns-clause-order : goal.returns-clause-order
returns-clause-order c = last_steps
