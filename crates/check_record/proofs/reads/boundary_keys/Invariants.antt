use Rattle.std.proofs.Common.{◌≡◌, map, take}
use Rattle.std.specs.List.{flat_map}
use Rattle.cell_spec.specs.declared.key.Key.TheVariants.{Name}
use Rattle.check_record.specs.EndKeys.{ends_of_answer}
use Rattle.check_record.proofs.reads.boundary_keys.Given as goal

abbrev pub invariant-loop-answer : goal.invariant-loop-answer
invariant-loop-answer l = map Name l.names.items ≡ flat_map ends_of_answer (take l.answer-index l.answers)
