use Rattle.std.proofs.Common.{◌≡◌, find, drop, not}
use Rattle.file_spec.specs.FieldTags.{is_tagged}
use Rattle.file_spec.specs.declared.tag.FieldTag.TheVariants as tags
use Rattle.cell_read.proofs.tags.leading_name.Given as goal

abbrev pub invariant-loop-k : goal.invariant-loop-k
invariant-loop-k l = find (λ field. not (is_tagged tags.RecordNumber field)) (drop l.k l.frame.fields) ≡ find
    (λ field. not (is_tagged tags.RecordNumber field)) l.frame.fields
