use Rattle.std.proofs.Common.{◌≡◌, find, drop, nat_eq}
use Rattle.std.specs.Cmp.Lexicographic.{pointwise}
use Rattle.frame_spec.specs.RecordFrame.{Field}
use Rattle.update_apply.proofs.tags.first_field.Given as goal

abbrev pub invariant-loop-k : goal.invariant-loop-k
invariant-loop-k l = find (λ (f : Field). pointwise nat_eq f.tag l.text) (drop l.k l.frame.fields) ≡ find
    (λ (f : Field). pointwise nat_eq f.tag l.text) l.frame.fields
