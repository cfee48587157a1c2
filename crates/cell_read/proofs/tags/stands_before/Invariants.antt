use Rattle.std.proofs.Common.{◌≡◌, take, nat_eq}
use Rattle.std.specs.Cmp.Lexicographic.{pointwise}
use Rattle.std.specs.List.{list_any}
use Rattle.frame_spec.specs.RecordFrame.{Field}
use Rattle.cell_read.proofs.tags.stands_before.Given as goal

abbrev pub invariant-loop-j : goal.invariant-loop-j
invariant-loop-j l = l.stands ≡ list_any (λ (f : Field). pointwise nat_eq f.tag l.text) (take l.j l.frame.fields)
