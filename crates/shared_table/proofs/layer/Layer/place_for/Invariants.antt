use Rattle.std.proofs.Common.{◌≡◌, ◌<◌, is_lt, false}
use Rattle.std.specs.List.{HoldsAt}
use Rattle.shared_table.proofs.layer.Layer.place_for.Given as goal

abbrev pub invariant-loop-place : goal.invariant-loop-place
invariant-loop-place g l = 0 < l.place → HoldsAt (λ part. is_lt (g.K.Ord.cmp l.key part.0) ≡ false) l.self-inside.entries.items l.place
