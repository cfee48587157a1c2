use Rattle.std.proofs.Common.{◌≡◌, ◌-◌}
use Rattle.picture_places.specs.Labels.{free_from, free_field}
use Rattle.picture_places.proofs.label.free_field.Given as goal

abbrev pub invariant-loop-k : goal.invariant-loop-k
invariant-loop-k l = free_from l.taken l.home l.k (1080 - l.k) ≡ free_field l.taken l.home
