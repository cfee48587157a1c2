use Rattle.std.proofs.Common.{◌≡◌, ◌++◌, take}
use Rattle.std.specs.List.{flat_map}
use Rattle.picture_places.specs.Page.{record_positions}
use Rattle.picture_places.proofs.extent.push_all_positions.Given as goal

abbrev pub invariant-loop-rec : goal.invariant-loop-rec
invariant-loop-rec l = l.points.items ≡ l.initial.points.items ++ flat_map record_positions (take l.rec-index l.recs)
