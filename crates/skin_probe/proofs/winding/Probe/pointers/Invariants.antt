use Rattle.std.proofs.Common.{◌≡◌, ◌+ℤ◌, drop}
use Rattle.skin_probe.specs.Kept.{HoldsWindings}
use Rattle.skin_probe.specs.Winding.{pointer_winding, sum_of}
use Rattle.skin_probe.proofs.winding.Probe.pointers.Given as goal

abbrev pub invariant-loop-spot : goal.invariant-loop-spot
invariant-loop-spot g l =
    ((l.winding +ℤ sum_of (pointer_winding (g.B.Look.cell l.self.look.now) l.self.at) (drop l.spot-index l.spots)) ≡
    sum_of (pointer_winding (g.B.Look.cell l.self.look.now) l.self.at) l.spots) × HoldsWindings (g.B.Look.cell l.self.look.now) l.self.at l.known
