use Rattle.std.proofs.Common.{◌≡◌, drop, length}
use Rattle.topo_ops.specs.Attributes.{same_attributes}
use Rattle.topo_ops.proofs.attributes.same_attributes.Given as goal

-- as many on both sides, and those from the next place on decide
abbrev pub invariant-loop-k : goal.invariant-loop-k
invariant-loop-k l = (length l.a ≡ length l.b) × (same_attributes (drop l.k l.a) (drop l.k l.b) ≡ same_attributes l.a l.b)
