use Rattle.std.proofs.Common.{◌≡◌, ◌++◌, map, take}
use Rattle.cell_spec.specs.declared.key.Ref.{Ref}
use Rattle.topo_ops.proofs.feature.push_from.Given as goal

abbrev pub invariant-loop-pointer : goal.invariant-loop-pointer
invariant-loop-pointer l = l.names.items ≡ l.fn.names.items ++ map (λ (r : Ref). r.from) (take l.pointer-index l.pointers)
