use Rattle.std.proofs.Common.{◌≡◌, map, take}
use Rattle.std.specs.Prelude.{flat_map}
use Rattle.cell_spec.specs.Lookup.{lookup_pointers}
use Rattle.cell_spec.specs.declared.key.Ref.{Ref}
use Rattle.topo_ops.proofs.feature.names_pointing.Given as goal

abbrev pub invariant-loop-name : goal.invariant-loop-name
invariant-loop-name g l = l.list.items ≡ map (λ (r : Ref). r.from) (flat_map (lookup_pointers (g.B.Look.cell l.look)) (take l.name-index l.names))
