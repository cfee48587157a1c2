use Rattle.std.proofs.Common.{◌≡◌, ◌++◌, map, take}
use Rattle.s57_types.specs.declared.record.End.{End}
use Rattle.cell_spec.specs.declared.key.Key.TheVariants.{Name}
use Rattle.read_sets.proofs.keys.push_end_keys.Given as goal

abbrev pub invariant-loop-end : goal.invariant-loop-end
invariant-loop-end l = l.keys.items ≡ l.initial.keys.items ++ map (λ (e : End). Name e.to) (take l.end-index l.edge.ends)
