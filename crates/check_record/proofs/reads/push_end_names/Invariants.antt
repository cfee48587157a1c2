use Rattle.std.proofs.Common.{◌≡◌, ◌++◌, map, take}
use Rattle.s57_types.specs.declared.record.End.{End}
use Rattle.cell_spec.specs.declared.key.Key.TheVariants.{Name}
use Rattle.check_record.proofs.reads.push_end_names.Given as goal

abbrev pub invariant-loop-end : goal.invariant-loop-end
invariant-loop-end l = map Name l.names.items ≡ map Name l.initial.names.items ++ map (λ (e : End). Name e.to) (take l.end-index l.edge.ends)
