use Rattle.std.proofs.Common.{◌≡◌, ◌++◌, map, take}
use Rattle.s57_types.specs.declared.record.End.{End}
use Rattle.cell_spec.specs.declared.key.Key.TheVariants.{Refs}
use Rattle.edit_answers.proofs.touched.push_ends.Given as goal

abbrev pub invariant-loop-end : goal.invariant-loop-end
invariant-loop-end l = l.keys.items ≡ l.fn.keys.items ++ map Refs (map (λ (e : End). e.to) (take l.end-index l.ends))
