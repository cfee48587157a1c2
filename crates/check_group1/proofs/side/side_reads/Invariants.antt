use Rattle.std.proofs.Common.{◌≡◌, ◌∷◌, map, take}
use Rattle.cell_spec.specs.declared.key.Key.TheVariants.{Name, Refs}
use Rattle.cell_spec.specs.declared.key.Ref.{Ref}
use Rattle.check_group1.proofs.side.side_reads.Given as goal

abbrev pub invariant-loop-pointer : goal.invariant-loop-pointer
invariant-loop-pointer l = l.keys.items ≡ Name l.fn.name ∷ (Refs l.fn.name ∷ map (λ (r : Ref). Name r.from) (take l.pointer-index l.pointers))
