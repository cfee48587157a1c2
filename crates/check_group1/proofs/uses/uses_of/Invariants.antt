use Rattle.std.proofs.Common.{◌≡◌, true, List, take, filter_map}
use Rattle.std.specs.List.{All}
use Rattle.s57_types.specs.declared.cell.Cell.{Cell}
use Rattle.cell_spec.specs.declared.key.Key.{Key}
use Rattle.cell_spec.specs.declared.key.Key.TheVariants.{Name}
use Rattle.cell_spec.specs.declared.key.Ref.{Ref}
use Rattle.near_records.specs.Near.{has_key}
use Rattle.rule_spec.specs.Sides.{use_by}
use Rattle.check_group1.proofs.uses.uses_of.Given as goal

abbrev pub invariant-loop-pointer : goal.invariant-loop-pointer
invariant-loop-pointer g l =
    (c : Cell) (keys : List Key) → g.N.Near.tells l.near c keys → All (λ (r : Ref). has_key keys (Name r.from) ≡ true) l.pointers
    → l.uses.items ≡ filter_map (use_by c) (take l.pointer-index l.pointers)
