-- How many records a cell has of a kind.
use Rattle.std.proofs.Common.{◌≡◌, ◌+◌, ◌≤◌, ◌++◌, length, length-append, arith}
use Rattle.s57_types.specs.declared.cell.Cell.{Cell}
use Rattle.s57_types.specs.declared.name.Kind.{Kind}
use Rattle.s57_types.specs.declared.name.Kind.TheVariants.{Vi, Vc, Ve, Fe, Head}
use Rattle.cell_spec.specs.Edits.{list_of_kind}
use Rattle.cell_spec.specs.Lookup.{all_records}

all_counted : (c : Cell) → length (all_records c) ≡ length c.vi + length c.vc + length c.ve + length c.fe
all_counted c =
    let nodes = length-append c.vi c.vc in
    let spatial = length-append (c.vi ++ c.vc) c.ve in
    let all = length-append (c.vi ++ c.vc ++ c.ve) c.fe in
    omega (arith, nodes, spatial, all)

-- there are at most as many of a kind as in all
pub of_kind : (kind : Kind) (c : Cell) → length (list_of_kind kind c) ≤ length (all_records c)
of_kind Vi c = let all = all_counted c in omega (arith, all)
of_kind Vc c = let all = all_counted c in omega (arith, all)
of_kind Ve c = let all = all_counted c in omega (arith, all)
of_kind Fe c = let all = all_counted c in omega (arith, all)
of_kind Head c = omega arith
