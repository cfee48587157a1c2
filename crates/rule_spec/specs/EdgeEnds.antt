-- The ends of an edge: chain-node topology gives it one beginning node and one end node (S-57 Part 2, 2.2.1.2; Part 3, 7.7.1.4).
use Rattle.std.specs.Prelude.{ℕ, ◌==◌, ◌&&◌, not, [], ◌∷◌, length, count_by, is_some}
use Rattle.s57_types.specs.declared.record.End.{End}
use Rattle.s57_types.specs.declared.record.Vector.{Vector}
use Rattle.s57_types.specs.declared.cell.Cell.{Cell}
use Rattle.rule_spec.specs.Records.{node_named}
use Rattle.rule_spec.specs.Rule.{Found, found_if, places_where}

-- how many ends have a topology indicator (TOPI): 1 for the beginning node, 2 for the end node
abbrev pub topi_count : ℕ → Vector → ℕ
topi_count topi e = count_by (λ (end : End). end.topi == topi) e.ends

-- EndCount: the ends aren't one beginning node, one end node and no other; the numbers of beginning nodes, end nodes and ends
abbrev pub end_count : Cell → Vector → Found
end_count c e =
    let begins = topi_count 1 e in
    let ends = topi_count 2 e in
    let all = length e.ends in
    found_if (not ((begins == 1) && (ends == 1) && (all == 2))) (begins ∷ ends ∷ all ∷ [])

-- DanglingEnd: an end names no connected node of the cell; its place
abbrev pub dangling_end : Cell → Vector → Found
dangling_end c e = places_where (λ (end : End). not (is_some (node_named c end.to))) e.ends
