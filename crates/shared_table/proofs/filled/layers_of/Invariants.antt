use Rattle.std.proofs.Common.{◌≡◌, ◌++◌}
use Rattle.shared_table.specs.Pieces.{AllBegin, rows_of}
use Rattle.shared_table.proofs.filled.layers_of.Given as goal

abbrev pub invariant-loop-piece : goal.invariant-loop-piece
invariant-loop-piece g l =
    (rows_of l.layers.items ++ rows_of (l.layer.items ++ l.piece-iterator.rest.items) ≡ rows_of l.fn.pieces.items)
    × (AllBegin l.layers.items × AllBegin (l.layer.items ++ l.piece-iterator.rest.items))
