use Rattle.std.proofs.Common.{◌++◌, ◌∙◌, ap, sym, arith, append-nil}
use Rattle.row_spec.proofs.Runs.{nil_from_length}
use Rattle.shared_table.specs.Pieces.{rows_of}
use Rattle.shared_table.proofs.Gathered.{moved_parts, moved_begin, begun_parts, begun_begin, layer_parts}
use Rattle.shared_table.proofs.filled.layers_of.Goals as goal
use Rattle.shared_table.proofs.filled.layers_of.Goals.{then-len-ge-FILLED+in_ok-with_capacity+in_ok-push_layer, else-len-ge-FILLED}

pub push_layer-requires-clause-parts : goal.push_layer-requires-clause-parts
push_layer-requires-clause-parts g c = rw (c.replace-full.ensures.value) (layer_parts g.K.Ord.cmp (rows_of c.loop-piece.layers.items)
    c.loop-piece.layer.items c.loop-piece.piece-iterator.rest.items (rows_of c.args.pieces.items) c.loop-piece.invariant.0 c.requires.ascending
    c.loop-piece.invariant.1.1)

pub loop-piece-preserved : goal.loop-piece-preserved
loop-piece-preserved g c = elim c.if-len-ge-FILLED.branch [
  | then-len-ge-FILLED+in_ok-with_capacity+in_ok-push_layer w ↦ rw (
    c.in_ok-push.ensures.items,
    w.layers-is,
    w.layer-is,
    w.replace-full.ensures.after,
    w.in_ok-with_capacity.ensures.items,
    w.in_ok-push_layer.ensures.rows,
    w.replace-full.ensures.value,
  ) (
    begun_parts (rows_of c.loop-piece.layers.items) c.loop-piece.layer.items c.loop-piece.piece-iterator.rest.items c.next.new.self.rest.items
        (rows_of c.args.pieces.items) c.in-Some.piece c.in-Some.ensures.steps.0 c.loop-piece.invariant.0,
    (
      w.in_ok-push_layer.ensures.begin,
      begun_begin c.loop-piece.layer.items c.loop-piece.piece-iterator.rest.items c.next.new.self.rest.items c.in-Some.piece
          c.in-Some.ensures.steps.0 c.loop-piece.invariant.1.1,
    ),
  )
  | else-len-ge-FILLED w ↦ rw (c.in_ok-push.ensures.items, w.layers-is, w.layer-is) (
    moved_parts (rows_of c.loop-piece.layers.items) c.loop-piece.layer.items c.loop-piece.piece-iterator.rest.items c.next.new.self.rest.items
        (rows_of c.args.pieces.items) c.in-Some.piece c.in-Some.ensures.steps.0 c.loop-piece.invariant.0,
    (
      c.loop-piece.invariant.1.0,
      moved_begin c.loop-piece.layer.items c.loop-piece.piece-iterator.rest.items c.next.new.self.rest.items c.in-Some.piece
          c.in-Some.ensures.steps.0 c.loop-piece.invariant.1.1,
    ),
  )
]

pub push_layer-requires-2-clause-parts : goal.push_layer-requires-2-clause-parts
push_layer-requires-2-clause-parts g c = layer_parts g.K.Ord.cmp (rows_of c.loop-piece.layers.items) c.loop-piece.layer.items
    c.loop-piece.piece-iterator.rest.items (rows_of c.args.pieces.items) c.loop-piece.invariant.0 c.requires.ascending c.loop-piece.invariant.1.1

pub returns-clause-rows : goal.returns-clause-rows
returns-clause-rows g c =
    let none = nil_from_length c.loop-piece.piece-iterator.rest.items (omega (arith, c.in-None.ensures.steps.0, c.loop-piece.piece-iterator.rest.ok.0)) in
    c.in_ok-push_layer-2.ensures.rows ∙ ap (λ r. rows_of c.loop-piece.layers.items ++ rows_of r) (sym (append-nil c.loop-piece.layer.items))
    ∙ rw none at c.loop-piece.invariant.0
