use Rattle.std.proofs.Common.{arith, ◌∙◌}
use Rattle.shared_table.proofs.Parts.{rest_from, rows_before-parts, length-drop_parts, AreParts-take, AreParts-drop, layer_halves}
use Rattle.shared_table.proofs.layer.LayerChangingPiece.halves.Goals as goal

pub overflow_sub-upper : goal.overflow_sub-upper
overflow_sub-upper g c =
    let before = rw (← c.self.view_is) at c.rows_before-count.ensures in
    omega (arith, before ∙ rows_before-parts c.self.inside.entries.items c.args.at, length-drop_parts c.self.inside.entries.items c.args.at, c.self.invariant.1)

pub invariant_of-lower : goal.invariant_of-lower
invariant_of-lower g c =
    let before = rw (← c.self.view_is) at c.rows_before-count.ensures in
    rw (c.in_ok-share_entries.ensures, c.deref.ensures.value) (
      AreParts-take g.K.Ord.cmp c.self.inside.entries.items c.args.at c.self.invariant.0,
      before ∙ rows_before-parts c.self.inside.entries.items c.args.at,
    )

pub invariant_of-upper : goal.invariant_of-upper
invariant_of-upper g c =
    let before = rw (← c.self.view_is) at c.rows_before-count.ensures in
    rw (c.in_ok-share_entries-2.ensures, c.deref-2.ensures.value, rest_from c.self.inside.entries.items c.args.at) (
      AreParts-drop g.K.Ord.cmp c.self.inside.entries.items c.args.at c.self.invariant.0,
      omega (
        arith,
        before ∙ rows_before-parts c.self.inside.entries.items c.args.at,
        length-drop_parts c.self.inside.entries.items c.args.at,
        c.self.invariant.1,
      ),
    )

pub returns : goal.returns
returns g c =
    rw (
      ← c.self.view_is,
      c.in_ok-share_entries.ensures,
      c.deref.ensures.value,
      c.in_ok-share_entries-2.ensures,
      c.deref-2.ensures.value,
      rest_from c.self.inside.entries.items c.args.at,
      c.key-start.ensures,
      c.index.ensures,
    )
    (layer_halves g.K.Ord.cmp c.self.inside.entries.items c.args.at c.index.result.now c.self.invariant.0 c.requires.0
    (omega (arith, c.if-len-lt-PIECE_ROWS.false, c.len.ensures, c.requires.1)))
