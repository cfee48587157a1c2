use Rattle.std.proofs.Common.{arith}
use Rattle.row_spec.proofs.Ascending.{IsAscending-take, IsAscending-drop}
use Rattle.shared_table.proofs.Parts.{run_halves, rest_from}
use Rattle.shared_table.proofs.run.RunChangingPiece.halves.Goals as goal

pub invariant_of-lower : goal.invariant_of-lower
invariant_of-lower g c = rw (c.in_ok-copy_rows.ensures, c.deref.ensures.value)
    (IsAscending-take g.K.Ord.cmp c.args.at c.self.inside.rows.items c.self.invariant)

pub invariant_of-upper : goal.invariant_of-upper
invariant_of-upper g c = rw (c.in_ok-copy_rows-2.ensures, c.deref-2.ensures.value, rest_from c.self.inside.rows.items c.args.at)
    (IsAscending-drop g.K.Ord.cmp c.args.at c.self.inside.rows.items c.self.invariant)

pub returns : goal.returns
returns g c =
    rw (
      ← c.self.view_is,
      c.in_ok-copy_rows.ensures,
      c.in_ok-copy_rows-2.ensures,
      c.deref.ensures.value,
      c.deref-2.ensures.value,
      rest_from c.self.inside.rows.items c.args.at,
      c.index.ensures,
    )
    (run_halves c.self.inside.rows.items c.args.at c.index.result.now c.requires.0 (omega (arith, c.if-len-lt-PIECE_ROWS.false, c.len.ensures, c.requires.1)))
