use Rattle.std.proofs.Common.{◌≡◌, ◌∷◌, [], ◌∙◌, ap, arith, length, length-append}
use Rattle.row_spec.specs.Rows.{with_row}
use Rattle.shared_table.proofs.Parts.{one_part}
use Rattle.shared_table.proofs.layer.Layer.put_first.Goals as goal

pub invariant_of-self-2 : goal.invariant_of-self-2
invariant_of-self-2 g c =
    let one : g.P.Piece.rows c.put.new.self ≡ (c.args.key, c.args.value) ∷ [] =
    c.in_ok-put.ensures.ok ∙ ap (λ rows. with_row g.K.Ord.cmp rows c.args.key c.args.value) c.make-piece.ensures in
    rw (c.in_ok-push.ensures.items, c.self.view_is, c.requires, c.in_ok-make.ensures) (
      one_part g.K.Ord.cmp g.met.K.Ord.total c.args.key c.args.value (g.P.Piece.rows c.put.new.self) one,
      omega (arith, ap length one, length-append (g.P.Piece.rows c.put.new.self) []),
    )
