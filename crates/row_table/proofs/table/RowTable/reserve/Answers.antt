use Rattle.std.proofs.Common.{arith}
use Rattle.row_table.proofs.table.RowTable.reserve.Goals as goal

pub invariant_of-self-then-self-count : goal.invariant_of-self-then-self-count
invariant_of-self-then-self-count g c =
    let fits = rw (c.in_ok-_all.ensures.ok_part) at c.checked_add.ensures in
    rw (c.reserve.ensures.blocks) (
      c.self.invariant.0,
      c.self.invariant.1,
      fits.0,
      λ fewer. omega (
        arith,
        fewer,
        c.in_ok-reserve.ensures.ok,
        c.min.ensures,
        c.saturating_add-halves.ensures,
        c.len.ensures.len,
        c.len.ensures.claim,
      ),
    )
