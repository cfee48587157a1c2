use Rattle.std.proofs.Common.{arith}
use Rattle.book_journal.proofs.Numbers.{cut_four}
use Rattle.book_journal.proofs.entry.cut_number.Goals as goal

pub returns : goal.returns
returns c =
    let cases = c.in_ok-number.ensures.cases in
    cut_four c.args.bytes.now c.in_ok-number.number.now c.in_ok-number.rest.now c.from_le_bytes.result (λ i. omega (arith, c.type_inv.bytes i)) cases.0
    cases.1 cases.2
    c.from_le_bytes.ensures
