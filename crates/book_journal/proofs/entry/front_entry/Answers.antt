use Rattle.std.proofs.Common.{◌≡◌, ◌∷◌, None, rules, arith, ap, length, length-append}
use Rattle.book_journal.specs.Entries.{four_bytes}
use Rattle.book_journal.proofs.Numbers.{cut_no_entry, length-four, short_no_entry}
use Rattle.book_journal.proofs.entry.front_entry.Goals as goal

pub returns-in_err-desk : goal.returns-in_err-desk
returns-in_err-desk c =
    let none : c.from_residual-in_err-desk.result ≡ None = search rules in
    rw none (short_no_entry c.args.bytes.now (omega (arith, c.in_ok-mark.ensures.cases.1, c.in_err-desk.ensures)))

pub returns-in_err-length : goal.returns-in_err-length
returns-in_err-length c =
    let none : c.from_residual-in_err-length.result ≡ None = search rules in
    rw none (short_no_entry c.args.bytes.now (omega (
      arith,
      c.in_ok-mark.ensures.cases.1,
      ap length c.in_ok-desk.ensures,
      length-append (four_bytes c.in_ok-desk.desk) c.in_ok-desk.behind.now,
      length-four c.in_ok-desk.desk,
      c.in_err-length.ensures,
    )))

pub returns-then-behind-length : goal.returns-then-behind-length
returns-then-behind-length c =
    let is : c.args.bytes.now ≡ 1 ∷ c.in_ok-mark.behind.now = search rules in
    cut_no_entry c.args.bytes.now c.in_ok-mark.behind.now c.in_ok-desk.behind.now c.in_ok-length.behind.now c.in_ok-desk.desk c.in_ok-length.length
    (search rules) (search rules) is c.in_ok-desk.ensures c.in_ok-length.ensures c.if-behind-length.true
