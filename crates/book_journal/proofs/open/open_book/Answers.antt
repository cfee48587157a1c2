use Rattle.std.proofs.Common.{ℕ, ◌≤◌, List, length, ap, arith, subst}
use Rattle.commit_book.specs.Books.{history_of}
use Rattle.book_journal.specs.Journals.{IsJournalOf}
use Rattle.book_journal.proofs.Opening.{begun_after, begun_told, left_begun, no_place, read_journal, read_short}
use Rattle.book_journal.proofs.open.open_book.Goals as goal

pub returns-clause-opened : goal.returns-clause-opened
returns-clause-opened g c =
    let replayed = c.in_ok-opened.ensures in
    let book = c.in_ok-opened.opened.0 in
    let place = c.in_ok-opened.opened.1 in
    let file = c.deref.result.now in
    let short : length file ≤ 1 = omega (arith, c.len.ensures, c.if-len-gt1.false, ap length c.deref.ensures.value) in
    record {
      room = omega (arith, no_place c.args.cell file book place short replayed);
      journal = read_journal c.args.cell (g.D.Disk.content c.args.disk.now) c.in_ok-bytes.bytes.items (history_of book).commits c.in_ok-bytes.ensures.bytes
          (subst (λ (l : List ℕ). IsJournalOf c.args.cell l (history_of book).commits) c.deref.ensures.value replayed.journal);
      standing = begun_told g.D.Disk.content g.D.Disk.images c.args.cell book place file c.read_disk.new.disk c.begin_list.new.disk short replayed
          c.begin_list.ensures.told c.in_ok-begin_list.ensures.content c.in_ok-begin_list.ensures.kept;
      left = left_begun (g.D.Disk.content c.args.disk.now) (g.D.Disk.content c.read_disk.new.disk) (g.D.Disk.content c.begin_list.new.disk)
          c.in_ok-bytes.bytes.items c.in_ok-bytes.ensures.bytes (omega (arith, c.len.ensures, c.if-len-gt1.false)) c.read_disk.ensures.same
          c.in_ok-begin_list.ensures.content;
    }

-- an empty list is made of a file of at most one byte
pub returns-in_err-begin_list-clause-moments : goal.returns-in_err-begin_list-clause-moments
returns-in_err-begin_list-clause-moments g c =
    begun_after g.D.Disk.content g.D.Disk.images g.D.Disk.moment g.D.Disk.left_since c.args.cell c.args.disk.now c.read_disk.new.disk
    c.begin_list.new.disk (g.met.D.Disk.reads_an_image c.args.disk.now)
    (read_short (g.D.Disk.content c.args.disk.now) c.in_ok-bytes.bytes.items c.in_ok-bytes.ensures.bytes (omega (arith, c.len.ensures, c.if-len-gt1.false)))
    c.read_disk.ensures.moments c.read_disk.ensures.same c.begin_list.ensures.moments

pub returns-clause-moments : goal.returns-clause-moments
returns-clause-moments g c =
    begun_after g.D.Disk.content g.D.Disk.images g.D.Disk.moment g.D.Disk.left_since c.args.cell c.args.disk.now c.read_disk.new.disk
    c.begin_list.new.disk (g.met.D.Disk.reads_an_image c.args.disk.now)
    (read_short (g.D.Disk.content c.args.disk.now) c.in_ok-bytes.bytes.items c.in_ok-bytes.ensures.bytes (omega (arith, c.len.ensures, c.if-len-gt1.false)))
    c.read_disk.ensures.moments c.read_disk.ensures.same c.begin_list.ensures.moments
