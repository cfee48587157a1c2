use Rattle.std.proofs.Common.{ℕ, IfSome, List, arith, ap, length, length-append, [], ◌∷◌, sym, subst}
use Rattle.commit_book.specs.Books.{BookState, IsEntered, history_of}
use Rattle.crash_disk.specs.Disk.{LeavesOnly}
use Rattle.history_spec.specs.declared.entry.Asked.TheVariants.{Commit}
use Rattle.book_journal.specs.Entries.{entry_part}
use Rattle.book_journal.specs.Keeping.{HasOrHasNot}
use Rattle.book_journal.specs.Parts.{commit_asked, text_asked}
use Rattle.book_journal.proofs.Commits.{entry_written, nothing_written, same_commits, set_accepted, stands_ready, still_more, still_same}
use Rattle.book_journal.proofs.Numbers.{length-part}
use Rattle.book_journal.proofs.journal.Journal.keep_answered.Goals as goal
use Rattle.book_journal.proofs.journal.Journal.keep_answered.Goals.{After-keep}

-- a commit that isn't accepted leaves the list as it was
pub returns-then-not-is_accepted-clause-still : goal.returns-then-not-is_accepted-clause-still
returns-then-not-is_accepted-clause-still g c =
    let before = c.args.before.value in
    still_same g.D.Disk.content g.D.Disk.images (record c.args.self.now { book = before }) c.requires.still c.args.self.now.book
    (same_commits before c.args.self.now.book c.args.desk (Commit c.args.prepared.now.base c.args.prepared.now.edits) c.args.reply.now
    c.requires.entered c.if-not-is_accepted.ensures)

-- and writes nothing
pub returns-then-not-is_accepted-clause-moments : goal.returns-then-not-is_accepted-clause-moments
returns-then-not-is_accepted-clause-moments g c =
    nothing_written g.D.Disk.content g.D.Disk.images (record c.args.self.now { book = c.args.before.value }) c.requires.still g.D.Disk.moment
    g.D.Disk.left_since (commit_asked c.args.desk c.args.prepared.now) c.requires.whole (g.met.D.Disk.only_now c.args.self.now.disk.now)

-- an entry has room behind all others
pub keep-requires-clause-room : goal.keep-requires-clause-room
keep-requires-clause-room g c =
    let room = c.requires.still.room in
    let within = c.requires.within in
    let part = c.requires.part in
    let short = part.short in
    omega (
      arith,
      room,
      within,
      short,
      ap length part.part_is,
      length-append (entry_part c.args.desk (text_asked c.args.prepared.now)) (0 ∷ []),
      length-part c.args.desk (text_asked c.args.prepared.now),
    )

pub keep-requires-clause-standing : goal.keep-requires-clause-standing
keep-requires-clause-standing g c =
    stands_ready g.D.Disk.content g.D.Disk.images (record c.args.self.now { book = c.args.before.value }) c.requires.still c.requires.whole

-- an entry that is kept stands in the list
pub returns-clause-still : goal.returns-clause-still
returns-clause-still g c =
    let before = c.args.before.value in
    let prepared = c.args.prepared.now in
    let reply = c.args.reply.now in
    let accepted = set_accepted before c.args.self.now.book c.args.desk prepared reply c.requires.entered
    c.if-not-is_accepted.ensures (omega (arith, c.ranges.desk.fits)) c.requires.level c.requires.lines _ c.edits.ensures
    c.known.ensures.form c.requires.part.short in
    let kept = c.in_ok-keep.ensures in
    let entered = subst (λ (book : BookState). IsEntered before c.args.desk (Commit prepared.base prepared.edits) book reply) (sym c.keep.ensures.book)
    c.requires.entered in
    still_more g.D.Disk.content g.D.Disk.images (record c.args.self.now { book = before }) c.keep.new.self c.requires.still c.requires.whole c.args.desk
    prepared reply entered c.if-not-is_accepted.ensures accepted c.args.part.now c.requires.part kept.end c.keep.ensures.told kept.content kept.kept

-- what a crash leaves while the entry is added
left_while_added : (g : _) → (c : After-keep g) → IfSome (g.D.Disk.content c.args.self.now.disk.now)
    (λ (file : List ℕ). LeavesOnly g.D.Disk.moment g.D.Disk.left_since c.args.self.now.disk.now c.keep.new.self.disk.now
    (HasOrHasNot c.args.before.value.opening (history_of c.args.before.value).commits (commit_asked c.args.desk c.args.prepared.now)))
left_while_added g c =
    let before = c.args.before.value in
    entry_written g.D.Disk.content g.D.Disk.images (record c.args.self.now { book = before }) c.requires.still g.D.Disk.moment g.D.Disk.left_since
    (commit_asked c.args.desk c.args.prepared.now) c.requires.whole c.args.part.now c.requires.part.part_is
    (set_accepted before c.args.self.now.book c.args.desk c.args.prepared.now c.args.reply.now c.requires.entered
    c.if-not-is_accepted.ensures (omega (arith, c.ranges.desk.fits)) c.requires.level c.requires.lines _ c.edits.ensures
    c.known.ensures.form c.requires.part.short) c.keep.new.self.disk.now c.keep.ensures.moments

pub returns-clause-moments : goal.returns-clause-moments
returns-clause-moments g c = left_while_added g (goal.at.returns-clause-moments g c).After-keep

pub returns-in_err-keep-clause-moments : goal.returns-in_err-keep-clause-moments
returns-in_err-keep-clause-moments g c = left_while_added g (goal.at.returns-in_err-keep-clause-moments g c).After-keep
