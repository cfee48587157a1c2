use Rattle.std.proofs.Common.{Bool, List, ℕ, ◌∙◌, arith, length, refl, subst, sym}
use Rattle.s57_types.specs.declared.cell.Cell.{Cell}
use Rattle.commit_book.specs.Books.{history_of}
use Rattle.book_journal.specs.Cuts.{IsEntryOf}
use Rattle.book_journal.specs.Replaying.{IsBenchTaken, IsCountedTo}
use Rattle.book_journal.proofs.Replaying.{counted_damaged, counted_few, counted_more, counted_yet}
use Rattle.book_journal.proofs.replay.count_rest.Goals as goal

pub loop-entry-init : goal.loop-entry-init
loop-entry-init g c =
    let book = c.args.book.now in
    record {
      to = subst (λ (d : Cell). IsCountedTo book.opening c.args.bytes.now (length (history_of book).commits) 0 d c.args.rest.now)
          (sym (c.in_ok-bench.ensures ∙ c.bench.ensures)) (counted_yet book.opening c.args.bytes.now book c.args.rest.now c.requires.to);
      same = λ none. refl;
      follows = λ none. refl;
    }

pub returns-then-not-branch : goal.returns-then-not-branch
returns-then-not-branch g c =
    let entry = c.in-Some.entry in
    counted_damaged c.args.book.now.opening c.args.bytes.now (length (history_of c.args.book.now).commits) c.loop-entry.count c.loop-entry.bench
    c.loop-entry.left.now entry.desk entry.text.now entry.rest.now c.requires.more c.loop-entry.invariant.to c.in-Some.ensures
    (subst (λ (b : Bool). IsBenchTaken c.loop-entry.bench entry.text.now c.take_edits.new.bench b) c.if-not-branch.true c.in_ok-take_edits.ensures)

pub overflow_add-count : goal.overflow_add-count
overflow_add-count g c =
    omega (
      arith,
      counted_few c.args.book.now.opening c.args.bytes.now (length (history_of c.args.book.now).commits) c.loop-entry.count c.loop-entry.bench
          c.loop-entry.left.now c.loop-entry.invariant.to,
    )

pub loop-entry-preserved : goal.loop-entry-preserved
loop-entry-preserved g c =
    let entry = c.in-Some.entry in
    let invariant = c.loop-entry.invariant in
    record {
      to = counted_more c.args.book.now.opening c.args.bytes.now (length (history_of c.args.book.now).commits) c.loop-entry.count c.loop-entry.bench
          c.take_edits.new.bench c.loop-entry.left.now entry.desk entry.text.now entry.rest.now invariant.to c.in-Some.ensures
          (subst (λ (b : Bool). IsBenchTaken c.loop-entry.bench entry.text.now c.take_edits.new.bench b) c.if-not-branch.false c.in_ok-take_edits.ensures);
      same = λ none. absurd (omega (arith, none));
      follows = λ none.
          let same = invariant.same (invariant.follows none) in
          absurd (none entry.desk entry.text.now entry.rest.now
          (subst (λ (l : List ℕ). IsEntryOf l entry.desk entry.text.now entry.rest.now) same c.in-Some.ensures));
    }
