use Rattle.std.proofs.Common.{subst, sym}
use Rattle.cell_read.specs.Windows.{AreAdded, AreListed, records_in}
use Rattle.cell_read.proofs.Windows.{added_behind, added_level, listed_back, listed_front}
use Rattle.cell_read.proofs.threads.joined.Goals as goal

pub add_window-requires-clause-listed : goal.add_window-requires-clause-listed
add_window-requires-clause-listed c =
    let level = c.loop-window.reading.cell.head.nall in
    listed_front level c.in-Some.window.items (records_in c.next.new.self.rest.items)
    (subst (λ left. AreListed level (records_in left)) c.in-Some.ensures.steps.0 c.loop-window.invariant.listed)

pub loop-window-preserved : goal.loop-window-preserved
loop-window-preserved c =
    let next = c.in-Some.ensures.steps.0 in
    let recs = c.in-Some.window.items in
    let rest = records_in c.next.new.self.rest.items in
    let level = c.loop-window.reading.cell.head.nall in
    record {
      known = c.in_ok-add_window.ensures.known;
      listed = subst (λ n. AreListed n rest) (sym (added_level c.loop-window.reading.cell c.add_window.new.reading.cell recs c.in_ok-add_window.ensures.added))
          (listed_back level recs rest (subst (λ left. AreListed level (records_in left)) next c.loop-window.invariant.listed));
      added = λ d more.
          c.loop-window.invariant.added d
          (subst (λ left. AreAdded c.loop-window.reading.cell (records_in left) d) (sym next)
          (added_behind c.loop-window.reading.cell c.add_window.new.reading.cell d recs rest c.in_ok-add_window.ensures.added more));
    }
