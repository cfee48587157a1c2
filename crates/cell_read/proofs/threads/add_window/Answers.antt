use Rattle.std.proofs.Common.{◌∷◌, [], subst, sym}
use Rattle.cell_read.specs.Windows.{AreAdded, AreListed}
use Rattle.cell_read.proofs.Windows.{added_level, listed_next}
use Rattle.cell_read.proofs.threads.add_window.Goals as goal

pub add_record-requires-clause-listed : goal.add_record-requires-clause-listed
add_record-requires-clause-listed c =
    (listed_next c.loop-rec.reading.cell.head.nall c.in-Some.rec c.next.new.self.rest.items c.in-Some.ensures.steps.0 c.loop-rec.invariant.listed).0.0

pub add_record-requires-clause-short : goal.add_record-requires-clause-short
add_record-requires-clause-short c =
    sym (listed_next c.loop-rec.reading.cell.head.nall c.in-Some.rec c.next.new.self.rest.items c.in-Some.ensures.steps.0 c.loop-rec.invariant.listed).0.1

pub loop-rec-preserved : goal.loop-rec-preserved
loop-rec-preserved c =
    let next = c.in-Some.ensures.steps.0 in
    let rec = c.in-Some.rec in
    let rest = c.next.new.self.rest.items in
    let before = c.loop-rec.reading.cell in
    let added = c.in_ok-add_record.ensures in
    record {
      known = added.known;
      listed = subst (λ n. AreListed n rest) (sym (added_level before c.add_record.new.reading.cell (rec ∷ []) (added.good, added.cell)))
          (listed_next before.head.nall rec rest next c.loop-rec.invariant.listed).1;
      added = λ d more.
          c.loop-rec.invariant.added d
          (subst (λ left. AreAdded before left d) (sym next) (added.good, subst (λ cell. AreAdded cell rest d) added.cell more));
    }
