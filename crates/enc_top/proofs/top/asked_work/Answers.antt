use Rattle.std.proofs.Common.{◌-◌, length, take, drop, refl, sym, subst}
use Rattle.call_files.proofs.Answered.{none_read}
use Rattle.enc_top.specs.Outcome.{IsAskedBy}
use Rattle.enc_top.proofs.FormWords.{applied_words, behind, check_words, drilled_words, join_words, made_words, no_words, other_words, probed_words}
use Rattle.enc_top.proofs.FormWords.{run_words, split_words}
use Rattle.enc_top.proofs.top.asked_work.Goals as goal

pub returns-in_default-clause-asked : goal.returns-in_default-clause-asked
returns-in_default-clause-asked g c = (no_words c.args.words.now c.in_default.len_below, refl)

pub returns-then-eq-clause-asked : goal.returns-then-eq-clause-asked
returns-then-eq-clause-asked g c =
    subst (λ f. IsAskedBy ⊥ f (g.H.Shelf.files c.args.shelf.now) (g.H.Shelf.read_faults c.args.shelf.now) (g.H.Shelf.read_faults c.check.new.shelf)
    c.check.result) (sym (check_words c.args.words.now c.first-item.result (take (length c.args.words.now - 1) (drop 1 c.args.words.now))
    c.in-len1-up.len_at_least c.first-item.is (behind 1 c.args.words.now) c.requires c.as_str-first.result.now c.as_str-first.ensures.value
    c.if-eq.ensures)) c.check.ensures.asked

pub returns-then-eq-2-clause-asked : goal.returns-then-eq-2-clause-asked
returns-then-eq-2-clause-asked g c =
    subst (λ f. IsAskedBy ⊥ f (g.H.Shelf.files c.args.shelf.now) (g.H.Shelf.read_faults c.args.shelf.now) (g.H.Shelf.read_faults c.replay_work.new.shelf)
    c.replay_work.result) (sym (run_words c.args.words.now c.first-item.result (take (length c.args.words.now - 1) (drop 1 c.args.words.now))
    c.in-len1-up.len_at_least c.first-item.is (behind 1 c.args.words.now) c.requires c.as_str-first.result.now c.as_str-first.ensures.value c.if-eq.ensures
    c.if-eq-2.ensures)) c.replay_work.ensures.asked

pub returns-then-eq-3-clause-asked : goal.returns-then-eq-3-clause-asked
returns-then-eq-3-clause-asked g c =
    let files = g.H.Shelf.files c.args.shelf.now in let reads = g.H.Shelf.read_faults c.args.shelf.now in
    subst (λ f. IsAskedBy ⊥ f files reads reads c.make.result) (sym (made_words c.args.words.now c.first-item.result (take (length c.args.words.now - 1)
    (drop 1 c.args.words.now)) c.in-len1-up.len_at_least c.first-item.is (behind 1 c.args.words.now) c.requires c.as_str-first.result.now
    c.as_str-first.ensures.value c.if-eq.ensures c.if-eq-2.ensures c.if-eq-3.ensures)) (c.make.ensures files reads)

pub returns-then-eq-4-clause-asked : goal.returns-then-eq-4-clause-asked
returns-then-eq-4-clause-asked g c =
    let files = g.H.Shelf.files c.args.shelf.now in let reads = g.H.Shelf.read_faults c.args.shelf.now in
    subst (λ f. IsAskedBy ⊥ f files reads reads c.drill.result) (sym (drilled_words c.args.words.now c.first-item.result (take (length c.args.words.now - 1)
    (drop 1 c.args.words.now)) c.in-len1-up.len_at_least c.first-item.is (behind 1 c.args.words.now) c.requires c.as_str-first.result.now
    c.as_str-first.ensures.value c.if-eq.ensures c.if-eq-2.ensures c.if-eq-3.ensures c.if-eq-4.ensures)) (c.drill.ensures files reads)

pub returns-then-eq-5-clause-asked : goal.returns-then-eq-5-clause-asked
returns-then-eq-5-clause-asked g c =
    subst (λ f. IsAskedBy ⊥ f (g.H.Shelf.files c.args.shelf.now) (g.H.Shelf.read_faults c.args.shelf.now) (g.H.Shelf.read_faults c.edit_edges.new.shelf)
    c.edit_edges.result) (sym (split_words c.args.words.now c.first-item.result (take (length c.args.words.now - 1) (drop 1 c.args.words.now))
    c.in-len1-up.len_at_least c.first-item.is (behind 1 c.args.words.now) c.requires c.as_str-first.result.now c.as_str-first.ensures.value c.if-eq.ensures
    c.if-eq-2.ensures c.if-eq-3.ensures c.if-eq-4.ensures c.if-eq-5.ensures)) c.edit_edges.ensures.asked

pub returns-then-eq-6-clause-asked : goal.returns-then-eq-6-clause-asked
returns-then-eq-6-clause-asked g c =
    subst (λ f. IsAskedBy ⊥ f (g.H.Shelf.files c.args.shelf.now) (g.H.Shelf.read_faults c.args.shelf.now)
    (g.H.Shelf.read_faults c.edit_edges-then-eq-6.new.shelf)
    c.edit_edges-then-eq-6.result) (sym (join_words c.args.words.now c.first-item.result (take (length c.args.words.now - 1) (drop 1 c.args.words.now))
    c.in-len1-up.len_at_least c.first-item.is (behind 1 c.args.words.now) c.requires c.as_str-first.result.now c.as_str-first.ensures.value c.if-eq.ensures
    c.if-eq-2.ensures c.if-eq-3.ensures c.if-eq-4.ensures c.if-eq-5.ensures c.if-eq-6.ensures)) c.edit_edges-then-eq-6.ensures.asked

pub returns-then-eq-7-clause-asked : goal.returns-then-eq-7-clause-asked
returns-then-eq-7-clause-asked g c =
    subst (λ f. IsAskedBy ⊥ f (g.H.Shelf.files c.args.shelf.now) (g.H.Shelf.read_faults c.args.shelf.now) (g.H.Shelf.read_faults c.probe.new.shelf)
    c.probe.result) (sym (probed_words c.args.words.now c.first-item.result (take (length c.args.words.now - 1) (drop 1 c.args.words.now))
    c.in-len1-up.len_at_least c.first-item.is (behind 1 c.args.words.now) c.requires c.as_str-first.result.now c.as_str-first.ensures.value c.if-eq.ensures
    c.if-eq-2.ensures c.if-eq-3.ensures c.if-eq-4.ensures c.if-eq-5.ensures c.if-eq-6.ensures c.if-eq-7.ensures)) c.probe.ensures.asked

pub returns-then-eq-8-clause-asked : goal.returns-then-eq-8-clause-asked
returns-then-eq-8-clause-asked g c =
    subst (λ f. IsAskedBy ⊥ f (g.H.Shelf.files c.args.shelf.now) (g.H.Shelf.read_faults c.args.shelf.now) (g.H.Shelf.read_faults c.apply.new.shelf)
    c.apply.result) (sym (applied_words c.args.words.now c.first-item.result (take (length c.args.words.now - 1) (drop 1 c.args.words.now))
    c.in-len1-up.len_at_least c.first-item.is (behind 1 c.args.words.now) c.requires c.as_str-first.result.now c.as_str-first.ensures.value c.if-eq.ensures
    c.if-eq-2.ensures c.if-eq-3.ensures c.if-eq-4.ensures c.if-eq-5.ensures c.if-eq-6.ensures c.if-eq-7.ensures c.if-eq-8.ensures)) c.apply.ensures.asked

pub returns-clause-asked : goal.returns-clause-asked
returns-clause-asked g c = (
  other_words c.args.words.now c.first-item.result (take (length c.args.words.now - 1) (drop 1 c.args.words.now)) c.in-len1-up.len_at_least
      c.first-item.is (behind 1 c.args.words.now) c.requires c.as_str-first.result.now c.as_str-first.ensures.value c.if-eq.ensures c.if-eq-2.ensures
      c.if-eq-3.ensures c.if-eq-4.ensures c.if-eq-5.ensures c.if-eq-6.ensures c.if-eq-7.ensures c.if-eq-8.ensures,
  refl,
)

pub returns-then-eq-3-clause-told_reads : goal.returns-then-eq-3-clause-told_reads
returns-then-eq-3-clause-told_reads g c = none_read (g.H.Shelf.read_faults c.args.shelf.now) c.make.result

pub returns-then-eq-4-clause-told_reads : goal.returns-then-eq-4-clause-told_reads
returns-then-eq-4-clause-told_reads g c = none_read (g.H.Shelf.read_faults c.args.shelf.now) c.drill.result
