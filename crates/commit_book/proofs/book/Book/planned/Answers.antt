use Rattle.std.proofs.Common.{◌≡◌, ℕ, List, drop, flat_map, length, sym, ap, subst, ◌∙◌, arith}
use Rattle.std.specs.Prelude.{MatchResult}
use Rattle.s57_types.specs.declared.cell.Cell.{Cell}
use Rattle.cell_spec.specs.declared.finding.Row.{Row}
use Rattle.cell_spec.specs.declared.key.Key.{Key}
use Rattle.rule_spec.specs.Affected.{plan_budget}
use Rattle.edit_sets.specs.FormFault.{GuardedEdits, IsFormed}
use Rattle.cell_bench.specs.Benches.{AreReady, IsPlanRefusal, IsPlanned}
use Rattle.commit_book.specs.declared.accepted.Accepted.{Accepted as Taken}
use Rattle.commit_book.specs.Books.{BookState, book_state, history_of, touched_in}
use Rattle.commit_book.specs.Prepared.{AreRight, commit_budget}
use Rattle.commit_book.proofs.LookUps.{budget_kept, with_touched}
use Rattle.commit_book.proofs.News.{where_planned}
use Rattle.commit_book.proofs.Ready.{level_now, rows_ready, taken_where_unrefused}
use Rattle.commit_book.proofs.book.Book.planned.Goals as goal

-- the keys that are handed to the plan, by what the book keeps
stale_of : {keys gathered : List Key} {newer handed accepted : List Taken} {above base : ℕ} → keys ≡ gathered → gathered ≡ flat_map touched_in newer
    → newer ≡ drop above handed → above ≡ base → handed ≡ accepted → keys ≡ flat_map touched_in (drop base accepted)
stale_of same are newer_are above_is handed_are = same ∙ are ∙ ap (flat_map touched_in) (newer_are ∙ (λ i. drop (above_is i) (handed_are i)))

pub plan-requires-clause-level : goal.plan-requires-clause-level
plan-requires-clause-level g c =
    let book = c.self.inside in
    ap (λ (set : GuardedEdits). set.nall) c.edits-set.ensures
    ∙ c.requires.fits.level
    ∙ sym (ap (λ (b : BookState). b.opening.head.nall) c.self.view_is)
    ∙ level_now book.opening.value book.entries.items book.bench book.accepted.items c.self.invariant.0

-- rows that no newer commit made stale are those of this cell
pub plan-requires-clause-ready : goal.plan-requires-clause-ready
plan-requires-clause-ready g c =
    let book = c.self.inside in
    let prepared = c.args.prepared.now in
    let stale = stale_of c.deref.ensures.value c.in_ok-stale.ensures c.accepted_after-newer.ensures.newer c.base.ensures c.as_slice.ensures.value in
    subst (λ (x : GuardedEdits × List Key × List Row). AreReady book.bench x.0.edits x.1 x.2)
    (λ i. (sym c.edits-set.ensures i, sym stale i, sym c.rows.ensures i))
    (rows_ready book.opening.value book.entries.items book.bench book.accepted.items c.self.invariant.0 c.writable_cells_are_readable.ensures
    c.formed_edits_find_their_records.ensures
    c.untouched_keys_keep_answers.ensures c.valid_rows_stay_exact.ensures c.known-2.ensures.writable prepared.base prepared.edits prepared.rows
    (subst (λ (set : GuardedEdits). IsFormed set.nall set.edits set.guards) c.edits-set.ensures c.known.ensures.parts)
    (c.requires.fits.level ∙ sym (ap (λ (b : BookState). b.opening.head.nall) c.self.view_is))
    (subst (λ (b : BookState). AreRight b.opening b.entries prepared) (sym c.self.view_is) c.requires.fits.rows))

pub returns-clause-planned : goal.returns-clause-planned
returns-clause-planned g c =
    let cell = c.self.invariant.0.cell_is ∙ ap (λ (b : BookState). (history_of b).cell) c.self.view_is in
    subst (λ (x : Cell × GuardedEdits). MatchResult c.plan.result (IsPlanned x.0 x.1.edits) (IsPlanRefusal x.0 x.1.edits))
    (λ i. (cell i, c.edits-set.ensures i)) c.plan.ensures.planned

-- ---- look-ups
pub returns-clause-steps : goal.returns-clause-steps
returns-clause-steps g c =
    let book = c.self.inside in
    let prepared = c.args.prepared.now in
    let stale = stale_of c.deref.ensures.value c.in_ok-stale.ensures c.accepted_after-newer.ensures.newer c.base.ensures c.as_slice.ensures.value in
    let budget : plan_budget c.edits-set.result.now.edits book.bench c.deref.result.now c.rows.result.now ≡ commit_budget c.args.self.now prepared =
    (λ i. plan_budget (c.edits-set.ensures i).edits book.bench (stale i) (c.rows.ensures i))
    ∙ budget_kept c.args.self.now (book_state book.opening.value book.entries.items) book.bench book.accepted.items c.self.view_is
    c.self.invariant.0 prepared c.requires.alone in
    omega (arith, c.plan.ensures.steps, budget)

pub returns-clause-left : goal.returns-clause-left
returns-clause-left g c =
    let book = c.self.inside in
    let prepared = c.args.prepared.now in
    let set = c.edits-set.result.now in
    let stale = stale_of c.deref.ensures.value c.in_ok-stale.ensures c.accepted_after-newer.ensures.newer c.base.ensures c.as_slice.ensures.value in
    let budget : plan_budget set.edits book.bench c.deref.result.now c.rows.result.now ≡ commit_budget c.args.self.now prepared =
    (λ i. plan_budget (c.edits-set.ensures i).edits book.bench (stale i) (c.rows.ensures i))
    ∙ budget_kept c.args.self.now (book_state book.opening.value book.entries.items) book.bench book.accepted.items c.self.view_is
    c.self.invariant.0 prepared c.requires.alone in
    let many : length set.edits ≡ length prepared.edits.edits = ap (λ (set : GuardedEdits). length set.edits) c.edits-set.ensures in
    where_planned book.bench set.edits c.plan.result c.plan.ensures.planned
    (λ none. let within = with_touched set.edits book.bench c.deref.result.now c.rows.result.now
    (taken_where_unrefused c.refusals_tell_what_a_cell_takes.ensures book.bench set none) in
    omega (arith, c.plan.ensures.few, within, budget, many))
