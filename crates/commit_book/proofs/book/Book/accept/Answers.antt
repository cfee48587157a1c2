use Rattle.std.proofs.Common.{◌≡◌, ◌+◌, ◌<◌, ◌++◌, ◌∷◌, [], length, sym, subst, ap, ◌∙◌}
use Rattle.std.specs.Prelude.{Err, IfErr, IfOk, Ok, Result}
use Rattle.std.specs.Result.{IsErrAnd}
use Rattle.std.proofs.lemmas.List.{length-map}
use Rattle.cell_spec.specs.Edits.{apply_edits}
use Rattle.rule_spec.specs.Findings.{finding_total}
use Rattle.history_spec.specs.declared.entry.Asked.TheVariants.{Commit}
use Rattle.history_spec.specs.declared.reply.Brief.TheVariants as brief
use Rattle.history_spec.specs.declared.reply.Reply.TheVariants.{Accepted}
use Rattle.history_spec.specs.Steps.{answer, commit}
use Rattle.commit_book.specs.Books.{IsTakenAt, book_state, commit_of, entry_of, history_of}
use Rattle.commit_book.proofs.Kept.{kept_accepted}
use Rattle.commit_book.proofs.Noted.{noted_more}
use Rattle.commit_book.proofs.book.Book.accept.Goals as goal

pub invariant_of-self-2 : goal.invariant_of-self-2
invariant_of-self-2 c =
    let book = c.self.inside in
    let known = sym c.self.view_is in
    let one = c.args.accepted in
    let number = c.len-place.result + 1 in
    let findings = c.finding_count-findings.result in
    let counted : c.len-place.result ≡ length book.accepted.items = c.len-place.ensures ∙ c.reserve-2.ensures.len ∙ book.accepted.ok.0 in
    let numbered = counted ∙ sym (length-map book.accepted.items commit_of) ∙ ap length c.self.invariant.0.commits_are in
    let found = c.finding_count-findings.ensures ∙ ap finding_total c.replace.ensures.new in
    let answered = subst (λ b. answer (history_of b) (commit c.args.base one.set.edits one.set.guards) ≡ Accepted
    (length (history_of b).commits + 1) (finding_total c.args.plan)) known c.requires.answered in
    let pushed = c.push_reserved.ensures.items ∙ (λ i. c.reserve-2.ensures.items i ++ one ∷ []) in (
      kept_accepted book.opening.value book.entries.items c.push_reserved-2.new.self.items book.bench c.replace.new.self book.accepted.items
          c.push_reserved.new.self.items one c.args.base number findings c.self.invariant.0
          (subst (λ b. length b.entries < 1000000) known c.requires.room)
          ((λ i. Accepted (numbered i + 1) (found i)) ∙ sym answered)
          (subst (λ b. one.set.nall ≡ b.opening.head.nall) known c.requires.level)
          c.requires.lines
          (subst (λ b. IsTakenAt (history_of b).cell one) known c.requires.taken)
          (c.replace.ensures.new ∙ subst (λ b. c.args.plan ≡ apply_edits one.set.edits (history_of b).cell) known c.requires.planned)
          pushed
          (c.push_reserved-2.ensures.items ∙ (λ i. c.reserve.ensures.items i ++ entry_of one.desk (Commit c.args.base (c.in_ok-copy.ensures i))
          (brief.Accepted number findings) ∷ [])),
      noted_more book.places c.note.new.self book.accepted.items c.push_reserved.new.self.items one
          c.len-place.result c.names.result.now c.note.ensures.kept c.self.invariant.1 c.names.ensures c.in_ok-note.ensures.noted counted pushed,
    )

-- ---- out of memory
no_ok : {T E : Type 0} (P : T → Type 0) (Q : E → Type 0) (r : Result T E) → IsErrAnd r Q → IfOk r P
no_ok P Q (Ok x) is = absurd is
no_ok P Q (Err why) is = tt

err_as : {T E : Type 0} (P Q : E → Type 0) (r : Result T E) → ((why : E) → Q why → P why) → IsErrAnd r Q → IfErr r P
err_as P Q (Ok x) told is = tt
err_as P Q (Err why) told is = told why is

pub returns-in_err-reserve-clause-ok : goal.returns-in_err-reserve-clause-ok
returns-in_err-reserve-clause-ok c = no_ok _ _ c.from_residual-in_err-reserve.result c.from_residual-in_err-reserve.ensures.1

pub returns-in_err-reserve-2-clause-ok : goal.returns-in_err-reserve-2-clause-ok
returns-in_err-reserve-2-clause-ok c = no_ok _ _ c.from_residual-in_err-reserve-2.result c.from_residual-in_err-reserve-2.ensures.1

pub returns-in_err-reserve-3-clause-ok : goal.returns-in_err-reserve-3-clause-ok
returns-in_err-reserve-3-clause-ok c = no_ok _ _ c.from_residual-in_err-reserve-3.result c.from_residual-in_err-reserve-3.ensures.1

pub returns-in_err-reserve-clause-err : goal.returns-in_err-reserve-clause-err
returns-in_err-reserve-clause-err c =
    err_as _ _ c.from_residual-in_err-reserve.result
    (λ why is. (is, (λ i. book_state c.self.inside.opening.value (c.reserve.ensures.items i)) ∙ c.self.view_is)) c.from_residual-in_err-reserve.ensures.1

pub returns-in_err-reserve-2-clause-err : goal.returns-in_err-reserve-2-clause-err
returns-in_err-reserve-2-clause-err c =
    err_as _ _ c.from_residual-in_err-reserve-2.result
    (λ why is. (is, (λ i. book_state c.self.inside.opening.value (c.reserve.ensures.items i)) ∙ c.self.view_is)) c.from_residual-in_err-reserve-2.ensures.1

pub returns-in_err-reserve-3-clause-err : goal.returns-in_err-reserve-3-clause-err
returns-in_err-reserve-3-clause-err c =
    err_as _ _ c.from_residual-in_err-reserve-3.result
    (λ why is. (is, (λ i. book_state c.self.inside.opening.value (c.reserve.ensures.items i)) ∙ c.self.view_is)) c.from_residual-in_err-reserve-3.ensures.1
