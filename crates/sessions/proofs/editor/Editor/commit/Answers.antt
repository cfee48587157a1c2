use Rattle.std.proofs.Common.{Some, sym, ap, ◌∙◌, subst}
use Rattle.edit_sets.specs.FormFault.{GuardedEdits, IsFormRefusal}
use Rattle.commit_book.specs.Books.{IsEntered}
use Rattle.history_spec.specs.declared.entry.Asked.TheVariants.{Commit, Faulty}
use Rattle.s57_types.specs.declared.head.Head.{Head}
use Rattle.sessions.specs.Replays.{IsAskedOf}
use Rattle.sessions.specs.declared.session.Shared.TheVariants as shared
use Rattle.sessions.proofs.Asks.{commit_asked, fault_asked, level_of_copy, said_by}
use Rattle.sessions.proofs.editor.Editor.commit.Goals as goal

pub answer_commit-requires-clause-level : goal.answer_commit-requires-clause-level
answer_commit-requires-clause-level g c =
    let book = c.args.book.now in
    let e = c.args.self.now in
    ap (λ (set : GuardedEdits). set.nall) c.in_ok-prepared-in-Ok.ensures.edits
    ∙ c.in-Ok.ensures.nall_is
    ∙ ap (λ (h : Head). h.nall) c.head.ensures
    ∙ level_of_copy book.opening book.entries e.base e.bench c.requires.beside.copy

pub returns-in_ok-prepared-in-Ok : goal.returns-in_ok-prepared-in-Ok
returns-in_ok-prepared-in-Ok g c =
    let book = c.args.book.now in
    let e = c.args.self.now in
    let number = c.args.number in
    let new = c.answer_commit.new.self in
    let prepared = c.in_ok-prepared-in-Ok.prepared in
    let level = ap (λ (h : Head). h.nall) c.head.ensures ∙ level_of_copy book.opening book.entries e.base e.bench c.requires.beside.copy in
    said_by c.answer_commit.result c.reply_of.result (IsEntered book number (Commit prepared.base prepared.edits) new)
    (IsAskedOf book number e.base e.session.draft shared.Commit new) c.reply_of.ensures c.answer_commit.ensures.ok
    (λ reply. commit_asked book new number e.base c.head.result.now.nall e.session.draft c.in-Ok.set prepared reply level c.in-Ok.ensures
    c.in_ok-prepared-in-Ok.ensures.base c.in_ok-prepared-in-Ok.ensures.edits)

pub returns-in-Err-Fault : goal.returns-in-Err-Fault
returns-in-Err-Fault g c =
    let book = c.args.book.now in
    let e = c.args.self.now in
    let number = c.args.number in
    let new = c.answer_faulty.new.self in
    let level = ap (λ (h : Head). h.nall) c.head.ensures ∙ level_of_copy book.opening book.entries e.base e.bench c.requires.beside.copy in
    said_by c.answer_faulty.result c.reply_of-in-Err-Fault.result (IsEntered book number (Faulty _) new)
    (IsAskedOf book number e.base e.session.draft shared.Commit new) c.reply_of-in-Err-Fault.ensures c.answer_faulty.ensures.ok
    (λ reply. fault_asked book new number e.base c.head.result.now.nall e.session.draft _ reply level
    (subst (IsFormRefusal c.head.result.now.nall e.session.draft.edits e.session.draft.guards) c.in-Err-Fault.field-0-is c.in-Err-Fault.ensures
    ∙ ap Some (sym c.in-Err-Fault.fault-is)))
