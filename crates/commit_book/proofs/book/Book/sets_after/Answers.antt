use Rattle.std.proofs.Common.{◌≡◌, ◌≤◌, List, drop, length, map, sym, ap, subst, ◌∙◌, IfOk}
use Rattle.edit_sets.specs.FormFault.{GuardedEdits}
use Rattle.commit_book.specs.Books.{BookState, accepted_sets, history_of, set_in}
use Rattle.commit_book.proofs.Numbered.{as_many_sets, sets_behind}
use Rattle.commit_book.proofs.book.Book.sets_after.Goals as goal

pub returns-clause-sets : goal.returns-clause-sets
returns-clause-sets c =
    let book = c.self.inside in
    let Told : List GuardedEdits → Type 0 = λ told. IfOk c.sets_of.result (λ sets. sets.items ≡ told) in
    let same = ap (map set_in) c.accepted_after.ensures.newer
    ∙ ap (λ accepted. map set_in (drop c.args.base accepted)) c.as_slice.ensures.value
    ∙ sets_behind book.opening.value book.entries.items book.bench book.accepted.items c.self.invariant.0 c.args.base
    ∙ ap (λ (b : BookState). drop c.args.base (accepted_sets b.entries)) c.self.view_is in
    subst Told same c.sets_of.ensures

pub returns-clause-within : goal.returns-clause-within
returns-clause-within c =
    let book = c.self.inside in
    let many = as_many_sets book.opening.value book.entries.items book.bench book.accepted.items c.self.invariant.0 in
    subst (λ (b : BookState). c.args.base ≤ length (accepted_sets b.entries)) c.self.view_is
    (subst (λ n. c.args.base ≤ n) many (subst (λ (b : BookState). c.args.base ≤ length (history_of b).commits) (sym c.self.view_is) c.requires))
