use Rattle.std.proofs.Common.{All, subst}
use Rattle.commit_book.specs.Books.{AreSetsOf, BookState, HaveLines, accepted_sets, history_of}
use Rattle.commit_book.proofs.Kept.{same_level}
use Rattle.commit_book.proofs.Numbered.{sets_of_commits}
use Rattle.commit_book.proofs.book.Book.known.Goals as goal

pub returns-clause-level : goal.returns-clause-level
returns-clause-level c = same_level c.args.self.now.opening c.args.self.now.entries

pub returns-clause-sets : goal.returns-clause-sets
returns-clause-sets c =
    let book = c.self.inside in
    subst (λ (b : BookState). AreSetsOf b.opening.head.nall (history_of b).commits (accepted_sets b.entries)) c.self.view_is
    (sets_of_commits book.opening.value book.entries.items book.bench book.accepted.items c.self.invariant.0)

pub returns-clause-lines : goal.returns-clause-lines
returns-clause-lines c = subst (λ (b : BookState). All HaveLines (accepted_sets b.entries)) c.self.view_is c.self.invariant.0.lines
