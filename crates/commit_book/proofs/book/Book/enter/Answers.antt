use Rattle.std.proofs.Common.{◌≡◌, ◌<◌, ◌++◌, ◌∷◌, [], length, sym, subst, ◌∙◌}
use Rattle.history_spec.specs.Entries.{event_asked}
use Rattle.history_spec.specs.Steps.{answer}
use Rattle.commit_book.specs.Books.{entry_of, history_of}
use Rattle.commit_book.proofs.Kept.{kept_entered}
use Rattle.commit_book.proofs.book.Book.enter.Goals as goal

pub invariant_of-self-2 : goal.invariant_of-self-2
invariant_of-self-2 c =
    let book = c.self.inside in
    let known = sym c.self.view_is in (
      kept_entered book.opening.value book.entries.items c.push_reserved.new.self.items book.bench book.accepted.items c.args.desk
          c.args.asked c.args.reply.now c.self.invariant.0
          (subst (λ b. length b.entries < 1000000) known c.requires.room)
          (subst (λ b. c.args.reply.now ≡ answer (history_of b) (event_asked c.args.asked)) known c.requires.answered)
          c.requires.leaves
          (c.push_reserved.ensures.items ∙ (λ i. c.reserve.ensures.items i ++ entry_of c.args.desk c.args.asked (c.brief_of-brief.ensures i) ∷ [])),
      c.self.invariant.1,
    )
