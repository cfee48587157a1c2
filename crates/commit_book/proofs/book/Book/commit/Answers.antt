use Rattle.std.proofs.Common.{◌≤◌, ◌++◌, ◌∷◌, [], arith, drop, length, ap, subst, ◌∙◌}
use Rattle.commit_book.specs.Books.{accepted_sets, sets_told}
use Rattle.commit_book.proofs.LookUps.{budget_alone}
use Rattle.commit_book.proofs.News.{commit_news}
use Rattle.commit_book.proofs.book.Book.commit.Goals as goal

pub enter_commit-requires-clause-fits : goal.enter_commit-requires-clause-fits
enter_commit-requires-clause-fits g c = record { base = c.requires.base; level = c.requires.level; rows = c.requires.rows }

pub returns-clause-news : goal.returns-clause-news
returns-clause-news g c =
    let old = c.args.self.now in
    let base = c.args.prepared.now.base in
    let reply = c.in_ok-answered.answered.reply in
    let told = c.in_ok-answered.ensures in
    let newer = c.in_ok-newer.ensures.sets ∙ ap (λ n. drop n (accepted_sets old.entries)) c.base.ensures in
    let all = c.sets_told-news.ensures ∙ ap (sets_told reply) (c.in_ok-sets.ensures ∙ (λ i. newer i ++ c.edits.ensures i ∷ [])) in
    all
    ∙ commit_news old c.enter_commit.new.self c.args.desk base c.args.prepared.now.edits reply told.ok told.verdict
    (subst (λ n. n ≤ length (accepted_sets old.entries)) c.base.ensures c.sets_after.ensures.within)

pub returns-clause-alone : goal.returns-clause-alone
returns-clause-alone g c = λ newest.
    let few = budget_alone c.args.self.now c.args.prepared.now c.requires.rows newest in
    omega (arith, few, c.enter_commit.ensures.steps)

pub returns-in_err-answered-clause-alone : goal.returns-in_err-answered-clause-alone
returns-in_err-answered-clause-alone g c = λ newest.
    let few = budget_alone c.args.self.now c.args.prepared.now c.requires.rows newest in
    omega (arith, few, c.enter_commit.ensures.steps)
