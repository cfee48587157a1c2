use Rattle.std.proofs.Common.{Ok, inl, ap, sym, ◌∙◌}
use Rattle.commit_book.specs.Books.{history_of}
use Rattle.enc_top.specs.Commits.{left_unless}
use Rattle.enc_top.proofs.CommitWork.{ahead_right, large_as, rows_right, settled_as}
use Rattle.enc_top.proofs.first.commit.Goals as goal

pub enter-requires-clause-rows : goal.enter-requires-clause-rows
enter-requires-clause-rows g c =
    let set = c.args.set in
    let prepared = c.in_ok-prepared.prepared in
    rows_right c.args.bench c.of_bench-book.result 1 prepared.base prepared.edits set c.of_bench-book.ensures.state
    c.in_ok-prepared.ensures.base c.in_ok-prepared.ensures.edits c.requires.no_guards prepared.rows c.in_ok-prepared.ensures.right

pub enter-requires-clause-ahead : goal.enter-requires-clause-ahead
enter-requires-clause-ahead g c =
    let prepared = c.in_ok-prepared.prepared in
    ahead_right c.args.bench c.of_bench-book.result 1 prepared.base prepared.edits c.args.set c.of_bench-book.ensures.state
    c.in_ok-prepared.ensures.base c.in_ok-prepared.ensures.edits c.requires.no_guards prepared.ahead c.in_ok-prepared.ensures.ahead

pub returns-in-None-clause-judged : goal.returns-in-None-clause-judged
returns-in-None-clause-judged g c =
    let set = c.args.set in
    let prepared = c.in_ok-prepared.prepared in
    let new = c.enter.new.book in
    let reply = c.in_ok-reply.reply in
    settled_as c.args.bench c.of_bench-book.result 1 prepared.base prepared.edits set c.of_bench-book.ensures.state
    c.in_ok-prepared.ensures.base c.in_ok-prepared.ensures.edits c.requires.no_guards new reply c.in_ok-reply.ensures
    ∙ ap (λ refusal. left_unless refusal (history_of new).cell) (sym c.refusal_of.ensures ∙ c.in-None.is)
    ∙ ap Ok (sym c.into_bench.ensures)

pub returns-in-Some-clause-judged : goal.returns-in-Some-clause-judged
returns-in-Some-clause-judged g c =
    let set = c.args.set in
    let prepared = c.in_ok-prepared.prepared in
    let new = c.enter.new.book in
    let reply = c.in_ok-reply.reply in
    inl (settled_as c.args.bench c.of_bench-book.result 1 prepared.base prepared.edits set c.of_bench-book.ensures.state
    c.in_ok-prepared.ensures.base c.in_ok-prepared.ensures.edits c.requires.no_guards new reply c.in_ok-reply.ensures
    ∙ ap (λ refusal. left_unless refusal (history_of new).cell) (sym c.refusal_of.ensures ∙ c.in-Some.is))

pub returns-in-Some-clause-ends : goal.returns-in-Some-clause-ends
returns-in-Some-clause-ends g c =
    let set = c.args.set in
    let prepared = c.in_ok-prepared.prepared in
    let new = c.enter.new.book in
    let reply = c.in_ok-reply.reply in
    large_as c.args.bench c.of_bench-book.result 1 prepared.base prepared.edits set c.of_bench-book.ensures.state
    c.in_ok-prepared.ensures.base c.in_ok-prepared.ensures.edits c.requires.no_guards new reply c.in_ok-reply.ensures
    c.in-Some.refusal c.requires.found (sym c.refusal_of.ensures ∙ c.in-Some.is)
