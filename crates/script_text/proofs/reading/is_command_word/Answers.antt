use Rattle.std.proofs.Common.{refl}
use Rattle.std.proofs.lemmas.Bool.{both_ways}
use Rattle.script_text.proofs.Commands.{view_known, commit_known, drop_known, list_known, guard_known, del_known, add_known, set_known, set_last}
use Rattle.script_text.proofs.reading.is_command_word.Goals as goal

pub returns-then-is_word : goal.returns-then-is_word
returns-then-is_word c = (λ _. view_known c.args.word.now (c.is_word.ensures.0 c.if-is_word.true), λ _. refl)

pub returns-then-is_word-2 : goal.returns-then-is_word-2
returns-then-is_word-2 c = (λ _. commit_known c.args.word.now (c.is_word-2.ensures.0 c.if-is_word-2.true), λ _. refl)

pub returns-then-is_word-3 : goal.returns-then-is_word-3
returns-then-is_word-3 c = (λ _. drop_known c.args.word.now (c.is_word-3.ensures.0 c.if-is_word-3.true), λ _. refl)

pub returns-then-is_word-4 : goal.returns-then-is_word-4
returns-then-is_word-4 c = (λ _. list_known c.args.word.now (c.is_word-4.ensures.0 c.if-is_word-4.true), λ _. refl)

pub returns-then-is_word-5 : goal.returns-then-is_word-5
returns-then-is_word-5 c = (λ _. guard_known c.args.word.now (c.is_word-5.ensures.0 c.if-is_word-5.true), λ _. refl)

pub returns-then-is_word-6 : goal.returns-then-is_word-6
returns-then-is_word-6 c = (λ _. del_known c.args.word.now (c.is_word-6.ensures.0 c.if-is_word-6.true), λ _. refl)

pub returns : goal.returns
returns c = (
  λ is. set_known c.args.word.now (c.is_word-8.ensures.0 is),
  λ known. c.is_word-8.ensures.1 (set_last c.args.word.now (record {
    no_view = λ is. both_ways c.is_word.result c.if-is_word.false (c.is_word.ensures.1 is);
    no_commit = λ is. both_ways c.is_word-2.result c.if-is_word-2.false (c.is_word-2.ensures.1 is);
    no_drop = λ is. both_ways c.is_word-3.result c.if-is_word-3.false (c.is_word-3.ensures.1 is);
    no_list = λ is. both_ways c.is_word-4.result c.if-is_word-4.false (c.is_word-4.ensures.1 is);
    no_guard = λ is. both_ways c.is_word-5.result c.if-is_word-5.false (c.is_word-5.ensures.1 is);
    no_del = λ is. both_ways c.is_word-6.result c.if-is_word-6.false (c.is_word-6.ensures.1 is);
    no_add = λ is. both_ways c.is_word-7.result c.if-is_word-7.false (c.is_word-7.ensures.1 is);
  }) known),
)

pub returns-then-is_word-7 : goal.returns-then-is_word-7
returns-then-is_word-7 c = (λ _. add_known c.args.word.now (c.is_word-7.ensures.0 c.if-is_word-7.true), λ _. refl)
