use Rattle.std.proofs.Common.{Some, option_map, ap, ◌∙◌}
use Rattle.cell_spec.specs.declared.key.Key.TheVariants.{Name}
use Rattle.near_records.specs.Near.{answer_held}
use Rattle.near_records.proofs.NearAnswers.{are_answers, finds_first}
use Rattle.near_records.proofs.near.find_named.Goals as goal

pub returns-then-answers-le-FEW_ANSWERS : goal.returns-then-answers-le-FEW_ANSWERS
returns-then-answers-le-FEW_ANSWERS c = λ cell keys all asked.
    ap (option_map answer_held) c.first_to_name.ensures ∙ finds_first c.args.answers.now (Name c.args.name) cell keys all asked

pub returns-in-Some : goal.returns-in-Some
returns-in-Some c = λ cell keys all asked. ap Some (c.in-Some.ensures cell (are_answers cell keys c.args.answers.now all))
