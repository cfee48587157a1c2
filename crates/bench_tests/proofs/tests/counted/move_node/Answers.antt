use Rattle.std.proofs.Common.{[], ◌∷◌, ap, arith}
use Rattle.s57_types.specs.declared.cell.Cell.{Cell}
use Rattle.cell_spec.specs.declared.edit.Edit.{Edit}
use Rattle.rule_spec.specs.Affected.{plan_budget}
use Rattle.cell_make.specs.Square.{square}
use Rattle.bench_tests.proofs.SquareBudget.{move_budget}
use Rattle.bench_tests.proofs.tests.counted.move_node.Goals as goal

pub returns : goal.returns
returns g c =
    let same = ap (λ (cell : Cell). plan_budget (c.args.edit ∷ []) cell [] []) c.requires.bench in
    let of_edit = ap (λ (edit : Edit). plan_budget (edit ∷ []) square [] []) c.requires.edit in
    omega (arith, c.commit.ensures, same, of_edit, move_budget)
