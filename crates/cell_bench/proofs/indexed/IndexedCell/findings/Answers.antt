use Rattle.std.proofs.Common.{ap, ◌∙◌}
use Rattle.rule_spec.specs.Findings.{all_findings}
use Rattle.cell_bench.proofs.indexed.IndexedCell.findings.Goals as goal

pub returns : goal.returns
returns c =
    c.table.ensures ∙ c.verdict_tables_are_all.ensures c.self.inside.store c.self.inside.verdicts c.self.invariant.verdicts_are ∙ ap all_findings c.self.view_is
