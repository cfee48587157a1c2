use Rattle.std.proofs.Common.{ap, ◌∙◌}
use Rattle.rule_spec.specs.Findings.{finding_total}
use Rattle.cell_bench.specs.Verdicts.{total_of}
use Rattle.cell_bench.proofs.indexed.IndexedCell.finding_count.Goals as goal

pub returns : goal.returns
returns c =
    c.count.ensures
    ∙ ap total_of (c.verdict_tables_are_all.ensures c.self.inside.store c.self.inside.verdicts c.self.invariant.verdicts_are)
    ∙ ap finding_total c.self.view_is
