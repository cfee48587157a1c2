use Rattle.std.proofs.Common.{◌≤◌, ap, subst}
use Rattle.history_spec.specs.Steps.{finding_limit}
use Rattle.rule_spec.specs.Findings.{finding_total}
use Rattle.cell_bench.specs.Verdicts.{total_of}
use Rattle.cell_bench.proofs.indexed.IndexedCell.known.Goals as goal

pub returns-clause-few : goal.returns-clause-few
returns-clause-few c =
    subst (λ cell. finding_total cell ≤ finding_limit) c.self.view_is
    (subst (λ count. count ≤ finding_limit) (ap total_of (c.verdict_tables_are_all.ensures c.self.inside.store c.self.inside.verdicts
    c.self.invariant.verdicts_are)) c.self.invariant.few)
