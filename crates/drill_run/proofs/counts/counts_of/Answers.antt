use Rattle.std.proofs.Common.{◌∙◌, ap}
use Rattle.std.specs.Prelude.{count_by}
use Rattle.rule_spec.specs.Findings.{finding_total}
use Rattle.drill_run.specs.Drills.{is_refused_entry}
use Rattle.drill_run.proofs.Counted.{counts_of_log}
use Rattle.drill_run.proofs.counts.counts_of.Goals as goal

pub returns : goal.returns
returns c = λ scripts interleaved.
    counts_of_log c.args.book.now.opening scripts c.args.book.now.entries c.commits.result c.count_refusals.result c.finding_count.result
    c.commits.ensures (c.count_refusals.ensures ∙ ap (count_by is_refused_entry) c.entries.ensures)
    (c.finding_count.ensures ∙ ap finding_total c.bench.ensures)
    (c.entries_are_a_run.ensures c.args.book.now.opening scripts c.args.book.now.entries interleaved)
