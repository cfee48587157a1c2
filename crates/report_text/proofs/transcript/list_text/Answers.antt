use Rattle.std.proofs.Common.{◌++◌, ap, ◌∙◌}
use Rattle.std.specs.List.{flat_map}
use Rattle.cell_findings.specs.Rows.{line_of}
use Rattle.report_text.proofs.ShownFindings.{list_shown}
use Rattle.report_text.proofs.transcript.list_text.Goals as goal

pub returns : goal.returns
returns c =
    list_shown c.args.seen c.args.shown c.finding_count.result c.args.bench.now c.findings.result.now c.in_ok-first.first.items
    c.new-text.result.items c.push_state.new.out.items c.push_findings.new.out.items
    c.finding_count.ensures c.findings.ensures c.in_ok-first.ensures c.new-text.ensures.items c.in_ok-push_state.ensures
    (c.in_ok-push_findings.ensures.ok ∙ ap (λ found. c.push_state.new.out.items ++ flat_map line_of found) c.deref.ensures.value)
