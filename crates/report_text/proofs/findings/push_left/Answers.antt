use Rattle.std.proofs.Common.{◌≡◌, ◌++◌, ◌∙◌, ap, codes}
use Rattle.std.specs.List.{flat_map}
use Rattle.std.proofs.lemmas.Result.{on_ok_weaker}
use Rattle.rule_spec.specs.Findings.{all_findings}
use Rattle.text_spec.specs.CellText.{count_line, row_lines, total_line}
use Rattle.cell_findings.proofs.RowTexts.{text_with-rows}
use Rattle.report_text.proofs.findings.push_left.Goals as goal

pub returns : goal.returns
returns c =
    let before = c.args.out.now.items in
    let cell = c.args.bench.now in
    let heading = c.in_ok-push_heading.ensures.ok cell c.counts_in.ensures
    ∙ ap (λ n. before ++ (count_line cell ++ total_line n)) c.finding_count.ensures in
    let lines = c.in_ok-push_rows.ensures ∙ (λ i. heading i ++ flat_map row_lines (c.findings.ensures i)) in
    on_ok_weaker c.push_end.result (λ (written : c.push_end.new.out.items ≡ c.push_rows.new.out.items ++ codes "end\n").
    written ∙ ap (λ text. text ++ codes "end\n") lines ∙ text_with-rows before cell (all_findings cell)) c.push_end.ensures.ok
