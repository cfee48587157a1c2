use Rattle.std.proofs.Common.{◌≡◌, ◌++◌, ◌∙◌, ap, codes}
use Rattle.std.specs.List.{flat_map}
use Rattle.std.proofs.lemmas.Result.{on_ok_weaker}
use Rattle.text_spec.specs.CellText.{count_line, total_line}
use Rattle.cell_findings.specs.Rows.{line_of}
use Rattle.cell_findings.proofs.RowTexts.{text_with-findings}
use Rattle.cell_findings.proofs.text.push_part.Goals as goal

pub returns : goal.returns
returns c = λ rows is.
    let before = c.args.out.now.items in
    let cell = c.args.cell.now in
    let heading = c.in_ok-push_heading.ensures.ok cell c.counts_in.ensures ∙ ap (λ n. before ++ (count_line cell ++ total_line n)) c.len.ensures in
    let lines = c.in_ok-push_lines.ensures ∙ (λ i. heading i ++ flat_map line_of (c.as_slice.ensures i)) in
    on_ok_weaker c.push_end.result (λ (written : c.push_end.new.out.items ≡ c.push_lines.new.out.items ++ codes "end\n").
    written ∙ ap (λ text. text ++ codes "end\n") lines ∙ text_with-findings before cell rows c.args.findings.now is) c.push_end.ensures.ok
