use Rattle.std.proofs.Common.{◌≡◌, ◌++◌}
use Rattle.std.specs.List.{flat_map}
use Rattle.text_spec.specs.CellText.{row_lines}
use Rattle.report_text.proofs.findings.push_rows.Given as goal

abbrev pub invariant-loop-subject : goal.invariant-loop-subject
invariant-loop-subject l =
    l.out.items ++ flat_map row_lines l.subject-iterator ≡ l.initial.out.items ++ flat_map row_lines l.table
