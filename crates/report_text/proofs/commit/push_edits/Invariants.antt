use Rattle.std.proofs.Common.{◌≡◌, ◌++◌, take}
use Rattle.std.specs.List.{flat_map}
use Rattle.text_spec.specs.EditLine.{edit_line}
use Rattle.report_text.proofs.commit.push_edits.Given as goal

abbrev pub invariant-loop-edit : goal.invariant-loop-edit
invariant-loop-edit l = l.out.items ≡ l.initial.out.items ++ flat_map edit_line (take l.edit-index l.edits)
