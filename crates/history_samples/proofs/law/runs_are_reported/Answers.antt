use Rattle.std.proofs.Common.{refl}
use Rattle.std.specs.Fmt.{digits}
use Rattle.s57_types.specs.Fitness.{unfitness}
use Rattle.cell_spec.specs.Edits.{apply_edits}
use Rattle.edit_sets.specs.FormFault.{form_fault}
use Rattle.geometry_spec.specs.Signs.{meeting_of, lies_on}
use Rattle.rule_spec.specs.Boundary.{boundary_of, has_usable_boundary}
use Rattle.rule_spec.specs.EdgePoints.{edge_line_of}
use Rattle.rule_spec.specs.Findings.{subjects, findings_of_subject, all_findings}
use Rattle.rule_spec.specs.Sides.{uses_of}
use Rattle.text_spec.specs.CellText.{text_with}
use Rattle.history_spec.specs.ReportText.{report}
use Rattle.history_samples.proofs.law.runs_are_reported.Goals as goal

pub returns : goal.returns
unfolding digits form_fault unfitness report text_with all_findings findings_of_subject subjects meeting_of lies_on boundary_of
    has_usable_boundary edge_line_of uses_of apply_edits
returns c = record { minimal = refl; clash = refl; until_a_view = refl; two_sessions = refl; guards = refl; head = refl }
