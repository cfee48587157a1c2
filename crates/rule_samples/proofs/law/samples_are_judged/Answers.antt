use Rattle.std.proofs.Common.{refl}
use Rattle.cell_spec.specs.Edits.{apply_edits}
use Rattle.geometry_spec.specs.Signs.{meeting_of, lies_on}
use Rattle.rule_spec.specs.Boundary.{boundary_of, has_usable_boundary}
use Rattle.rule_spec.specs.EdgePoints.{edge_line_of}
use Rattle.rule_spec.specs.Findings.{subjects, findings_of_subject, all_findings}
use Rattle.rule_spec.specs.Sides.{uses_of}
use Rattle.rule_samples.proofs.law.samples_are_judged.Goals as goal

pub returns : goal.returns
unfolding all_findings findings_of_subject subjects meeting_of lies_on boundary_of has_usable_boundary edge_line_of uses_of apply_edits
returns c = record { vectors = refl; pairs = refl; features = refl; sides = refl; one_place = refl }
