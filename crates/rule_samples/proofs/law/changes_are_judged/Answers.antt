use Rattle.std.proofs.Common.{refl}
use Rattle.std.specs.Fmt.{digits}
use Rattle.std.proofs.lemmas.List.Sorted.{IsPermutation-refl, IsPermutation-reverse}
use Rattle.cell_spec.specs.Edits.{apply_edits, touched_keys}
use Rattle.rule_spec.specs.Affected.{affected_list, lookup_budget}
use Rattle.rule_spec.specs.Boundary.{boundary_of, has_usable_boundary}
use Rattle.rule_spec.specs.Candidates.{candidates_of, segments_named}
use Rattle.rule_spec.specs.EdgePoints.{edge_line_of}
use Rattle.geometry_spec.specs.Signs.{meeting_of, lies_on}
use Rattle.rule_spec.specs.Findings.{subjects, findings_of_subject}
use Rattle.rule_spec.specs.Sides.{uses_of}
use Rattle.rule_spec.specs.Reads.{read_set}
use Rattle.rule_samples.specs.Changes.{moved_rows}
use Rattle.rule_samples.proofs.law.changes_are_judged.Goals as goal

pub returns-clause-places : goal.returns-clause-places
unfolding apply_edits digits
returns-clause-places c = (refl, refl, refl, refl)

pub returns-clause-reads : goal.returns-clause-reads
unfolding apply_edits read_set
returns-clause-reads c = (refl, refl, refl, refl, refl, refl, refl, refl, refl)

pub returns-clause-touched : goal.returns-clause-touched
unfolding touched_keys
returns-clause-touched c = (refl, refl, refl, refl, refl)

pub returns-clause-affected : goal.returns-clause-affected
unfolding apply_edits touched_keys read_set affected_list lookup_budget candidates_of segments_named edge_line_of subjects
returns-clause-affected c = (refl, refl, refl)

pub returns-clause-members : goal.returns-clause-members
unfolding apply_edits touched_keys read_set affected_list candidates_of segments_named edge_line_of subjects
returns-clause-members c = (refl, refl, refl, refl, refl, refl)

pub returns-clause-head : goal.returns-clause-head
unfolding apply_edits touched_keys read_set affected_list candidates_of segments_named edge_line_of subjects findings_of_subject
    uses_of meeting_of lies_on boundary_of has_usable_boundary digits
returns-clause-head c = (refl, refl, refl, refl, refl, IsPermutation-refl _)

pub returns-clause-rows : goal.returns-clause-rows
unfolding apply_edits touched_keys read_set affected_list candidates_of segments_named edge_line_of subjects findings_of_subject uses_of meeting_of lies_on
returns-clause-rows c = (IsPermutation-reverse moved_rows, IsPermutation-refl _, refl)
