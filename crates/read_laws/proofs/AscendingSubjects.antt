-- The findings about each subject ascend.
use Rattle.std.proofs.Common.{ℕ, Bool, true, false, List, [], ◌∷◌, Option, None, Some, cond, map, filter, find, length, is_some, not, ◌==◌, ◌&&◌, refl}
use Rattle.std.specs.List.{AllByRecursion, enumerate_from}
use Rattle.std.specs.List.Sorted.{IsStrictlySortedBy}
use Rattle.std.specs.Option.{option_map_or}
use Rattle.s57_types.specs.declared.cell.Cell.{Cell}
use Rattle.s57_types.specs.declared.name.Lnam.{Lnam}
use Rattle.s57_types.specs.declared.name.RecName.{RecName}
use Rattle.s57_types.specs.declared.record.Feature.{Feature}
use Rattle.s57_types.specs.declared.record.Rec.{Rec as Record}
use Rattle.s57_types.specs.declared.record.Rec.TheVariants.{V, F, H}
use Rattle.s57_types.specs.declared.record.Vector.{Vector}
use Rattle.cell_spec.specs.Lookup.{lookup_record}
use Rattle.cell_spec.specs.Names.{finding_order}
use Rattle.cell_spec.specs.declared.finding.Finding.{Finding}
use Rattle.cell_spec.specs.declared.key.Subject.{Subject}
use Rattle.cell_spec.specs.declared.key.Subject.TheVariants.{Rec, Side, Pair, Ident}
use Rattle.geometry_spec.specs.Points.{Point}
use Rattle.rule_spec.specs.Boundary.{arc_of, boundary_of, has_usable_boundary, has_whole_loops, is_exterior, is_mixed, loops_of, turns_wrongly}
use Rattle.rule_spec.specs.Contacts.{contact_of_lines, found_contact, is_contact_of_kind, segment_under}
use Rattle.rule_spec.specs.EdgePoints.{edge_line_of, line_of, node_position, segments_of}
use Rattle.rule_spec.specs.Features.{is_beyond_ascii}
use Rattle.rule_spec.specs.Findings.{findings_about, findings_of_record, findings_of_subject, is_subject}
use Rattle.rule_spec.specs.Loops.{first_open_place}
use Rattle.rule_spec.specs.Rule.{Found, found_at, places_where}
use Rattle.rule_spec.specs.RuleRow.{RuleRow}
use Rattle.rule_spec.specs.Rules.{vector_rules, pair_rules, feature_rules, side_rules, identity_rules}
use Rattle.rule_spec.specs.Sides.{found_use, is_truncated, side_counts, uses_of}
use Rattle.rule_spec.specs.Vectors.{Numbered, first_wrong_meeting, found_pair, is_closed_line, self_meet_of, stacked_segment}
use Rattle.rule_spec.specs.declared.line.EdgeLine.{EdgeLine}
use Rattle.rule_spec.specs.declared.side.EdgeUse.{EdgeUse}
use Rattle.read_laws.specs.FindingsAscend.{FindingsAscend}
use Rattle.read_laws.proofs.Ascents.{Ascends, none_ascends, one_ascends, when_ascends, unless_ascends, if_ascends, when_if_ascends, at_ascends}
use Rattle.read_laws.proofs.Ascents.{first_ascends, places_ascend}
use Rattle.read_laws.proofs.AscendingLoops.{loops_ascend}
use Rattle.read_laws.proofs.AscendingRules.{rules_ascend}

-- each rule's findings ascend: most rules give one at most, the others places
abbrev AllAscend : {R : Type 0} → (R → Found) → List (RuleRow R) → Type 0
AllAscend {R} judge rules = AllByRecursion (λ (r : RuleRow R). Ascends (judge r.rule)) rules

stacked_ascends : (line : Option EdgeLine) → Ascends (option_map_or (λ (line : EdgeLine). found_at (stacked_segment line.points)) line [])
stacked_ascends None = none_ascends
stacked_ascends (Some line) = at_ascends (stacked_segment line.points)

pair_ascends : (pair : Option (Numbered × Numbered)) → Ascends (found_pair pair)
pair_ascends None = none_ascends
pair_ascends (Some pair) = one_ascends (pair.0.0 ∷ pair.1.0 ∷ [])

meeting_ascends : (line : Option EdgeLine) → Ascends (option_map_or (λ (line : EdgeLine). self_meet_of line.points) line [])
meeting_ascends None = none_ascends
meeting_ascends (Some line) =
    let pair = first_wrong_meeting (is_closed_line line.points) (enumerate_from 1 (segments_of line.points)) in
    unless_ascends (is_some (stacked_segment line.points)) (found_pair pair) (pair_ascends pair)

vectors_ascend : (c : Cell) (v : Vector) → AllAscend (λ rule. rule c v) vector_rules
vectors_ascend c v = (
  if_ascends _ _,
  (
    when_if_ascends _ _ _,
    (
      when_ascends _ _ (places_ascend _ v.ends),
      (
        when_ascends _ _ (stacked_ascends (line_of c v)),
        (
          when_ascends _ _ (meeting_ascends (line_of c v)),
          (when_if_ascends _ _ _, tt),
        ),
      ),
    ),
  ),
)

contact_ascends : (kind : ℕ) (pair : Option (Numbered × Numbered)) → Ascends (found_contact kind pair)
contact_ascends kind None = none_ascends
contact_ascends kind (Some pair) = if_ascends (is_contact_of_kind kind pair) _

lines_ascend : (kind : ℕ) (c : Cell) (a b : Option EdgeLine) → Ascends (contact_of_lines kind c a b)
lines_ascend kind c None b = none_ascends
lines_ascend kind c (Some a) None = none_ascends
lines_ascend kind c (Some a) (Some b) = contact_ascends kind _

under_ascends : (place : Option Point) (line : Option EdgeLine) → Ascends (segment_under place line)
under_ascends None line = none_ascends
under_ascends (Some w) None = none_ascends
under_ascends (Some w) (Some line) = at_ascends _

pairs_ascend : (c : Cell) (a b : RecName) → AllAscend (λ rule. rule c a b) pair_rules
pairs_ascend c a b =
    let contact = λ (kind : ℕ). lines_ascend kind c (edge_line_of c a) (edge_line_of c b) in
    (contact 7, (contact 8, (contact 9, (if_ascends _ _, (unless_ascends _ _ (under_ascends (node_position c a) (edge_line_of c b)), tt)))))

features_ascend : (c : Cell) (f : Feature) → AllAscend (λ rule. rule c f) feature_rules
features_ascend c f =
    let usable = has_usable_boundary c f in
    let rows = boundary_of c f in
    let gap = first_open_place (map arc_of rows) in
    let outer = length (filter is_exterior (loops_of rows)) in (
      if_ascends _ _,
      (
        places_ascend _ f.places,
        (
          places_ascend _ f.places,
          (
            when_ascends usable (found_at gap) (at_ascends gap),
            (
              when_ascends _ _ (loops_ascend is_mixed c f),
              (
                when_if_ascends (usable && has_whole_loops rows) (not (outer == 1)) (outer ∷ []),
                (
                  when_ascends _ _ (loops_ascend turns_wrongly c f),
                  (
                    places_ascend _ f.partners,
                    (if_ascends _ _, (when_ascends _ _ (first_ascends (places_where is_beyond_ascii f.attf)), tt)),
                  ),
                ),
              ),
            ),
          ),
        ),
      ),
    )

use_ascends : (u : Option EdgeUse) → Ascends (found_use u)
use_ascends None = none_ascends
use_ascends (Some u) = one_ascends (u.pointer.from.id ∷ u.pointer.place ∷ [])

sides_ascend : (c : Cell) (n : RecName) → AllAscend (λ rule. rule c n) side_rules
sides_ascend c n =
    let counts = side_counts (uses_of c n) in
    let cut = find is_truncated (uses_of c n) in (
      if_ascends _ _,
      (
        if_ascends _ _,
        (
          if_ascends _ _,
          (
            when_ascends (counts.coverage_forward == counts.coverage_reverse)
                (found_use cut) (use_ascends cut),
            tt,
          ),
        ),
      ),
    )

identities_ascend : (c : Cell) (l : Lnam) → AllAscend (λ rule. rule c l) identity_rules
identities_ascend c l = (if_ascends _ _, tt)

record_ascends : (c : Cell) (r : Record) → IsStrictlySortedBy finding_order (findings_of_record c r)
unfolding IsStrictlySortedBy
record_ascends c (V v) = rules_ascend (λ rule. rule c v) 0 vector_rules refl (vectors_ascend c v)
record_ascends c (F f) = rules_ascend (λ rule. rule c f) 0 feature_rules refl (features_ascend c f)
record_ascends c (H h) = tt

found_record_ascends : (c : Cell) (r : Option Record) → IsStrictlySortedBy finding_order (option_map_or (findings_of_record c) r [])
unfolding IsStrictlySortedBy
found_record_ascends c None = tt
found_record_ascends c (Some r) = record_ascends c r

about_ascends : (c : Cell) (s : Subject) → IsStrictlySortedBy finding_order (findings_about c s)
about_ascends c (Rec n) = found_record_ascends c (lookup_record c n)
about_ascends c (Side n) = rules_ascend (λ rule. rule c n) 0 side_rules refl (sides_ascend c n)
about_ascends c (Pair a b) = rules_ascend (λ rule. rule c a b) 0 pair_rules refl (pairs_ascend c a b)
about_ascends c (Ident l) = rules_ascend (λ rule. rule c l) 0 identity_rules refl (identities_ascend c l)

judged_ascends : (there : Bool) (findings : List Finding) → IsStrictlySortedBy finding_order findings
    → IsStrictlySortedBy finding_order (cond there findings [])
unfolding IsStrictlySortedBy
judged_ascends true findings ascent = ascent
judged_ascends false findings ascent = tt

pub findings_ascend : FindingsAscend
unfolding findings_of_subject
findings_ascend c s = judged_ascends (is_subject c s) (findings_about c s) (about_ascends c s)
