-- Subjects and findings of a cell.
use Rattle.std.specs.Prelude.{ℕ, ◌&&◌, Bool, List, [], ◌∷◌, ◌++◌, length, map, filter, flat_map, sum_by, is_some, slice_index, nat_lt, if◌then◌else◌}
use Rattle.std.specs.Option.{option_map_or}
use Rattle.std.specs.Ordering.{is_lt}
use Rattle.s57_types.specs.declared.name.Lnam.{Lnam}
use Rattle.s57_types.specs.declared.name.RecName.{RecName}
use Rattle.s57_types.specs.declared.record.Rec.{Rec as Record}
use Rattle.s57_types.specs.declared.record.Rec.TheVariants.{V, F, H}
use Rattle.s57_types.specs.declared.cell.Cell.{Cell}
use Rattle.cell_spec.specs.declared.finding.Finding.{Finding}
use Rattle.cell_spec.specs.declared.key.Subject.{Subject}
use Rattle.cell_spec.specs.declared.key.Subject.TheVariants.{Rec, Side, Pair, Ident}
use Rattle.cell_spec.specs.Ascending.{ascending}
use Rattle.cell_spec.specs.Lookup.{all_records, name_of, identities_of, listed_record, lookup_record, lookup_identity}
use Rattle.cell_spec.specs.Names.{name_order, subject_order}
use Rattle.rule_spec.specs.Records.{edge_named, is_chain_part}
use Rattle.rule_spec.specs.Rule.{Found}
use Rattle.rule_spec.specs.RuleRow.{RuleRow}
use Rattle.rule_spec.specs.Rules.{vector_rules, pair_rules, feature_rules, side_rules, identity_rules}

abbrev pub is_below : RecName → RecName → Bool
is_below a b = is_lt (name_order a b)

-- whether a cell has a subject: each record, but not the head, the side of each edge, each two connected nodes or edges with the lesser name first, and
-- each identifier that a feature bears
abbrev pub is_subject : Cell → Subject → Bool
is_subject c (Rec n) = is_some (listed_record c n)
is_subject c (Side n) = is_some (edge_named c n)
is_subject c (Pair a b) = is_below a b && is_chain_part c a && is_chain_part c b
is_subject c (Ident l) = nat_lt 0 (length (lookup_identity c l))

-- the names of all records
abbrev pub record_names : Cell → List RecName
record_names c = map name_of (all_records c)

-- all that may be a subject, by the names and identifiers of a cell's records
abbrev pub possible_subjects : List RecName → List Lnam → List Subject
possible_subjects names identities = map Rec names ++ map Side names ++ flat_map (λ a. map (Pair a) names) names ++ map Ident identities

-- the subjects of a cell, ascending
unfoldable pub subjects : Cell → List Subject
subjects c = ascending subject_order (filter (is_subject c) (possible_subjects (record_names c) (flat_map identities_of (all_records c))))

-- a finding of a kind; numbers that it doesn't use are 0
abbrev pub finding : ℕ → List ℕ → Finding
finding kind nums = record { kind = kind; nums = slice_index nums 0 ∷ slice_index nums 1 ∷ slice_index nums 2 ∷ slice_index nums 3 ∷ [] }

-- the findings of rules; `judge` gives a rule its subject
abbrev pub findings_of_rules : {R : Type 0} → (R → Found) → List (RuleRow R) → List Finding
findings_of_rules {R} judge rules = flat_map (λ (r : RuleRow R). map (finding r.label.kind) (judge r.rule)) rules

-- the findings about a record
abbrev pub findings_of_record : Cell → Record → List Finding
findings_of_record c (V v) = findings_of_rules (λ rule. rule c v) vector_rules
findings_of_record c (F f) = findings_of_rules (λ rule. rule c f) feature_rules
findings_of_record c (H h) = []

-- the findings about what is named by a subject
abbrev pub findings_about : Cell → Subject → List Finding
findings_about c (Rec n) = option_map_or (findings_of_record c) (lookup_record c n) []
findings_about c (Side n) = findings_of_rules (λ rule. rule c n) side_rules
findings_about c (Pair a b) = findings_of_rules (λ rule. rule c a b) pair_rules
findings_about c (Ident l) = findings_of_rules (λ rule. rule c l) identity_rules

-- the findings about a subject by all rules, ascending by kind and numbers; none for what is no subject of the cell
unfoldable pub findings_of_subject : Cell → Subject → List Finding
findings_of_subject c s = if is_subject c s then findings_about c s else []

-- those of some subjects that have a finding, each with its findings
abbrev pub findings_among : Cell → List Subject → List (Subject × List Finding)
findings_among c ss = filter (λ (row : Subject × List Finding). nat_lt 0 (length row.1)) (map (λ s. (s, findings_of_subject c s)) ss)

-- the subjects that have a finding, ascending, each with its findings
unfoldable pub all_findings : Cell → List (Subject × List Finding)
all_findings c = findings_among c (subjects c)

-- how many findings a cell has
abbrev pub finding_total : Cell → ℕ
finding_total c = sum_by (λ (row : Subject × List Finding). length row.1) (all_findings c)
