-- Which subjects are judged anew after edits, in which order, with which rows, and within how many lookups. This project's own rules.
use Rattle.std.specs.Prelude.{◌≡◌, ℕ, ◌+◌, ◌*◌, ◌&&◌, ◌||◌, Bool, true, false, not, List, [], ◌∷◌, ◌++◌, length, map, filter, flat_map, sum_by}
use Rattle.std.specs.Prelude.{IsPermutation, MatchBool, if◌then◌else◌}
use Rattle.std.specs.List.{list_any}
use Rattle.s57_types.specs.declared.name.RecName.{RecName}
use Rattle.s57_types.specs.declared.cell.Cell.{Cell}
use Rattle.cell_spec.specs.declared.edit.Edit.{Edit}
use Rattle.cell_spec.specs.declared.finding.Row.{Row}
use Rattle.cell_spec.specs.declared.key.Key.{Key}
use Rattle.cell_spec.specs.declared.key.Key.TheVariants.{Name, Refs, Foid}
use Rattle.cell_spec.specs.declared.key.Subject.{Subject}
use Rattle.cell_spec.specs.declared.key.Subject.TheVariants.{Rec, Side, Pair, Ident}
use Rattle.cell_spec.specs.Edits.{apply_edits, is_applicable, touched_keys}
use Rattle.cell_spec.specs.Names.{is_head_name, same_key, same_subject}
use Rattle.rule_spec.specs.Candidates.{are_candidates, candidates_of}
use Rattle.rule_spec.specs.Findings.{is_subject, subjects, is_below, findings_of_subject}
use Rattle.rule_spec.specs.Reads.{read_set}
use Rattle.rule_spec.specs.Records.{is_edge_name}

-- whether a subject's read set holds a key
abbrev pub reads_key : Cell → Key → Subject → Bool
reads_key c k s = list_any (same_key k) (read_set c s)

-- a row is still valid where its read set holds no invalidated key
abbrev pub is_still_valid : List Key → Row → Bool
is_still_valid stale row = not (list_any (λ k. list_any (same_key k) row.reads) stale)

-- a record, a side or an identifier
abbrev pub is_single : Subject → Bool
is_single (Rec n) = true
is_single (Side n) = true
is_single (Pair a b) = false
is_single (Ident l) = true

-- what edits make of a cell: before, after, and the keys touched
pub record Change : Type 0 where
  pub before : Cell
  pub after : Cell
  pub touched : List Key

abbrev pub change_by : List Edit → Cell → Change
change_by edits c = record { before = c; after = apply_edits edits c; touched = touched_keys edits c }

-- a subject, not a pair, of the cell before or after, whose read set there or then holds a touched key
abbrev pub is_single_affected : Change → Subject → Bool
is_single_affected ch s =
    is_single s && (is_subject ch.before s || is_subject ch.after s) && list_any (λ k. reads_key ch.before k s || reads_key ch.after k s) ch.touched

-- the first of two names is a record that is affected, and the second may touch it before or after
abbrev pub is_affected_with : Change → RecName → RecName → Bool
is_affected_with ch a b = is_single_affected ch (Rec a) && (are_candidates ch.before a b || are_candidates ch.after a b)

-- the affected subjects: those, and each pair of an affected node or edge with one that may touch it before or after
abbrev pub is_affected : Change → Subject → Bool
is_affected ch (Rec n) = is_single_affected ch (Rec n)
is_affected ch (Side n) = is_single_affected ch (Side n)
is_affected ch (Pair a b) = is_below a b && (is_affected_with ch a b || is_affected_with ch b a)
is_affected ch (Ident l) = is_single_affected ch (Ident l)

-- the subjects that a key names; the head is no subject
abbrev pub named_by : Key → List Subject
named_by (Name n) = (if is_head_name n then [] else Rec n ∷ []) ++ (if is_edge_name n then Side n ∷ [] else [])
named_by (Refs n) = []
named_by (Foid l) = Ident l ∷ []

-- the first round: for each touched key, ascending, the subjects of the cell before whose read set holds it, ascending, then those that it names
abbrev pub first_round : Change → List Subject
first_round ch = flat_map (λ k. filter (λ s. is_single s && reads_key ch.before k s) (subjects ch.before) ++ named_by k) ch.touched

-- two names as a pair, the lesser first
abbrev pub pair_of : RecName → RecName → Subject
pair_of a b = if is_below a b then Pair a b else Pair b a

-- the pairs of a record with those that may touch it before, then with those that may touch it after
abbrev pub pairs_with : Change → Subject → List Subject
pairs_with ch (Rec n) = map (pair_of n) (candidates_of ch.before n) ++ map (pair_of n) (candidates_of ch.after n)
pairs_with ch (Side n) = []
pairs_with ch (Pair a b) = []
pairs_with ch (Ident l) = []

-- each item once, at the place where it first comes
abbrev pub each_once : List Subject → List Subject
each_once [] = []
each_once (s ∷ ss) = s ∷ filter (λ t. not (same_subject s t)) (each_once ss)

-- what is looked at after edits: the first round, then the pairs of its records in that order
abbrev pub considered : Change → List Subject
considered ch = let first = first_round ch in first ++ flat_map (pairs_with ch) first

-- the affected subjects of the edited cell in the order in which they are looked at first
unfoldable pub affected_list : Change → List Subject
affected_list ch = filter (is_subject ch.after) (each_once (considered ch))

-- the row of a subject of a cell
abbrev pub exact_row : Cell → Subject → Row
exact_row c s = record { subject = s; findings = findings_of_subject c s; reads = read_set c s }

-- rows computed for edits on a cell are exact: one for each affected subject of the edited cell, right there, in any order, and no other;
-- none where the cell doesn't take the edits
abbrev pub RowsAreExact : List Edit → Cell → List Row → Type 0
RowsAreExact edits c rows =
    let ch = change_by edits c in
    MatchBool (is_applicable edits c) (IsPermutation rows (map (exact_row ch.after) (affected_list ch))) (rows ≡ [])

-- a row for a subject stands among some rows and is still valid
abbrev pub has_valid_row : List Key → List Row → Subject → Bool
has_valid_row stale rows s = list_any (λ (row : Row). same_subject s row.subject && is_still_valid stale row) rows

-- the affected subjects that have no valid row, in the order of the affected list
abbrev pub judged_anew : Change → List Key → List Row → List Subject
judged_anew ch stale rows = filter (λ s. not (has_valid_row stale rows s)) (affected_list ch)

-- the length of a subject's read set in a cell that has the subject; a cell that lacks it counts none, though the read set is defined there too
abbrev pub reads_counted : Cell → Subject → ℕ
reads_counted c s = if is_subject c s then length (read_set c s) else 0

-- how many lookups may judge some of the affected subjects: four for each key of their read sets before and after, each touched key and each edit
unfoldable pub lookup_budget : List Edit → Cell → List Subject → ℕ
lookup_budget edits c judged =
    let ch = change_by edits c in
    4 * (sum_by (λ s. reads_counted ch.before s + reads_counted ch.after s) judged + length ch.touched + length edits)

-- how many lookups a plan of edits may make: for edits that a cell takes those that judge the affected subjects without a valid row, else four
-- for each edit
abbrev pub plan_budget : List Edit → Cell → List Key → List Row → ℕ
plan_budget edits c stale rows =
    if is_applicable edits c then lookup_budget edits c (judged_anew (change_by edits c) stale rows) else 4 * length edits
