-- What a cell answers to a key after edits, by what it answered before. This project's own rules.
use Rattle.std.specs.Prelude.{◌≡◌, true, false, Bool, not, List, ◌++◌, Option, None, Some, map, filter, find, filter_map, flat_map}
use Rattle.std.specs.List.{IsDistinct, list_all, list_any}
use Rattle.s57_types.specs.declared.name.Kind.TheVariants.{Head as HeadKind}
use Rattle.s57_types.specs.declared.name.RecName.{RecName}
use Rattle.s57_types.specs.declared.name.Lnam.{Lnam}
use Rattle.s57_types.specs.declared.record.Rec.{Rec}
use Rattle.s57_types.specs.declared.record.Rec.TheVariants.{V, F, H}
use Rattle.s57_types.specs.declared.cell.Cell.{Cell}
use Rattle.cell_spec.specs.declared.edit.Edit.{Edit}
use Rattle.cell_spec.specs.declared.key.Key.{Key}
use Rattle.cell_spec.specs.declared.key.Ref.{Ref}
use Rattle.cell_spec.specs.AnswersAlike.{AnswerAlike}
use Rattle.cell_spec.specs.Ascending.{ascending}
use Rattle.cell_spec.specs.Edits.{name_of_edit, added_by, left_by, edited_record, head_after, apply_edits, find_their_records, touched_keys}
use Rattle.cell_spec.specs.Lookup.{head_and_records, name_of, is_named, bears, pointers_in, lookup_record, lookup_pointers, lookup_identity}
use Rattle.cell_spec.specs.Names.{is_of_kind, same_key, same_name, ref_order, name_order}
use Rattle.cell_spec.specs.Writable.{HaveDistinctNames}

-- a record of one of the four kinds of records has a list to stand in
abbrev pub has_a_list : Rec → Bool
has_a_list r = not (is_of_kind HeadKind (name_of r))

-- edits of different names, each of which finds what it needs in a cell of which no two of the head and the records have one name, and which
-- add records that have a list to stand in
pub record FindTheirRecords (edits : List Edit) (c : Cell) : Type 0 where
  pub names : HaveDistinctNames (head_and_records c)
  pub different : IsDistinct same_name (map name_of_edit edits)
  pub found : find_their_records edits c ≡ true
  pub placed : list_all has_a_list (filter_map added_by edits) ≡ true

-- no edit is about what has the name
abbrev pub is_unedited : List Edit → RecName → Bool
is_unedited edits n = not (list_any (λ edit. same_name (name_of_edit edit) n) edits)

-- what edits make of what has a name: of a record, or of the head
abbrev pub edited_answer : List Edit → Rec → Option Rec
edited_answer edits (V v) = edited_record edits (V v)
edited_answer edits (F f) = edited_record edits (F f)
edited_answer edits (H h) = Some (H (head_after edits h))

-- what has a name after edits: what they make of what had it, or else the record of that name that they add
abbrev pub record_after : List Edit → RecName → Option Rec → Option Rec
record_after edits n (Some r) = edited_answer edits r
record_after edits n None = find (is_named n) (filter_map added_by edits)

-- the pointers to a name after edits: those of unedited records, and those of the records that edits leave
abbrev pub pointers_after : List Edit → RecName → List Ref → List Ref
pointers_after edits n before =
    ascending ref_order (filter (λ (r : Ref). is_unedited edits r.from) before ++ flat_map (pointers_in n) (filter_map left_by edits))

-- the bearers of an identifier after edits: those that aren't edited, and those that edits leave
abbrev pub bearers_after : List Edit → Lnam → List RecName → List RecName
bearers_after edits l before = ascending name_order (filter (is_unedited edits) before ++ map name_of (filter (bears l) (filter_map left_by edits)))

-- what an edited cell answers to each key
pub record AnswersAfter (edits : List Edit) (c : Cell) : Type 0 where
  pub records : (n : RecName) → lookup_record (apply_edits edits c) n ≡ record_after edits n (lookup_record c n)
  pub pointers : (n : RecName) → lookup_pointers (apply_edits edits c) n ≡ pointers_after edits n (lookup_pointers c n)
  pub identities : (l : Lnam) → lookup_identity (apply_edits edits c) l ≡ bearers_after edits l (lookup_identity c l)

abbrev pub EditedAnswers : Type 0
EditedAnswers = (edits : List Edit) (c : Cell) → FindTheirRecords edits c → AnswersAfter edits c

-- cells that answer alike to a key answer alike to it after the same edits
abbrev pub EditedAnswersAreLocal : Type 0
EditedAnswersAreLocal = (edits : List Edit) (c d : Cell) → FindTheirRecords edits c → FindTheirRecords edits d → (k : Key) → AnswerAlike c d k
    → AnswerAlike (apply_edits edits c) (apply_edits edits d) k

-- edits touch a key
abbrev pub is_touched : List Edit → Cell → Key → Bool
is_touched edits c k = list_any (same_key k) (touched_keys edits c)

-- the answer to a key that edits don't touch stays
abbrev pub UntouchedKeysKeepAnswers : Type 0
UntouchedKeysKeepAnswers = (edits : List Edit) (c : Cell) → FindTheirRecords edits c → (k : Key) → is_touched edits c k ≡ false
    → AnswerAlike c (apply_edits edits c) k
