-- A cell refuses edits because of its records exactly where it doesn't take them.
use Rattle.std.proofs.Common.{◌≡◌, ℕ, Bool, true, false, ◌&&◌, List, [], ◌∷◌, length, Option, None, Some, refl, ap, ◌∙◌, arith, if◌then◌else◌}
use Rattle.std.specs.Prelude.{not, nat_le, nat_lt, is_some, filter_map}
use Rattle.std.specs.List.{list_all, cons_option}
use Rattle.std.specs.Option.{option_map_or}
use Rattle.std.proofs.lemmas.Bool.Decides.{nat_tests}
use Rattle.s57_types.specs.declared.cell.Cell.{Cell}
use Rattle.cell_spec.specs.Edits.{apply_edits, find_their_records, has_its_record, head_after, leave_a_long_head}
use Rattle.cell_spec.specs.Lookup.{all_records, name_of, listed_record}
use Rattle.cell_spec.specs.declared.edit.Edit.{Edit}
use Rattle.cell_spec.specs.declared.edit.Edit.TheVariants.{Add, Set, Del, Head}
use Rattle.cell_spec.specs.Writable.{record_limit}
use Rattle.s57_types.specs.RecordFields.{identification_length}
use Rattle.rule_spec.specs.Findings.{finding_total}
use Rattle.history_spec.specs.Steps.{first_of, edit_refusal, size_refusal, finding_limit}
use Rattle.history_spec.specs.declared.refusal.StateRefusal.{StateRefusal}
use Rattle.history_spec.specs.declared.refusal.StateRefusal.TheVariants.{AddExists, SetMissing, DelMissing, CellFull, FindingsFull, HeadTooLong}
use Rattle.edit_laws.specs.KeptWritable.{is_taken, RefusalsAreExact}

-- the refusal of the first edit that has one, or else another
abbrev first_or : List StateRefusal → Option StateRefusal → Option StateRefusal
first_or refusals last = option_map_or Some (first_of refusals) last

first_edit : (c : Cell) (edit : Edit) (refusals : List StateRefusal) (last : Option StateRefusal) (rest : Bool) → is_taken (first_or refusals last) ≡ rest
    → is_taken (first_or (cons_option (edit_refusal c edit) refusals) last) ≡ (has_its_record c edit && rest)
first_edit c (Add r) refusals last rest others = by (is_some (listed_record c (name_of r)))
  where
    by : (there : Bool) → is_taken (first_or (cons_option (if there then Some (AddExists (name_of r)) else None) refusals) last) ≡ (not there && rest)
    by true = refl
    by false = others
first_edit c (Set r) refusals last rest others = by (is_some (listed_record c (name_of r)))
  where
    by : (there : Bool) → is_taken (first_or (cons_option (if there then None else Some (SetMissing (name_of r))) refusals) last) ≡ (there && rest)
    by true = others
    by false = refl
first_edit c (Head e) refusals last rest others = others
first_edit c (Del n) refusals last rest others = by (is_some (listed_record c n))
  where
    by : (there : Bool) → is_taken (first_or (cons_option (if there then None else Some (DelMissing n)) refusals) last) ≡ (there && rest)
    by true = others
    by false = refl

and_assoc : (a b c : Bool) → (a && (b && c)) ≡ ((a && b) && c)
and_assoc true b c = refl
and_assoc false b c = refl

taken_by_edits : (c : Cell) (edits : List Edit) (last : Option StateRefusal) → is_taken (first_or (filter_map (edit_refusal c) edits) last) ≡
    (list_all (has_its_record c) edits && is_taken last)
taken_by_edits c [] last = refl
taken_by_edits c (edit ∷ edits) last =
    first_edit c edit (filter_map (edit_refusal c) edits) last (list_all (has_its_record c) edits && is_taken last) (taken_by_edits c edits last)
    ∙ and_assoc (has_its_record c edit) (list_all (has_its_record c) edits) (is_taken last)

within_or_above : (a b : ℕ) → not (nat_lt a b) ≡ nat_le b a
within_or_above a b = grind (arith, nat_tests)

taken_by_size : (c : Cell) (edits : List Edit) → is_taken (size_refusal c edits) ≡
    (nat_le (length (all_records (apply_edits edits c))) record_limit && not (leave_a_long_head edits c))
taken_by_size c edits =
    by (nat_lt record_limit records) (leave_a_long_head edits c) (nat_lt finding_limit (finding_total (apply_edits edits c)))
    ∙ ap (λ b. b && not (leave_a_long_head edits c)) (within_or_above record_limit records)
  where
    bytes : ℕ
    bytes = identification_length (head_after edits c.head)

    records : ℕ
    records = length (all_records (apply_edits edits c))

    by : (full long many : Bool) → is_taken (if full then Some (CellFull records) else
        (if long then Some (HeadTooLong bytes) else (if many then Some FindingsFull else None))) ≡ (not full && not long)
    by true long many = refl
    by false true many = refl
    by false false true = refl
    by false false false = refl

pub refusals_are_exact : RefusalsAreExact
refusals_are_exact c edits = taken_by_edits c edits (size_refusal c edits) ∙ ap (λ b. find_their_records edits c && b) (taken_by_size c edits)
