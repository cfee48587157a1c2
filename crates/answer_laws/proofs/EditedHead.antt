-- The head of an edited cell can be written, and keeps the level of national attributes.
use Rattle.std.proofs.Common.{◌≡◌, ℕ, Bool, true, false, ◌&&◌, List, [], ◌∷◌, Option, None, Some, refl}
use Rattle.std.specs.Prelude.{cond, nat_le, nat_lt, IfSome, find, if◌then◌else◌}
use Rattle.std.specs.List.{AllByRecursion, list_all, list_any}
use Rattle.std.proofs.lemmas.Bool.{and_parts, and_from, or_left, or_right, ltb-false, le-leb}
use Rattle.frame_spec.specs.WrittenRecord.{record_length, field_lengths}
use Rattle.s57_types.specs.FieldRows.{dsid_row, dspm_row}
use Rattle.s57_types.specs.Fitness.{is_fit_head}
use Rattle.s57_types.specs.Heads.{head_name, has_plain_texts, edited_head, level_number}
use Rattle.s57_types.specs.RecordFields.{dsid_of_head, dspm_of_head, identification_length, length_limit, parameter_fields}
use Rattle.s57_types.specs.Subfield.{is_plain, text_of, fixed_of}
use Rattle.s57_types.specs.declared.fault.Unfit.TheVariants.{BadText}
use Rattle.s57_types.specs.declared.head.Head.{Head as CellHead}
use Rattle.s57_types.specs.declared.head.HeadEdit.{HeadEdit}
use Rattle.s57_types.specs.declared.head.Level.{Level}
use Rattle.s57_types.specs.declared.head.Level.TheVariants.{Zero, One}
use Rattle.cell_spec.specs.Edits.{name_of_edit, edit_of, head_by, head_after, is_head_edit}
use Rattle.cell_spec.specs.Names.{same_name}
use Rattle.cell_spec.specs.declared.edit.Edit.{Edit}
use Rattle.cell_spec.specs.declared.edit.Edit.TheVariants.{Add, Set, Del, Head}
use Rattle.edit_sets.specs.FormFault.{unfitness_of_edit}

-- the level of national attributes stays
level_kept_by : (h : CellHead) (edit : Option Edit) → (head_by h edit).nall ≡ h.nall
level_kept_by h (Some (Head e)) = refl
level_kept_by h edit = refl

pub level_kept : (edits : List Edit) (h : CellHead) → (head_after edits h).nall ≡ h.nall
level_kept edits h = level_kept_by h (edit_of head_name edits)

-- the edit of a name is one of the edits, so that it has what each has
pub record IsAmong (P : Edit → Type 0) (edits : List Edit) (edit : Edit) : Type 0 where
  pub has : P edit
  pub counted : is_head_edit edit ≡ true → list_any is_head_edit edits ≡ true

among_more : (P : Edit → Type 0) (edits : List Edit) (first : Edit) (found : Option Edit) → IfSome found (IsAmong P edits)
    → IfSome found (IsAmong P (first ∷ edits))
among_more P edits first None here = tt
among_more P edits first (Some edit) here = record {
  has = here.has;
  counted =
      λ is. or_right (is_head_edit first) (list_any is_head_edit edits) (here.counted is);
}

found_among_by : (P : Edit → Type 0) (edits : List Edit) (edit : Edit) (named : Bool) (later : Option Edit) → P edit
    → IfSome later (IsAmong P edits) → IfSome (cond named (Some edit) later) (IsAmong P (edit ∷ edits))
found_among_by P edits edit true later here others = record { has = here; counted = λ is. or_left (is_head_edit edit) (list_any is_head_edit edits) is }
found_among_by P edits edit false later here others = among_more P edits edit later others

pub found_among : (P : Edit → Type 0) (test : Edit → Bool) (edits : List Edit) → AllByRecursion P edits → IfSome (find test edits) (IsAmong P edits)
found_among P test [] all = tt
found_among P test (edit ∷ edits) all = found_among_by P edits edit (test edit) (find test edits) all.0 (found_among P test edits all.1)

-- texts of an edit that can be written
plain_when : (plain : Bool) → (if plain then None else Some BadText) ≡ None → plain ≡ true
plain_when true none = refl
plain_when false none = absurd cc

level_in_range : (level : Level) → nat_le (level_number level) 1 ≡ true
level_in_range Zero = refl
level_in_range One = refl

-- the texts of an edit with those of a head that stay
plain_together : (dsnm edtn updn uadt isdt sted psdn pred comt new_edtn new_updn new_uadt new_isdt new_comt : Bool)
    → (dsnm && (edtn && (updn && (uadt && (isdt && (sted && (psdn && (pred && (comt && true))))))))) ≡ true
    → (new_edtn && (new_updn && (new_uadt && (new_isdt && (new_comt && true))))) ≡ true
    → (dsnm && (new_edtn && (new_updn && (new_uadt && (new_isdt && (sted && (psdn && (pred && (new_comt && true))))))))) ≡ true
plain_together true true true true true true true true comt true true true true e old new = new
plain_together dsnm edtn updn uadt isdt sted psdn pred comt a b c d e old new = absurd cc

within_limit : (n : ℕ) → nat_lt length_limit n ≡ false → nat_le n length_limit ≡ true
within_limit n h = le-leb n length_limit (ltb-false length_limit n h)

edited_is_fit : (h : CellHead) (e : HeadEdit) → is_fit_head h ≡ true → has_plain_texts e ≡ true
    → nat_lt length_limit (identification_length (edited_head e h)) ≡ false → is_fit_head (edited_head e h) ≡ true
unfolding is_fit_head
edited_is_fit h e fit plain short =
    let nall = nat_le h.nall 2 in
    let texts = list_all is_plain (dsid_row (dsid_of_head h)) in
    let comment = list_all is_plain (dspm_row (dspm_of_head h)) in
    let parameters = nat_le (record_length (field_lengths (parameter_fields 0 h))) length_limit in
    let first = nat_le h.aall 1 in
    let named = nat_le (identification_length h) length_limit in
    let six = and_parts (first && nall && texts && comment && named) parameters fit in
    let five = and_parts (first && nall && texts && comment) named six.0 in
    let four = and_parts (first && nall && texts) comment five.0 in
    let three = and_parts (first && nall) texts four.0 in
    let two = and_parts first nall three.0 in
    let new_first = nat_le (level_number e.aall) 1 in
    let new_texts = list_all is_plain (dsid_row (dsid_of_head (edited_head e h))) in
    let new_named = nat_le (identification_length (edited_head e h)) length_limit in
    let together : new_texts ≡ true = plain_together (is_plain (text_of h.dsnm)) (is_plain (text_of h.edtn)) (is_plain (text_of h.updn))
    (is_plain (fixed_of h.uadt)) (is_plain (fixed_of h.isdt)) (is_plain (fixed_of h.sted))
    (is_plain (text_of h.psdn)) (is_plain (text_of h.pred)) (is_plain (text_of h.dsid_comt)) (is_plain (text_of e.edtn))
    (is_plain (text_of e.updn)) (is_plain (fixed_of e.uadt)) (is_plain (fixed_of e.isdt)) (is_plain (text_of e.comt))
    three.1 plain in
    and_from (new_first && nall && new_texts && comment && new_named) parameters
    (and_from (new_first && nall && new_texts && comment) new_named
    (and_from (new_first && nall && new_texts) comment (and_from (new_first && nall) new_texts
    (and_from new_first nall (level_in_range e.aall) two.1) together) four.1)
    (within_limit (identification_length (edited_head e h)) short)) six.1

-- an edit among those of which none leaves too long a head
short_by : (any long : Bool) → any ≡ true → (any && long) ≡ false → long ≡ false
short_by true long is none = none
short_by false long is none = absurd cc

head_is_fit_by : (nall : ℕ) (edits : List Edit) (h : CellHead) (edit : Option Edit)
    → IfSome edit (IsAmong (λ one. unfitness_of_edit nall one ≡ None) edits) → is_fit_head h ≡ true
    → (list_any is_head_edit edits && nat_lt length_limit (identification_length (head_by h edit))) ≡ false → is_fit_head (head_by h edit) ≡ true
head_is_fit_by nall edits h None here fit short = fit
head_is_fit_by nall edits h (Some (Add r)) here fit short = fit
head_is_fit_by nall edits h (Some (Set r)) here fit short = fit
head_is_fit_by nall edits h (Some (Del n)) here fit short = fit
head_is_fit_by nall edits h (Some (Head e)) here fit short =
    edited_is_fit h e fit (plain_when (has_plain_texts e) here.has)
    (short_by (list_any is_head_edit edits) (nat_lt length_limit (identification_length (edited_head e h))) (here.counted refl) short)

-- edits with plain texts leave a head that can be written, unless it is too long
pub head_is_fit : (nall : ℕ) (h : CellHead) (edits : List Edit) → is_fit_head h ≡ true → AllByRecursion (λ edit. unfitness_of_edit nall edit ≡ None) edits
    → (list_any is_head_edit edits && nat_lt length_limit (identification_length (head_after edits h))) ≡ false → is_fit_head (head_after edits h) ≡ true
head_is_fit nall h edits fit all short =
    head_is_fit_by nall edits h (edit_of head_name edits) (found_among (λ edit. unfitness_of_edit nall edit ≡ None)
    (λ edit. same_name (name_of_edit edit) head_name) edits all) fit short
