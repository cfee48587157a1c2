-- What is decided by the rows that are kept of a record as by all of them.
use Rattle.std.proofs.Common.{◌≡◌, ℕ, ◌+◌, ◌-◌, ◌<◌, ◌≤◌, ◌==◌, ◌&&◌, ◌||◌, Bool, true, false, not, nat_le, List, ◌++◌, length, take, drop}
use Rattle.std.proofs.Common.{Option, Some, None, Result, Ok, Err, refl, sym, ap, ◌∙◌, arith, length-append}
use Rattle.std.specs.Prelude.{filter, IfSome}
use Rattle.std.specs.List.{flat_map}
use Rattle.std.proofs.lemmas.Bool.{and_right, ne_eqb}
use Rattle.std.proofs.lemmas.List.{take-append-drop}
use Rattle.std.proofs.lemmas.List.Concat.{flat_map-append}
use Rattle.std.proofs.lemmas.List.Elements.{filter-append}
use Rattle.frame_spec.specs.RecordFrame.{Field}
use Rattle.field_spec.specs.declared.fault.FieldFault.{FieldFault}
use Rattle.file_spec.specs.FieldTags.{is_tagged}
use Rattle.file_spec.specs.RecordFaults.{◌>>=◌, ◌>>◌, demand}
use Rattle.file_spec.specs.RecordReading.{rows_of}
use Rattle.file_spec.specs.declared.tag.FieldTag.{FieldTag}
use Rattle.update_spec.specs.ControlFields.{instruction_of}
use Rattle.update_spec.specs.UpdatedRows.{Coordinates, are_soundings_updated, changed_rows, rows_by_instruction, updated_coordinates}
use Rattle.update_spec.specs.UpdatedRows.{updated_list, updated_rows}
use Rattle.update_spec.specs.declared.control.Control.{Control}
use Rattle.update_spec.specs.declared.control.Instruction.{Instruction}
use Rattle.update_spec.specs.declared.control.Instruction.TheVariants.{Insert, Delete, Modify}
use Rattle.update_spec.specs.declared.fault.UpdateFault.TheVariants.{BadControl}
use Rattle.cell_read.specs.Kept.{IsKept, all, enough}
use Rattle.update_apply.specs.Kept.{row_limit, AreKept}

-- the rows of the first fields are the first rows
module _ {X : Type 0} (tag : FieldTag) (content : List ℕ → Result (List X) FieldFault) (fields : List Field) (k : ℕ) where
  first_rows : length (rows_of tag content (take k fields)) ≤ length (rows_of tag content fields)
  first_rows =
      let joined : rows_of tag content fields ≡ rows_of tag content (take k fields) ++ rows_of tag content (drop k fields) =
      ap (rows_of tag content) (sym (take-append-drop k fields)) ∙ ap (flat_map _) (filter-append (is_tagged tag) (take k fields) (drop k fields))
      ∙ flat_map-append _ (filter (is_tagged tag) (take k fields)) (filter (is_tagged tag) (drop k fields)) in
      omega (arith, ap length joined, length-append (rows_of tag content (take k fields)) (rows_of tag content (drop k fields)))

  pub enough_rows : (kept : List X) → kept ≡ rows_of tag content (take k fields) → row_limit ≤ length kept → IsKept row_limit kept (rows_of tag content fields)
  enough_rows kept is many = enough many (omega (arith, many, ap length is, first_rows))

-- so many rows have no place
abbrev IsCounted : Option Control → Type 0
IsCounted control = IfSome control (λ x. x.count < row_limit)

no_place : {X : Type 0} (removed wanted : ℕ) (control : Control) (given rows : List X) → wanted < length given
    → changed_rows removed wanted control given rows ≡ Err BadControl
unfolding changed_rows
no_place removed wanted control given rows more =
    let other : (length given == wanted) ≡ false = ne_eqb (length given) wanted (λ is. absurd (omega (arith, more, is))) in
    ap (λ b. demand b BadControl >> Ok (take (control.index - 1) rows ++ given ++ drop (control.index - 1 + removed) rows))
    (and_right (nat_le 1 control.index && nat_le 1 control.count && nat_le (control.index - 1 + removed) (length rows)) (length given == wanted) other)

no_instruction : {X : Type 0} (instruction : Option Instruction) (control : Control) (given rows : List X) → control.count < row_limit
    → row_limit ≤ length given → rows_by_instruction instruction control given rows ≡ Err BadControl
no_instruction None control given rows counted many = refl
no_instruction (Some Insert) control given rows counted many = no_place 0 control.count control given rows (omega (arith, counted, many))
no_instruction (Some Delete) control given rows counted many = no_place control.count 0 control given rows (omega (arith, many))
no_instruction (Some Modify) control given rows counted many = no_place control.count control.count control given rows (omega (arith, counted, many))

too_many : {X : Type 0} (control : Option Control) (given rows : List X) → IsCounted control → row_limit ≤ length given
    → updated_rows control given rows ≡ Err BadControl
unfolding updated_rows
too_many None given rows counted many =
    ap (λ b. demand b BadControl >> Ok rows) (ne_eqb (length given) 0 (λ none. absurd (omega (arith, many, none))))
too_many (Some control) given rows counted many = no_instruction (instruction_of control.instruction) control given rows counted many

pub kept_update : {X : Type 0} (control : Option Control) (kept given rows : List X) → IsCounted control → IsKept row_limit kept given
    → updated_rows control kept rows ≡ updated_rows control given rows
kept_update control kept given rows counted (all is) = ap (λ xs. updated_rows control xs rows) is
kept_update control kept given rows counted (enough k g) = too_many control kept rows counted k ∙ sym (too_many control given rows counted g)

-- the same of coordinates
same_none : {X : Type 0} (kept given : List X) → IsKept row_limit kept given → (length kept == 0) ≡ (length given == 0)
same_none kept given (all is) = ap (λ xs. length xs == 0) is
same_none kept given (enough k g) =
    ne_eqb (length kept) 0 (λ none. absurd (omega (arith, k, none))) ∙ sym (ne_eqb (length given) 0 (λ none. absurd (omega (arith, g, none))))

list_kept : (soundings : Bool) (control : Option Control) (kept given held : Coordinates) → IsCounted control → AreKept kept given
    → updated_list soundings control kept held ≡ updated_list soundings control given held
list_kept true control kept given held counted is = ap (λ r. r >>= λ deep. Ok (held.0, deep)) (kept_update control kept.1 given.1 held.1 counted is.deep)
list_kept false control kept given held counted is = ap (λ r. r >>= λ plane. Ok (plane, held.1)) (kept_update control kept.0 given.0 held.0 counted is.plane)

pub kept_coordinates : (control : Option Control) (kept given held : Coordinates) → IsCounted control → AreKept kept given
    → updated_coordinates control kept held ≡ updated_coordinates control given held
unfolding updated_coordinates
kept_coordinates control kept given held counted is =
    ap (λ p. demand (p || (length kept.1 == 0)) BadControl
    >> updated_list (not (length kept.1 == 0) || (p && (length held.0 == 0))) control kept held) (same_none kept.0 given.0 is.plane)
    ∙ ap (λ d. demand ((length given.0 == 0) || d) BadControl
    >> updated_list (not d || ((length given.0 == 0) && (length held.0 == 0))) control kept held) (same_none kept.1 given.1 is.deep)
    ∙ ap (λ l. demand ((length given.0 == 0) || (length given.1 == 0)) BadControl >> l)
    (list_kept (are_soundings_updated given held) control kept given held counted is)
