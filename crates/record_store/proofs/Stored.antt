-- The store after edits.
use Rattle.std.proofs.Common.{◌≡◌, Bool, true, false, List, cond, refl, sym, ap, ◌∙◌}
use Rattle.std.specs.List.{list_any}
use Rattle.s57_types.specs.declared.name.RecName.{RecName}
use Rattle.s57_types.specs.declared.name.Lnam.{Lnam}
use Rattle.s57_types.specs.declared.cell.Cell.{Cell}
use Rattle.cell_spec.specs.declared.edit.Edit.{Edit}
use Rattle.cell_spec.specs.declared.key.Key.TheVariants.{Refs, Foid}
use Rattle.cell_spec.specs.declared.key.Ref.{Ref}
use Rattle.cell_spec.specs.Edits.{apply_edits, touched_keys}
use Rattle.cell_spec.specs.Lookup.{lookup_identity, lookup_pointers}
use Rattle.cell_spec.specs.Names.{identity_order, name_order, same_key}
use Rattle.cell_spec.specs.Writable.{IsWritable}
use Rattle.row_spec.specs.Rows.{value_of}
use Rattle.answer_laws.specs.EditedAnswers.{EditedAnswers, FindTheirRecords, UntouchedKeysKeepAnswers, bearers_after, pointers_after}
use Rattle.record_store.specs.Stores.{ArePut, IsStore, list_in, names_after, refs_after}

module _ (edits : List Edit) (c : Cell) (pointers now : List (RecName × List Ref)) (bearers held : List (Lnam × List RecName))
    (store : IsStore c pointers bearers)
    (fit : FindTheirRecords edits c) (answers : EditedAnswers) (untouched : UntouchedKeysKeepAnswers)
    (put : ArePut (touched_keys edits c) (refs_after edits pointers) (names_after edits bearers) pointers now bearers held) where
  pointers_by : (n : RecName) (hit : Bool) → list_any (same_key (Refs n)) (touched_keys edits c) ≡ hit
      → cond hit (refs_after edits pointers n) (list_in (value_of name_order pointers n)) ≡ lookup_pointers (apply_edits edits c) n
  pointers_by n true is = ap (pointers_after edits n) (store.pointers_are n) ∙ sym ((answers edits c fit).pointers n)
  pointers_by n false is = store.pointers_are n ∙ untouched edits c fit (Refs n) is

  bearers_by : (l : Lnam) (hit : Bool) → list_any (same_key (Foid l)) (touched_keys edits c) ≡ hit
      → cond hit (names_after edits bearers l) (list_in (value_of identity_order bearers l)) ≡ lookup_identity (apply_edits edits c) l
  bearers_by l true is = ap (bearers_after edits l) (store.bearers_are l) ∙ sym ((answers edits c fit).identities l)
  bearers_by l false is = store.bearers_are l ∙ untouched edits c fit (Foid l) is

  pub store_after : IsWritable (apply_edits edits c) → IsStore (apply_edits edits c) now held
  store_after writable = record {
    writable = writable;
    pointers_are = λ n. put.pointers_are n ∙ pointers_by n (list_any (same_key (Refs n)) (touched_keys edits c)) refl;
    bearers_are = λ l. put.bearers_are l ∙ bearers_by l (list_any (same_key (Foid l)) (touched_keys edits c)) refl;
  }
