-- What the store of a cell keeps. This project's own rules.
use Rattle.std.specs.Prelude.{◌≡◌, ◌||◌, List, [], ◌∷◌, Option, None, Some, if◌then◌else◌}
use Rattle.std.specs.List.{list_any}
use Rattle.std.specs.Option.{option_map_or}
use Rattle.std.specs.Ordering.{is_eq}
use Rattle.std.specs.declared.cmp.Ordering.{Ordering}
use Rattle.s57_types.specs.declared.name.RecName.{RecName}
use Rattle.s57_types.specs.declared.name.Lnam.{Lnam}
use Rattle.s57_types.specs.declared.name.Kind.TheVariants.{Vc, Ve}
use Rattle.s57_types.specs.declared.record.Rec.{Rec}
use Rattle.s57_types.specs.declared.record.Rec.TheVariants.{V, F, H}
use Rattle.s57_types.specs.declared.record.Vector.{Vector}
use Rattle.s57_types.specs.declared.cell.Cell.{Cell}
use Rattle.cell_spec.specs.declared.edit.Edit.{Edit}
use Rattle.cell_spec.specs.declared.key.Key.{Key}
use Rattle.cell_spec.specs.declared.key.Key.TheVariants.{Name, Refs, Foid}
use Rattle.cell_spec.specs.declared.key.Ref.{Ref}
use Rattle.cell_spec.specs.Lookup.{lookup_identity, lookup_pointers, lookup_record}
use Rattle.cell_spec.specs.Names.{identity_order, is_of_kind, name_order, same_key}
use Rattle.cell_spec.specs.Writable.{IsWritable}
use Rattle.row_spec.specs.Rows.{value_of}
use Rattle.answer_laws.specs.EditedAnswers.{bearers_after, pointers_after}

-- the list that is kept, or the empty one
abbrev pub list_in : {X : Type 0} → Option (List X) → List X
list_in kept = option_map_or (λ items. items) kept []

-- the list of a key is this one from now on, and those of other keys stay
abbrev pub ListIsPut : {K X : Type 0} → (K → K → Ordering) → K → List X → List (K × List X) → List (K × List X) → Type 0
ListIsPut {K} cmp key items before after = (k : K) → list_in (value_of cmp after k) ≡ (if is_eq (cmp key k) then items else list_in (value_of cmp before k))

-- the lists of these keys are the given ones from now on, and those of other keys stay
pub record ArePut (keys : List Key) (refs : RecName → List Ref) (names : Lnam → List RecName) (pointers now : List (RecName × List Ref))
    (bearers held : List (Lnam × List RecName)) : Type 0 where
  pub pointers_are : (n : RecName) → list_in (value_of name_order now n) ≡
      (if list_any (same_key (Refs n)) keys then refs n else list_in (value_of name_order pointers n))
  pub bearers_are : (l : Lnam) → list_in (value_of identity_order held l) ≡
      (if list_any (same_key (Foid l)) keys then names l else list_in (value_of identity_order bearers l))

-- the row of a key whose answer is a list of pointers, and that of one whose answer is a list of names
abbrev pub refs_row : (RecName → List Ref) → Key → List (RecName × List Ref)
refs_row refs (Name n) = []
refs_row refs (Refs n) = (n, refs n) ∷ []
refs_row refs (Foid l) = []

abbrev pub names_row : (Lnam → List RecName) → Key → List (Lnam × List RecName)
names_row names (Name n) = []
names_row names (Refs n) = []
names_row names (Foid l) = (l, names l) ∷ []

-- what edits make of the pointers and the bearers that are kept
abbrev pub refs_after : List Edit → List (RecName × List Ref) → RecName → List Ref
refs_after edits pointers n = pointers_after edits n (list_in (value_of name_order pointers n))

abbrev pub names_after : List Edit → List (Lnam × List RecName) → Lnam → List RecName
names_after edits bearers l = bearers_after edits l (list_in (value_of identity_order bearers l))

-- the pointers and the bearers that are kept are those of a cell
pub record AreAnswersOf (c : Cell) (pointers : List (RecName × List Ref)) (bearers : List (Lnam × List RecName)) : Type 0 where
  pub pointers_are : (n : RecName) → list_in (value_of name_order pointers n) ≡ lookup_pointers c n
  pub bearers_are : (l : Lnam) → list_in (value_of identity_order bearers l) ≡ lookup_identity c l

-- a writable cell, with its pointers by name and its bearers by identifier
pub record IsStore (c : Cell) (pointers : List (RecName × List Ref)) (bearers : List (Lnam × List RecName)) : Type 0 where
  pub writable : IsWritable c
  pub pointers_are : (n : RecName) → list_in (value_of name_order pointers n) ≡ lookup_pointers c n
  pub bearers_are : (l : Lnam) → list_in (value_of identity_order bearers l) ≡ lookup_identity c l

-- the vector record in what a cell answers
abbrev pub vector_of : Option Rec → Option Vector
vector_of None = None
vector_of (Some (V v)) = Some v
vector_of (Some (F f)) = None
vector_of (Some (H h)) = None

-- the connected node or edge of a name
abbrev pub course_in : Cell → RecName → Option Vector
course_in c n = if is_of_kind Vc n || is_of_kind Ve n then vector_of (lookup_record c n) else None
