-- What a cell with edits laid over it keeps. This project's own rules.
use Rattle.std.specs.Prelude.{◌≡◌, Bool, true, false, List, Option, None, Some, if◌then◌else◌}
use Rattle.std.specs.List.{list_any}
use Rattle.s57_types.specs.declared.name.RecName.{RecName}
use Rattle.s57_types.specs.declared.name.Lnam.{Lnam}
use Rattle.s57_types.specs.declared.record.Rec.{Rec}
use Rattle.s57_types.specs.declared.record.Rec.TheVariants.{H}
use Rattle.s57_types.specs.declared.cell.Cell.{Cell}
use Rattle.s57_types.specs.declared.head.Head.{Head as CellHead}
use Rattle.s57_types.specs.Heads.{edited_head, head_name}
use Rattle.cell_spec.specs.declared.edit.Edit.{Edit}
use Rattle.cell_spec.specs.declared.edit.Edit.TheVariants.{Add, Set, Del, Head}
use Rattle.cell_spec.specs.declared.key.Key.{Key}
use Rattle.cell_spec.specs.declared.key.Key.TheVariants.{Name, Refs, Foid}
use Rattle.cell_spec.specs.declared.key.Ref.{Ref}
use Rattle.cell_spec.specs.Edits.{apply_edits, edit_of, touched_keys}
use Rattle.cell_spec.specs.Lookup.{lookup_identity, lookup_pointers}
use Rattle.cell_spec.specs.Names.{identity_order, name_order, same_key}
use Rattle.cell_spec.specs.Readable.{IsReadable}
use Rattle.row_spec.specs.Rows.{value_of}
use Rattle.answer_laws.specs.EditedAnswers.{FindTheirRecords, bearers_after, pointers_after}

-- the head with the values that an edit of it gives, if this is one
abbrev pub head_left : CellHead → Option Edit → Option Rec
head_left h None = None
head_left h (Some (Add r)) = None
head_left h (Some (Set r)) = None
head_left h (Some (Del n)) = None
head_left h (Some (Head e)) = Some (H (edited_head e h))

-- what an edit leaves under its name, where this is the head that is left
abbrev pub left_under : Option Rec → Edit → Option Rec
left_under head (Add r) = Some r
left_under head (Set r) = Some r
left_under head (Del n) = None
left_under head (Head e) = head

-- whether the answer to a key is a list
abbrev pub has_a_list : Key → Bool
has_a_list (Name n) = false
has_a_list (Refs n) = true
has_a_list (Foid l) = true

-- the edited pointers to a name, if its key is among some
abbrev pub pointers_under : List Key → List Edit → Cell → RecName → Option (List Ref)
pointers_under keys edits c n = if list_any (same_key (Refs n)) keys then Some (pointers_after edits n (lookup_pointers c n)) else None

-- the edited bearers of an identifier, if its key is among some
abbrev pub bearers_under : List Key → List Edit → Cell → Lnam → Option (List RecName)
bearers_under keys edits c l = if list_any (same_key (Foid l)) keys then Some (bearers_after edits l (lookup_identity c l)) else None

-- merged lists for these keys, and no others
pub record AreMerged (keys : List Key) (edits : List Edit) (c : Cell) (pointers : List (RecName × List Ref))
    (bearers : List (Lnam × List RecName)) : Type 0 where
  pub pointers_are : (n : RecName) → value_of name_order pointers n ≡ pointers_under keys edits c n
  pub bearers_are : (l : Lnam) → value_of identity_order bearers l ≡ bearers_under keys edits c l

-- edits that find their records, the edited head if there is one, and merged lists for the keys that the edits touch
pub record IsLaidOver (c : Cell) (edits : List Edit) (head : Option Rec) (pointers : List (RecName × List Ref))
    (bearers : List (Lnam × List RecName)) : Type 0 where
  pub readable : IsReadable (apply_edits edits c)
  pub found : FindTheirRecords edits c
  pub head_is : head ≡ head_left c.head (edit_of head_name edits)
  pub merged : AreMerged (touched_keys edits c) edits c pointers bearers
