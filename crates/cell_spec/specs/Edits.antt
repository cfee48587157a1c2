-- Record edits: which of them a cell takes, what they make of it, and the keys whose answers they can change. This project's own rules.
use Rattle.std.specs.Prelude.{◌&&◌, Bool, true, false, not, List, [], ◌∷◌, ◌++◌, Option, None, Some, length, map, filter, find, filter_map, flat_map}
use Rattle.std.specs.Prelude.{option_to_list, is_some, nat_le, nat_lt}
use Rattle.std.specs.List.{list_all, list_any}
use Rattle.s57_types.specs.declared.name.Kind.{Kind}
use Rattle.s57_types.specs.declared.name.Kind.TheVariants.{Vi, Vc, Ve, Fe, Head as HeadKind}
use Rattle.s57_types.specs.declared.name.RecName.{RecName}
use Rattle.s57_types.specs.declared.record.Rec.{Rec}
use Rattle.s57_types.specs.declared.cell.Cell.{Cell}
use Rattle.s57_types.specs.declared.head.Head.{Head as CellHead}
use Rattle.s57_types.specs.Heads.{head_name, edited_head}
use Rattle.s57_types.specs.RecordFields.{identification_length, length_limit}
use Rattle.cell_spec.specs.declared.edit.Edit.{Edit}
use Rattle.cell_spec.specs.declared.edit.Edit.TheVariants.{Add, Set, Del, Head}
use Rattle.cell_spec.specs.declared.key.Key.{Key}
use Rattle.cell_spec.specs.declared.key.Key.TheVariants.{Name, Refs, Foid}
use Rattle.cell_spec.specs.Ascending.{ascending}
use Rattle.cell_spec.specs.Lookup.{all_records, name_of, targets_of, identities_of, listed_record, lookup_record}
use Rattle.cell_spec.specs.Names.{same_name, is_of_kind, key_order}
use Rattle.cell_spec.specs.Writable.{record_limit}

-- the records of one kind, in file order
abbrev pub list_of_kind : Kind → Cell → List Rec
list_of_kind Vi c = c.vi
list_of_kind Vc c = c.vc
list_of_kind Ve c = c.ve
list_of_kind Fe c = c.fe
list_of_kind HeadKind c = []

-- the name that an edit is about
abbrev pub name_of_edit : Edit → RecName
name_of_edit (Add r) = name_of r
name_of_edit (Set r) = name_of r
name_of_edit (Del n) = n
name_of_edit (Head e) = head_name

-- the record that an edit adds
abbrev pub added_by : Edit → Option Rec
added_by (Add r) = Some r
added_by (Set r) = None
added_by (Del n) = None
added_by (Head e) = None

-- the record that an edit leaves under its name
abbrev pub left_by : Edit → Option Rec
left_by (Add r) = Some r
left_by (Set r) = Some r
left_by (Del n) = None
left_by (Head e) = None

-- the edit of a name, if there is one
abbrev pub edit_of : RecName → List Edit → Option Edit
edit_of n edits = find (λ edit. same_name (name_of_edit edit) n) edits

-- what the edit of its name, if there is one, makes of a record of the cell
abbrev pub changed_by : Rec → Option Edit → Option Rec
changed_by r None = Some r
changed_by r (Some (Add s)) = Some r
changed_by r (Some (Set s)) = Some s
changed_by r (Some (Del n)) = None
changed_by r (Some (Head e)) = Some r

abbrev pub edited_record : List Edit → Rec → Option Rec
edited_record edits r = changed_by r (edit_of (name_of r) edits)

-- what the edit of its name, if there is one, makes of the head of the cell
abbrev pub head_by : CellHead → Option Edit → CellHead
head_by h None = h
head_by h (Some (Add r)) = h
head_by h (Some (Set r)) = h
head_by h (Some (Del n)) = h
head_by h (Some (Head e)) = edited_head e h

abbrev pub head_after : List Edit → CellHead → CellHead
head_after edits h = head_by h (edit_of head_name edits)

-- a list of the edited cell: a replaced record keeps its place, the list closes up where a record is deleted, and the additions of its
-- kind go last, in the order of the edits
abbrev pub edited_list : List Edit → Kind → Cell → List Rec
edited_list edits kind c = filter_map (edited_record edits) (list_of_kind kind c) ++ filter (λ r. is_of_kind kind (name_of r)) (filter_map added_by edits)

-- a cell after edits
unfoldable pub apply_edits : List Edit → Cell → Cell
apply_edits edits c = record {
  head = head_after edits c.head;
  vi = edited_list edits Vi c;
  vc = edited_list edits Vc c;
  ve =
      edited_list edits Ve c;
  fe = edited_list edits Fe c;
}

-- an addition has a new name, and a replacement or a deletion the name of a record of the cell; each cell has a head
abbrev pub has_its_record : Cell → Edit → Bool
has_its_record c (Add r) = not (is_some (listed_record c (name_of r)))
has_its_record c (Set r) = is_some (listed_record c (name_of r))
has_its_record c (Del n) = is_some (listed_record c n)
has_its_record c (Head e) = true

-- each edit finds what it needs
abbrev pub find_their_records : List Edit → Cell → Bool
find_their_records edits c = list_all (has_its_record c) edits

abbrev pub is_head_edit : Edit → Bool
is_head_edit (Add r) = false
is_head_edit (Set r) = false
is_head_edit (Del n) = false
is_head_edit (Head e) = true

-- one of the edits is of the head, and the first head record of the edited cell would be too long
abbrev pub leave_a_long_head : List Edit → Cell → Bool
leave_a_long_head edits c = list_any is_head_edit edits && nat_lt length_limit (identification_length (head_after edits c.head))

-- a cell takes edits that each find what they need and leave no more records than may be, and no head that is too long
abbrev pub is_applicable : List Edit → Cell → Bool
is_applicable edits c = find_their_records edits c && (nat_le (length (all_records (apply_edits edits c))) record_limit && not (leave_a_long_head edits c))

-- the keys, beside its name, that a record is an answer to
abbrev pub keys_answered_by : Rec → List Key
keys_answered_by r = map Refs (targets_of r) ++ map Foid (identities_of r)

-- the keys that an edit can change: the name, and what the record answers before and after
abbrev pub keys_of_edit : Cell → Edit → List Key
keys_of_edit c edit = Name (name_of_edit edit) ∷ flat_map keys_answered_by (option_to_list (lookup_record c (name_of_edit edit))
    ++ option_to_list (left_by edit))

-- the keys whose answers edits can change, ascending, each once
unfoldable pub touched_keys : List Edit → Cell → List Key
touched_keys edits c = ascending key_order (flat_map (keys_of_edit c) edits)
