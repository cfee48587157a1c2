-- The records of a cell in file order, each at a number that rises in its list. This project's own rules.
use Rattle.std.specs.Prelude.{◌≡◌, ℕ, List, [], ◌∷◌, Option, None, Some, map, option_map}
use Rattle.std.specs.Ordering.{nat_cmp}
use Rattle.std.specs.declared.cmp.Ordering.TheVariants.{Less}
use Rattle.s57_types.specs.declared.name.Kind.{Kind}
use Rattle.s57_types.specs.declared.name.Kind.TheVariants.{Vi, Vc, Ve, Fe, Head as HeadKind}
use Rattle.s57_types.specs.declared.name.RecName.{RecName}
use Rattle.s57_types.specs.declared.record.Rec.{Rec}
use Rattle.s57_types.specs.declared.head.Head.{Head}
use Rattle.s57_types.specs.declared.cell.Cell.{Cell}
use Rattle.cell_spec.specs.declared.edit.Edit.{Edit}
use Rattle.cell_spec.specs.Edits.{left_by}
use Rattle.cell_spec.specs.Lookup.{listed_record}
use Rattle.cell_spec.specs.Names.{name_order}
use Rattle.cell_spec.specs.Writable.{AreOfKind}
use Rattle.row_spec.specs.Rows.{EachKeyIs, value_of}
use Rattle.answer_laws.specs.EditedAnswers.{FindTheirRecords}
use Rattle.record_store.specs.declared.file_lists.FileLists.{FileLists}
use Rattle.record_store.specs.declared.records.Held.{Held}

-- the records of rows of a number and a record
abbrev pub records_in : List (ℕ × Rec) → List Rec
records_in rows = map (λ (row : ℕ × Rec). row.1) rows

-- the records of rows, if there are rows
abbrev pub walked : Option (List (ℕ × Rec)) → List Rec
walked None = []
walked (Some rows) = records_in rows

-- the rows of one kind
abbrev pub rows_of : Kind → FileLists → List (ℕ × Rec)
rows_of Vi lists = lists.vi
rows_of Vc lists = lists.vc
rows_of Ve lists = lists.ve
rows_of Fe lists = lists.fe
rows_of HeadKind lists = []

-- the lists with other rows of one kind
abbrev pub with_rows : Kind → List (ℕ × Rec) → FileLists → FileLists
with_rows Vi rows lists = record { vi = rows; vc = lists.vc; ve = lists.ve; fe = lists.fe }
with_rows Vc rows lists = record { vi = lists.vi; vc = rows; ve = lists.ve; fe = lists.fe }
with_rows Ve rows lists = record { vi = lists.vi; vc = lists.vc; ve = rows; fe = lists.fe }
with_rows Fe rows lists = record { vi = lists.vi; vc = lists.vc; ve = lists.ve; fe = rows }
with_rows HeadKind rows lists = lists

-- the cell of a head and of these lists
abbrev pub cell_of : Head → FileLists → Cell
cell_of h lists = record { head = h; vi = records_in lists.vi; vc = records_in lists.vc; ve = records_in lists.ve; fe = records_in lists.fe }

-- a number for a record: that of the one that is there, or one behind all of its kind
abbrev pub IsPlaceFor : Option Held → List (ℕ × Rec) → ℕ → Type 0
IsPlaceFor None rows place = EachKeyIs nat_cmp Less place rows
IsPlaceFor (Some held) rows place = place ≡ held.place

-- an edit that finds what it needs in a cell leaves a record
pub record IsLeftBy (e : Edit) (c : Cell) (r : Rec) : Type 0 where
  pub finds : FindTheirRecords (e ∷ []) c
  pub leaves : left_by e ≡ Some r

-- there is such an edit
pub record IsLeftBySome (c : Cell) (r : Rec) : Type 0 where
  pub edit : Edit
  pub is : IsLeftBy edit c r

-- a cell with no record, and its lists
abbrev pub empty_of : Head → Cell
empty_of h = record { head = h; vi = []; vc = []; ve = []; fe = [] }

abbrev pub no_lists : FileLists
no_lists = record { vi = []; vc = []; ve = []; fe = [] }

-- each list has records of its own kind alone
pub record HaveOwnKinds (c : Cell) : Type 0 where
  pub vi : AreOfKind Vi c.vi
  pub vc : AreOfKind Vc c.vc
  pub ve : AreOfKind Ve c.ve
  pub fe : AreOfKind Fe c.fe

-- the records by name are those of the cell, and each stands in the list of its kind at its number
pub record AreRecords (names : List (RecName × Held)) (lists : FileLists) (c : Cell) : Type 0 where
  pub kinds : HaveOwnKinds c
  pub held : (n : RecName) → option_map (λ (h : Held). h.rec) (value_of name_order names n) ≡ listed_record c n
  pub placed : (n : RecName) (h : Held) → value_of name_order names n ≡ Some h → value_of nat_cmp (rows_of n.kind lists) h.place ≡ Some h.rec
