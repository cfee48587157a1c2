-- Which cells can be written as a file.
use Rattle.std.specs.Prelude.{◌≡◌, ℕ, ◌≤◌, true, List, length, map, All, None}
use Rattle.std.specs.List.{IsDistinct}
use Rattle.s57_types.specs.Fitness.{is_fit_head, unfitness}
use Rattle.s57_types.specs.declared.name.Kind.{Kind}
use Rattle.s57_types.specs.declared.name.Kind.TheVariants.{Vi, Vc, Ve, Fe}
use Rattle.s57_types.specs.declared.record.Rec.{Rec}
use Rattle.s57_types.specs.declared.cell.Cell.{Cell}
use Rattle.cell_spec.specs.Lookup.{all_records, name_of}
use Rattle.cell_spec.specs.Names.{same_name}

-- how many records a cell may have. This project's own limit
abbrev pub record_limit : ℕ
record_limit = 262144

-- the records are of one kind alone
abbrev pub AreOfKind : Kind → List Rec → Type 0
AreOfKind kind = All (λ r. (name_of r).kind ≡ kind)

-- each record can be written at the level NALL
abbrev pub AreFit : ℕ → List Rec → Type 0
AreFit nall = All (λ r. unfitness nall r ≡ None)

-- no two records have one name
abbrev pub HaveDistinctNames : List Rec → Type 0
HaveDistinctNames records = IsDistinct same_name (map name_of records)

-- the head and each record can be written, each list has records of its own kind alone, no two records of the cell have
-- one name (S-57 Part 3, 2.2), and there are no more than may be
pub record IsWritable (c : Cell) : Type 0 where
  pub head_fits : is_fit_head c.head ≡ true
  pub isolated_nodes : AreOfKind Vi c.vi
  pub connected_nodes : AreOfKind Vc c.vc
  pub edges : AreOfKind Ve c.ve
  pub features : AreOfKind Fe c.fe
  pub records_fit : AreFit c.head.nall (all_records c)
  pub names_distinct : HaveDistinctNames (all_records c)
  pub not_too_many : length (all_records c) ≤ record_limit
