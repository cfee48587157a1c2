-- Where a record that goes into a cell stands among all its records, by its kind; the head goes into no list.
use Rattle.std.proofs.Common.{◌≡◌, ◌==◌, false, List, [], ◌∷◌, ◌++◌, append_assoc}
use Rattle.std.proofs.lemmas.List.{append-nil}
use Rattle.s57_types.specs.declared.cell.Cell.{Cell}
use Rattle.s57_types.specs.declared.name.Kind.{Kind}
use Rattle.s57_types.specs.declared.name.Kind.TheVariants.{Vi, Vc, Ve, Fe, Head}
use Rattle.s57_types.specs.declared.record.Rec.{Rec}
use Rattle.cell_spec.specs.Lookup.{all_records}
use Rattle.cell_spec.specs.Names.{kind_rank}
use Rattle.file_spec.specs.CellRecords.{with_record_of_kind}

pub record Stands (r : Rec) (c : Cell) (grown : List Rec) : Type 0 where
  pub before : List Rec
  pub behind : List Rec
  pub without : all_records c ≡ before ++ behind
  pub with : grown ≡ before ++ (r ∷ behind)

pub stands : (kind : Kind) (r : Rec) (c : Cell) → (kind_rank kind == kind_rank Head) ≡ false → Stands r c (all_records (with_record_of_kind kind r c))
stands Vi r c listed = record { before = c.vi; behind = c.vc ++ c.ve ++ c.fe; without = simp append_assoc; with = simp append_assoc }
stands Vc r c listed = record { before = c.vi ++ c.vc; behind = c.ve ++ c.fe; without = simp append_assoc; with = simp append_assoc }
stands Ve r c listed = record { before = c.vi ++ c.vc ++ c.ve; behind = c.fe; without = simp append_assoc; with = simp append_assoc }
stands Fe r c listed = record { before = c.vi ++ c.vc ++ c.ve ++ c.fe; behind = []; without = simp (append_assoc, append-nil); with = simp append_assoc }
stands Head r c listed = absurd cc
