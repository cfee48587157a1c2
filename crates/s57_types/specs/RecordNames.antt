-- The name of a record (S-57 Part 3, 2.2), or of the head of a cell.
use Rattle.s57_types.specs.declared.name.RecName.{RecName}
use Rattle.s57_types.specs.declared.record.Rec.{Rec}
use Rattle.s57_types.specs.declared.record.Rec.TheVariants.{V, F, H}
use Rattle.s57_types.specs.Heads.{head_name}

abbrev pub name_of : Rec → RecName
name_of (V v) = v.name
name_of (F f) = f.name
name_of (H h) = head_name
