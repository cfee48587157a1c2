-- The record that a cell has under a name.
use Rattle.std.proofs.Common.{◌≡◌, Bool, true, false, Option, Some, cond}
use Rattle.s57_types.specs.declared.name.RecName.{RecName}
use Rattle.s57_types.specs.declared.record.Rec.{Rec}
use Rattle.s57_types.specs.declared.record.Rec.TheVariants.{V, F, H}
use Rattle.s57_types.specs.declared.record.Vector.{Vector}
use Rattle.s57_types.specs.declared.record.Feature.{Feature}
use Rattle.s57_types.specs.declared.head.Head.{Head}
use Rattle.s57_types.specs.declared.cell.Cell.{Cell}
use Rattle.cell_spec.specs.Lookup.{listed_record, lookup_record}
use Rattle.cell_spec.specs.Names.{same_name}
use Rattle.s57_types.specs.Heads.{head_name}

vector_behind : (b : Bool) (head : Head) (later : Option Rec) (v : Vector) → cond b (Some (H head)) later ≡ Some (V v) → later ≡ Some (V v)
vector_behind true head later v h = absurd cc
vector_behind false head later v h = h

feature_behind : (b : Bool) (head : Head) (later : Option Rec) (f : Feature) → cond b (Some (H head)) later ≡ Some (F f) → later ≡ Some (F f)
feature_behind true head later f h = absurd cc
feature_behind false head later f h = h

-- a vector record or a feature that is found is no head
pub listed_vector : (c : Cell) (n : RecName) (v : Vector) → lookup_record c n ≡ Some (V v) → listed_record c n ≡ Some (V v)
listed_vector c n v h = vector_behind (same_name n head_name) c.head (listed_record c n) v h

pub listed_feature : (c : Cell) (n : RecName) (f : Feature) → lookup_record c n ≡ Some (F f) → listed_record c n ≡ Some (F f)
listed_feature c n f h = feature_behind (same_name n head_name) c.head (listed_record c n) f h
