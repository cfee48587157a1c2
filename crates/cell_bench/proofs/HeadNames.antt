-- No record of the lists of a cell has the head's name.
use Rattle.std.proofs.Common.{◌≡◌, inl, inr, ◌==◌, ◌&&◌, Bool, true, false, List, ◌++◌, Option, None, Some, cond, is_some, sym, ap, ◌∙◌, refl}
use Rattle.std.specs.Prelude.{not}
use Rattle.std.proofs.lemmas.Bool.{both_ways as contradiction}
use Rattle.std.proofs.lemmas.List.Elements.{recursion_from_All}
use Rattle.s57_types.specs.declared.name.Kind.{Kind}
use Rattle.s57_types.specs.declared.name.Kind.TheVariants.{Vi, Vc, Ve, Fe}
use Rattle.s57_types.specs.declared.name.RecName.{RecName}
use Rattle.s57_types.specs.declared.record.Rec.{Rec}
use Rattle.s57_types.specs.declared.record.Rec.TheVariants.{H}
use Rattle.s57_types.specs.declared.cell.Cell.{Cell}
use Rattle.s57_types.specs.Heads.{head_name}
use Rattle.cell_spec.specs.Lookup.{all_records, is_named, listed_record, lookup_record, name_of}
use Rattle.cell_spec.specs.Names.{kind_rank, same_name}
use Rattle.cell_spec.specs.Writable.{AreOfKind, IsWritable}
use Rattle.cell_spec.proofs.Orders.{one_when_same}
use Rattle.answer_laws.proofs.Among.{Among, among_append, found, known_of}

abbrev NoHead : Cell → Type 0
NoHead c = (r : Rec) → Among r (all_records c) → same_name head_name (name_of r) ≡ false

-- the lists of a cell in which no record is named as the head answer nothing to the head's name
pub no_record : (c : Cell) → NoHead c → (n : RecName) → same_name n head_name ≡ true → (o : Option Rec) → listed_record c n ≡ o → is_some o ≡ false
no_record c none n head None is = refl
no_record c none n head (Some r) is =
    let hit = found (is_named n) (all_records c) r is in
    let own : head_name ≡ name_of r = sym (one_when_same n head_name head) ∙ one_when_same n (name_of r) hit.passes in
    absurd (contradiction (same_name head_name (name_of r)) (none r hit.among) (ap (same_name head_name) (sym own)))

-- ---- a cell that can be written
of_list : (k : Kind) (rs : List Rec) → AreOfKind k rs → (r : Rec) → Among r rs → (name_of r).kind ≡ k
of_list k rs all r at = known_of (λ (z : Rec). (name_of z).kind ≡ k) r rs (recursion_from_All (λ (z : Rec). (name_of z).kind ≡ k) rs all) at

ranked : (m : RecName) (k : Kind) → m.kind ≡ k → (4 == kind_rank k) ≡ false → same_name head_name m ≡ false
ranked m k is other = ap (λ j. (4 == kind_rank j) && (0 == m.id)) is ∙ ap (λ b. b && (0 == m.id)) other

pub no_head : (c : Cell) → IsWritable c → NoHead c
no_head c w r at = elim (among_append r (c.vi ++ c.vc ++ c.ve) c.fe at) [
  | inl others ↦ elim (among_append r (c.vi ++ c.vc) c.ve others) [
    | inl nodes ↦ elim (among_append r c.vi c.vc nodes) [
      | inl here ↦ ranked (name_of r) Vi (of_list Vi c.vi w.isolated_nodes r here) refl
      | inr here ↦ ranked (name_of r) Vc (of_list Vc c.vc w.connected_nodes r here) refl
    ]
    | inr here ↦ ranked (name_of r) Ve (of_list Ve c.ve w.edges r here) refl
  ]
  | inr here ↦ ranked (name_of r) Fe (of_list Fe c.fe w.features r here) refl
]

-- the lists have a record of a name where the cell answers to it and it isn't the head's
pub there_is : (c : Cell) → IsWritable c → (n : RecName) → is_some (listed_record c n) ≡ (not (same_name n head_name) && is_some (lookup_record c n))
there_is c w n = by (same_name n head_name) refl
  where
    by : (head : Bool) → same_name n head_name ≡ head → is_some (listed_record c n) ≡ (not head && is_some (cond head (Some (H c.head)) (listed_record c n)))
    by true is = no_record c (no_head c w) n is (listed_record c n) refl
    by false is = refl
