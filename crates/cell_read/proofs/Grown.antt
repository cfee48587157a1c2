-- The names and the number of a cell's records, with one record more.
use Rattle.std.proofs.Common.{◌≡◌, ◌+◌, ◌==◌, ◌||◌, Bool, true, false, List, [], ◌∷◌, ◌++◌, length, refl, sym, ap, ◌∙◌, length-append, arith}
use Rattle.std.specs.List.{list_any}
use Rattle.s57_types.specs.declared.name.Kind.{Kind}
use Rattle.s57_types.specs.declared.name.Kind.TheVariants.{Head}
use Rattle.s57_types.specs.declared.name.RecName.{RecName}
use Rattle.s57_types.specs.declared.record.Rec.{Rec}
use Rattle.s57_types.specs.declared.cell.Cell.{Cell}
use Rattle.cell_spec.specs.Lookup.{all_records, name_of, is_named}
use Rattle.cell_spec.specs.Names.{kind_rank, is_of_kind, same_name}
use Rattle.file_spec.specs.CellRecords.{with_record_of_kind}
use Rattle.file_spec.proofs.GrownCell.{stands}
use Rattle.cell_read.specs.NamesSeen.{Ascends, has_name, IsKnown}
use Rattle.cell_read.specs.declared.reading.Reading.{Reading}

or_swap : (a b c : Bool) → (a || (b || c)) ≡ (b || (a || c))
or_swap true true c = refl
or_swap true false c = refl
or_swap false true c = refl
or_swap false false c = refl

-- an item between two lists
list_any-between : {X : Type 0} (p : X → Bool) (xs : List X) (r : X) (ys : List X) → list_any p (xs ++ (r ∷ ys)) ≡ (p r || list_any p (xs ++ ys))
list_any-between p [] r ys = refl
list_any-between p (x ∷ xs) r ys = ap (λ b. p x || b) (list_any-between p xs r ys) ∙ or_swap (p x) (p r) (list_any p (xs ++ ys))

names_grown : (kind : Kind) (r : Rec) (c : Cell) (n : RecName) → (kind_rank kind == kind_rank Head) ≡ false
    → list_any (is_named n) (all_records (with_record_of_kind kind r c)) ≡ (is_named n r || list_any (is_named n) (all_records c))
names_grown kind r c n listed = let s = stands kind r c listed in
    ap (list_any (is_named n)) s.with ∙ list_any-between (is_named n) s.before r s.behind ∙ ap (λ xs. is_named n r || list_any (is_named n) xs) (sym s.without)

count_grown : (kind : Kind) (r : Rec) (c : Cell) → (kind_rank kind == kind_rank Head) ≡ false
    → length (all_records (with_record_of_kind kind r c)) ≡ length (all_records c) + 1
count_grown kind r c listed = let s = stands kind r c listed in
    let grown = ap length s.with ∙ length-append s.before (r ∷ s.behind) in
    let old = ap length s.without ∙ length-append s.before s.behind in
    omega (arith, grown, old)

-- what is known of a reading with one record more
pub known_grown : (old new : Reading) (r : Rec) → is_of_kind Head (name_of r) ≡ false
    → IsKnown old → new.cell ≡ with_record_of_kind (name_of r).kind r old.cell
    → ((n : RecName) → has_name new.names n ≡ (same_name n (name_of r) || has_name old.names n)) → Ascends new.names → new.count ≡ old.count + 1 → IsKnown new
known_grown old new r listed known cell_is names_are ascends count_is = record {
  names_are = λ n. names_are n ∙ ap (λ b. same_name n (name_of r) || b) (known.names_are n)
      ∙ sym (names_grown (name_of r).kind r old.cell n listed) ∙ ap (λ c. list_any (is_named n) (all_records c)) (sym cell_is);
  ascends = ascends;
  count_is = let counted = count_grown (name_of r).kind r old.cell listed in let same = ap (λ c. length (all_records c)) cell_is in
      let before = known.count_is in omega (arith, counted, same, before, count_is);
}
