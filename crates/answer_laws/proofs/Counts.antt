-- How many records a cell has after edits.
use Rattle.std.proofs.Common.{◌≡◌, ℕ, suc, ◌+◌, Bool, true, false, List, [], ◌∷◌, ◌++◌, Option, None, Some, cond, find, is_some, length, map, refl, ap, ◌∙◌}
use Rattle.std.proofs.Common.{arith}
use Rattle.std.specs.Prelude.{count_by, filter_map}
use Rattle.std.specs.List.{AllByRecursion, IsDistinct, cons_option}
use Rattle.std.proofs.lemmas.Bool.{and_parts}
use Rattle.std.proofs.lemmas.List.{length-append}
use Rattle.std.proofs.lemmas.List.Sorted.{length_permutation}
use Rattle.std.proofs.lemmas.List.Sums.{sum_by-cons}
use Rattle.s57_types.specs.declared.name.RecName.{RecName}
use Rattle.s57_types.specs.declared.record.Rec.{Rec}
use Rattle.s57_types.specs.declared.cell.Cell.{Cell}
use Rattle.cell_spec.specs.declared.edit.Edit.{Edit}
use Rattle.cell_spec.specs.declared.edit.Edit.TheVariants.{Add, Set, Del, Head}
use Rattle.cell_spec.specs.Edits.{name_of_edit, added_by, changed_by, edited_record, apply_edits, has_its_record}
use Rattle.cell_spec.specs.Lookup.{all_records, name_of, is_named}
use Rattle.cell_spec.specs.Names.{same_name}
use Rattle.cell_spec.specs.Writable.{HaveDistinctNames}
use Rattle.cell_spec.proofs.Orders.{one_when_same}
use Rattle.answer_laws.specs.EditedAnswers.{FindTheirRecords}
use Rattle.answer_laws.specs.EditedCells.{CountsAfter, EditsAddUp, is_addition, is_deletion}
use Rattle.answer_laws.proofs.AddedUp.{all_kept}
use Rattle.answer_laws.proofs.Among.{no_tie}
use Rattle.answer_laws.proofs.EditedRecords.{changed_in, names_listed, records_moved}

-- ---- one edit
count_some_by : {X : Type 0} (o : Option X) (rest : List X) (n : ℕ) → is_some o ≡ true → length rest ≡ n → length (cons_option o rest) ≡ suc n
count_some_by None rest n some same = cc
count_some_by (Some x) rest n some same = ap suc same

-- what every item is mapped to something has as many
count_some : {X : Type 0} (h : X → Option X) → ((x : X) → is_some (h x) ≡ true) → (xs : List X) → length (filter_map h xs) ≡ length xs
count_some h some [] = refl
count_some h some (x ∷ xs) = count_some_by (h x) (filter_map h xs) (length xs) (some x) (count_some h some xs)

stays_by : (r : Rec) (e : Edit) (named : Bool) → is_deletion e ≡ false → is_some (changed_by r (cond named (Some e) None)) ≡ true
stays_by r (Add s) true h = refl
stays_by r (Set s) true h = refl
stays_by r (Del n) true h = cc
stays_by r (Head e) true h = refl
stays_by r e false h = refl

-- an edit that is no deletion leaves as many
as_many : (e : Edit) → is_deletion e ≡ false → (rs : List Rec) → length (changed_in (e ∷ []) rs) ≡ length rs
as_many e h rs = count_some (edited_record (e ∷ [])) (λ r. stays_by r e (same_name (name_of_edit e) (name_of r)) h) rs

-- a deletion leaves one less
module _ (n : RecName) where
  abbrev without : Rec → Option Rec
  without = edited_record (Del n ∷ [])

  others_stay : (r : Rec) (rs : List Rec) → same_name n (name_of r) ≡ true → AllByRecursion (λ m. same_name (name_of r) m ≡ false) (map name_of rs)
      → filter_map without rs ≡ rs
  others_stay r rs named apart =
      all_kept without rs (λ s at.
      let other : same_name n (name_of s) ≡ false =
      ap (λ m. same_name m (name_of s)) (one_when_same n (name_of r) named) ∙ no_tie same_name name_of (name_of r) s rs apart at in
      ap (λ b. changed_by s (cond b (Some (Del n)) None)) other)

  one_less_by : (r : Rec) (rs : List Rec) (named : Bool) → same_name n (name_of r) ≡ named
      → AllByRecursion (λ m. same_name (name_of r) m ≡ false) (map name_of rs)
      → (is_some (find (is_named n) rs) ≡ true → length (filter_map without rs) + 1 ≡ length rs)
      → is_some (cond named (Some r) (find (is_named n) rs)) ≡ true
      → length (cons_option (changed_by r (cond named (Some (Del n)) None)) (filter_map without rs)) + 1 ≡ suc (length rs)
  one_less_by r rs true is apart later there = omega (arith, ap length (others_stay r rs is apart))
  one_less_by r rs false is apart later there = omega (arith, later there)

  one_less : (rs : List Rec) → HaveDistinctNames rs → is_some (find (is_named n) rs) ≡ true → length (filter_map without rs) + 1 ≡ length rs
  unfolding IsDistinct
  one_less [] distinct there = cc
  one_less (r ∷ rs) distinct there = one_less_by r rs (same_name n (name_of r)) refl distinct.0 (one_less rs distinct.1) there

kept_count : (e : Edit) (c : Cell) → FindTheirRecords (e ∷ []) c
    → length (changed_in (e ∷ []) (all_records c)) + count_by is_deletion (e ∷ []) ≡ length (all_records c)
kept_count (Add s) c fit = omega (arith, as_many (Add s) refl (all_records c))
kept_count (Set s) c fit = omega (arith, as_many (Set s) refl (all_records c))
kept_count (Head e) c fit = omega (arith, as_many (Head e) refl (all_records c))
kept_count (Del n) c fit = one_less n (all_records c) (names_listed (Del n ∷ []) c fit) (and_parts (has_its_record c (Del n)) true fit.found).0

added_count : (e : Edit) → length (filter_map added_by (e ∷ [])) ≡ count_by is_addition (e ∷ [])
added_count (Add s) = refl
added_count (Set s) = refl
added_count (Del n) = refl
added_count (Head e) = refl

-- ---- edits one after the other
abbrev count_in : Cell → ℕ
count_in c = length (all_records c)

one_count : (e : Edit) (c : Cell) → FindTheirRecords (e ∷ []) c
    → count_in (apply_edits (e ∷ []) c) + count_by is_deletion (e ∷ []) ≡ count_in c + count_by is_addition (e ∷ [])
one_count e c fit =
    let old = changed_in (e ∷ []) (all_records c) in
    let new = filter_map added_by (e ∷ []) in
    let after : length (old ++ new) ≡ count_in (apply_edits (e ∷ []) c) =
    length_permutation (all_records (apply_edits (e ∷ []) c)) (old ++ new) (records_moved (e ∷ []) c fit.placed) in
    omega (arith, after, length-append old new, kept_count e c fit, added_count e)

no_edits : (c : Cell) → count_in (apply_edits [] c) ≡ count_in c
no_edits c =
    let old = changed_in [] (all_records c) in
    let after : length (old ++ []) ≡ count_in (apply_edits [] c) = length_permutation (all_records (apply_edits [] c)) (old ++ []) (records_moved [] c refl) in
    let stay : length old ≡ count_in c = ap length (all_kept (edited_record []) (all_records c) (λ r at. refl)) in
    omega (arith, after, length-append old [], stay)

-- the first edit and the others
count_first : (p : Edit → Bool) (e : Edit) (es : List Edit) → count_by p (e ∷ es) ≡ count_by p (e ∷ []) + count_by p es
count_first p e es = let one : Edit → ℕ = λ f. cond (p f) 1 0 in omega (arith, sum_by-cons one e es, sum_by-cons one e [])

module _ (adds : EditsAddUp) where
  pub counts : CountsAfter
  counts [] c fit = omega (arith, no_edits c)
  counts (e ∷ es) c fit =
      let both = adds (e ∷ []) es c fit in
      let first = one_count e c both.earlier in
      let others = counts es (apply_edits (e ∷ []) c) both.later in
      omega (arith, first, others, ap count_in both.cells, count_first is_deletion e es, count_first is_addition e es)
