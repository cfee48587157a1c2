-- One list of a cell after one edit.
use Rattle.std.proofs.Common.{◌≡◌, ℕ, Bool, true, false, ◌&&◌, List, [], ◌∷◌, ◌++◌, Option, None, Some, cond, filter, map, refl, sym, ap, subst, ◌∙◌}
use Rattle.std.proofs.Common.{append-nil}
use Rattle.std.specs.Prelude.{◌==◌, filter_map}
use Rattle.std.specs.Cmp.{tied_itself}
use Rattle.std.specs.List.{AllByRecursion, IsDistinct, cons_option}
use Rattle.std.specs.List.Sorted.{IsStrictlySortedBy}
use Rattle.std.specs.Map.{keys_of}
use Rattle.std.specs.Ordering.{is_eq, match_ordering, nat_cmp}
use Rattle.std.specs.declared.cmp.Ordering.{Ordering}
use Rattle.std.specs.declared.cmp.Ordering.TheVariants.{Less, Equal, Greater}
use Rattle.std.proofs.lemmas.Cmp.{nat_cmp_total}
use Rattle.std.proofs.lemmas.Option.{none-some}
use Rattle.s57_types.specs.declared.name.Kind.{Kind}
use Rattle.s57_types.specs.declared.name.RecName.{RecName}
use Rattle.s57_types.specs.declared.record.Rec.{Rec}
use Rattle.s57_types.specs.declared.cell.Cell.{Cell}
use Rattle.cell_spec.specs.declared.edit.Edit.{Edit}
use Rattle.cell_spec.specs.declared.edit.Edit.TheVariants.{Add, Set, Del, Head}
use Rattle.cell_spec.specs.Edits.{added_by, changed_by, edited_list, edited_record, list_of_kind, name_of_edit}
use Rattle.cell_spec.specs.Lookup.{name_of}
use Rattle.cell_spec.specs.Names.{is_of_kind, kind_rank, same_name}
use Rattle.cell_spec.specs.Writable.{HaveDistinctNames}
use Rattle.cell_spec.proofs.Orders.{names_tie, same_from_either, total_names}
use Rattle.row_spec.specs.Rows.{EachKeyIs, IsAscending, value_of, with_row, without_key}
use Rattle.row_spec.proofs.Place.{above_greater, value_of-above}
use Rattle.answer_laws.proofs.EditedLists.{IsOfKind}
use Rattle.record_store.specs.Lists.{records_in}

pub same_itself : (n : RecName) → same_name n n ≡ true
same_itself n = sym (names_tie n n) ∙ ap is_eq (tied_itself total_names n)

-- what one edit makes of a record
abbrev one_made : Edit → Rec → Bool → Option Rec
one_made e x b = changed_by x (cond b (Some e) None)

-- records of other names stay
pub kept_apart : (e : Edit) (xs : List Rec) → AllByRecursion (λ n. same_name (name_of_edit e) n ≡ false) (map name_of xs)
    → filter_map (edited_record (e ∷ [])) xs ≡ xs
kept_apart e [] apart = refl
kept_apart e (x ∷ xs) apart =
    ap (λ b. cons_option (one_made e x b) (filter_map (edited_record (e ∷ [])) xs)) apart.0 ∙ ap (λ rest. x ∷ rest) (kept_apart e xs apart.1)

name_at_by : (P : RecName → Type 0) (x old : Rec) (b : Bool) (later : Option Rec) → cond b (Some x) later ≡ Some old → P (name_of x)
    → (later ≡ Some old → P (name_of old)) → P (name_of old)
name_at_by P x old true later is here rest = let same : x ≡ old = cc in subst (λ r. P (name_of r)) same here
name_at_by P x old false later is here rest = rest is

-- what holds of all names holds of that of the record at a number
pub name_at : (P : RecName → Type 0) (rows : List (ℕ × Rec)) (place : ℕ) (old : Rec) → value_of nat_cmp rows place ≡ Some old
    → AllByRecursion P (map name_of (records_in rows)) → P (name_of old)
name_at P [] place old is all = cc
name_at P (row ∷ rows) place old is all =
    name_at_by P row.1 old (is_eq (nat_cmp row.0 place)) (value_of nat_cmp rows place) is all.0 (λ later. name_at P rows place old later all.1)

module _ (e : Edit) (row : ℕ × Rec) (rows : List (ℕ × Rec)) (place : ℕ) (old : Rec)
    (ascending : AllByRecursion (λ k. nat_cmp row.0 k ≡ Less) (keys_of rows))
    (apart : AllByRecursion (λ m. same_name (name_of row.1) m ≡ false) (map name_of (records_in rows)))
    (named : name_of old ≡ name_of_edit e) where
  -- a record before that at the number has another name
  other_name : value_of nat_cmp rows place ≡ Some old → same_name (name_of_edit e) (name_of row.1) ≡ false
  other_name is =
      same_from_either (name_of_edit e) (name_of row.1) ∙ ap (same_name (name_of row.1)) (sym named)
      ∙ name_at (λ m. same_name (name_of row.1) m ≡ false) rows place old is apart

  -- the records behind that at the number have other names
  others_apart : row.1 ≡ old → AllByRecursion (λ m. same_name (name_of_edit e) m ≡ false) (map name_of (records_in rows))
  others_apart is = subst (λ n. AllByRecursion (λ m. same_name n m ≡ false) (map name_of (records_in rows))) (ap name_of is ∙ named) apart

  own_name : row.1 ≡ old → same_name (name_of_edit e) (name_of row.1) ≡ true
  own_name is = ap (same_name (name_of_edit e)) (ap name_of is ∙ named) ∙ same_itself (name_of_edit e)

  none_above : nat_cmp row.0 place ≡ Greater → value_of nat_cmp rows place ≡ Some old → ⊥
  none_above greater is = none-some old (sym (value_of-above nat_cmp rows place (above_greater nat_cmp nat_cmp_total row.0 place rows greater ascending)) ∙ is)

  made_at : (answer : Ordering) → nat_cmp row.0 place ≡ answer → cond (is_eq answer) (Some row.1) (value_of nat_cmp rows place) ≡ Some old
      → (after : List Rec) → (value_of nat_cmp rows place ≡ Some old → filter_map (edited_record (e ∷ [])) (records_in rows) ≡ after)
      → filter_map (edited_record (e ∷ [])) (row.1 ∷ records_in rows) ≡ match_ordering answer (row.1 ∷ after)
      (cons_option (changed_by row.1 (Some e)) (records_in rows)) []
  made_at Less order is after rest =
      ap (λ b. cons_option (one_made e row.1 b) (filter_map (edited_record (e ∷ [])) (records_in rows))) (other_name is) ∙ ap (λ xs. row.1 ∷ xs) (rest is)
  made_at Equal order is after rest =
      let same : row.1 ≡ old = cc in
      ap (λ b. cons_option (one_made e row.1 b) (filter_map (edited_record (e ∷ [])) (records_in rows))) (own_name same)
      ∙ ap (cons_option (changed_by row.1 (Some e))) (kept_apart e (records_in rows) (others_apart same))
  made_at Greater order is after rest = absurd (none_above order is)

set_by : (r : Rec) (row : ℕ × Rec) (rows : List (ℕ × Rec)) (place : ℕ) (old : Rec) (answer : Ordering) → nat_cmp row.0 place ≡ answer
    → (answer ≡ Greater → ⊥)
    → match_ordering answer (row.1 ∷ records_in (with_row nat_cmp rows place r)) (r ∷ records_in rows) []
    ≡ records_in (match_ordering answer (row ∷ with_row nat_cmp rows place r) ((place, r) ∷ rows) ((place, r) ∷ row ∷ rows))
set_by r row rows place old Less is none = refl
set_by r row rows place old Equal is none = refl
set_by r row rows place old Greater is none = absurd (none refl)

not_greater : (row : ℕ × Rec) (rows : List (ℕ × Rec)) (place : ℕ) (old : Rec) (answer : Ordering) → nat_cmp row.0 place ≡ answer
    → AllByRecursion (λ k. nat_cmp row.0 k ≡ Less) (keys_of rows) → cond (is_eq answer) (Some row.1) (value_of nat_cmp rows place) ≡ Some old
    → answer ≡ Greater → ⊥
not_greater row rows place old Less order ascending is greater = cc
not_greater row rows place old Equal order ascending is greater = cc
not_greater row rows place old Greater order ascending is greater =
    none-some old (sym (value_of-above nat_cmp rows place (above_greater nat_cmp nat_cmp_total row.0 place rows order ascending)) ∙ is)

-- a record in place of the one at a number
pub set_list : (r : Rec) (rows : List (ℕ × Rec)) (place : ℕ) (old : Rec) → IsAscending nat_cmp rows → HaveDistinctNames (records_in rows)
    → value_of nat_cmp rows place ≡ Some old → name_of old ≡ name_of r → filter_map (edited_record (Set r ∷ [])) (records_in rows) ≡
    records_in (with_row nat_cmp rows place r)
unfolding IsDistinct IsStrictlySortedBy
set_list r [] place old ascending apart is named = cc
set_list r (row ∷ rows) place old ascending apart is named =
    made_at (Set r) row rows place old ascending.0 apart.0 named (nat_cmp row.0 place) refl is (records_in (with_row nat_cmp rows place r))
    (λ later. set_list r rows place old ascending.1 apart.1 later named)
    ∙ set_by r row rows place old (nat_cmp row.0 place) refl (not_greater row rows place old (nat_cmp row.0 place) refl ascending.0 is)

gone_by : (row : ℕ × Rec) (rows : List (ℕ × Rec)) (place : ℕ) (answer : Ordering) → (answer ≡ Greater → ⊥)
    → match_ordering answer (row.1 ∷ records_in (without_key nat_cmp rows place)) (records_in rows) []
    ≡ records_in (cond (is_eq answer) rows (row ∷ without_key nat_cmp rows place))
gone_by row rows place Less none = refl
gone_by row rows place Equal none = refl
gone_by row rows place Greater none = absurd (none refl)

-- no record in place of the one at a number
pub gone_list : (n : RecName) (rows : List (ℕ × Rec)) (place : ℕ) (old : Rec) → IsAscending nat_cmp rows → HaveDistinctNames (records_in rows)
    → value_of nat_cmp rows place ≡ Some old → name_of old ≡ n → filter_map (edited_record (Del n ∷ [])) (records_in rows) ≡
    records_in (without_key nat_cmp rows place)
unfolding IsDistinct IsStrictlySortedBy
gone_list n [] place old ascending apart is named = cc
gone_list n (row ∷ rows) place old ascending apart is named =
    made_at (Del n) row rows place old ascending.0 apart.0 named (nat_cmp row.0 place) refl is (records_in (without_key nat_cmp rows place))
    (λ later. gone_list n rows place old ascending.1 apart.1 later named)
    ∙ gone_by row rows place (nat_cmp row.0 place) (not_greater row rows place old (nat_cmp row.0 place) refl ascending.0 is)

stays : (r x : Rec) (b : Bool) → changed_by x (cond b (Some (Add r)) None) ≡ Some x
stays r x true = refl
stays r x false = refl

-- an addition goes last, at a number behind all others
pub add_list : (r : Rec) (rows : List (ℕ × Rec)) (place : ℕ) → EachKeyIs nat_cmp Less place rows
    → filter_map (edited_record (Add r ∷ [])) (records_in rows) ++ r ∷ [] ≡ records_in (with_row nat_cmp rows place r)
add_list r [] place below = refl
add_list r (row ∷ rows) place below =
    ap (λ o. cons_option o (filter_map (edited_record (Add r ∷ [])) (records_in rows)) ++ r ∷ []) (stays r row.1 (same_name (name_of r) (name_of row.1)))
    ∙ ap (λ xs. row.1 ∷ xs) (add_list r rows place below.1)
    ∙ ap (λ answer. records_in (match_ordering answer (row ∷ with_row nat_cmp rows place r) ((place, r) ∷ rows) ((place, r) ∷ row ∷ rows))) (sym below.0)

-- ---- the lists of other kinds
apart_by : (e : Edit) (j : Kind) → is_of_kind j (name_of_edit e) ≡ false → (x : Rec) → IsOfKind j x → same_name (name_of_edit e) (name_of x) ≡ false
apart_by e j other x is = ap (λ b. b && ((name_of_edit e).id == (name_of x).id)) (ap (λ k. kind_rank (name_of_edit e).kind == kind_rank k) is ∙ other)

names_apart : (e : Edit) (j : Kind) → is_of_kind j (name_of_edit e) ≡ false → (xs : List Rec) → AllByRecursion (IsOfKind j) xs
    → AllByRecursion (λ n. same_name (name_of_edit e) n ≡ false) (map name_of xs)
names_apart e j other [] all = tt
names_apart e j other (x ∷ xs) all = (apart_by e j other x all.0, names_apart e j other xs all.1)

nothing_added : (e : Edit) (j : Kind) → is_of_kind j (name_of_edit e) ≡ false → filter (λ r. is_of_kind j (name_of r)) (filter_map added_by (e ∷ [])) ≡ []
nothing_added (Add r) j other = ap (λ b. cond b (r ∷ []) []) other
nothing_added (Set r) j other = refl
nothing_added (Del n) j other = refl
nothing_added (Head h) j other = refl

pub other_list : (e : Edit) (j : Kind) (c : Cell) → AllByRecursion (IsOfKind j) (list_of_kind j c) → is_of_kind j (name_of_edit e) ≡ false
    → edited_list (e ∷ []) j c ≡ list_of_kind j c
other_list e j c all other =
    (λ i. kept_apart e (list_of_kind j c) (names_apart e j other (list_of_kind j c) all) i ++ nothing_added e j other i) ∙ append-nil (list_of_kind j c)
