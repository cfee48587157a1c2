-- Which rows hold none of some keys, and their places by their subjects.
use Rattle.std.proofs.Common.{◌≡◌, ℕ, zero, suc, ◌&&◌, ◌||◌, Bool, true, false, List, [], ◌∷◌, ◌++◌, Option, None, Some, cond, filter, is_some, refl, sym, ap, ◌∙◌, subst, inl, inr}
use Rattle.std.specs.Prelude.{Contains, IfSome, not, slice_get}
use Rattle.std.specs.Borrow.{Bor}
use Rattle.std.specs.Option.{option_copied}
use Rattle.std.specs.Cmp.{Equal-is}
use Rattle.std.specs.BTreeMap.{BTreeMap, get}
use Rattle.std.specs.List.{AllByRecursion, IsDistinct, list_any}
use Rattle.std.proofs.lemmas.Cmp.{eq_by_cmp_equiv}
use Rattle.std.proofs.lemmas.List.Folds.{list_any-append}
use Rattle.std.proofs.lemmas.List.Kept.{IsStrictlySortedBy-filter}
use Rattle.std.proofs.lemmas.List.Sorted.{IsPermutation-sym}
use Rattle.std.proofs.lemmas.Map.Keys.{IsDistinct-from_sorted, IsDistinct-IsPermutation}
use Rattle.std.proofs.lemmas.List.Elements.{Contains-get_or}
use Rattle.std.proofs.lemmas.Option.{get_or_from_slice_get, same_Some, slice_get_within}
use Rattle.cell_spec.specs.declared.finding.Row.{Row}
use Rattle.cell_spec.specs.declared.key.Key.{Key}
use Rattle.cell_spec.specs.declared.key.Subject.{Subject}
use Rattle.cell_spec.specs.Names.{same_key, same_subject, subject_order}
use Rattle.cell_spec.proofs.Orders.{total_keys}
use Rattle.cell_spec.proofs.SubjectOrder.{exact_subjects, total_subjects}
use Rattle.cell_spec.specs.declared.edit.Edit.{Edit}
use Rattle.cell_spec.specs.Edits.{apply_edits}
use Rattle.s57_types.specs.declared.cell.Cell.{Cell}
use Rattle.rule_spec.specs.Affected.{affected_list, change_by, has_valid_row, is_affected, is_still_valid}
use Rattle.rule_spec.specs.Findings.{subjects}
use Rattle.answer_laws.specs.EditedAnswers.{FindTheirRecords}
use Rattle.finding_laws.specs.Unaffected.{AffectedListIsSet}
use Rattle.finding_laws.proofs.Listed.{sorted_subjects}
use Rattle.answer_laws.proofs.Among.{Among, no_tie}
use Rattle.answer_laws.proofs.Tests.{any_same}
use Rattle.finding_laws.proofs.Tests.{any_either}
use Rattle.cell_bench.specs.Ready.{ArePlaces, HaveSameKeys, IsValidAt, IsValidOne, is_in, subjects_of}

same_turned : (j k : Key) → same_key j k ≡ same_key k j
same_turned j k = (eq_by_cmp_equiv total_keys).symm j k

subject_turned : (s t : Subject) → same_subject s t ≡ same_subject t s
subject_turned s t = (eq_by_cmp_equiv total_subjects).symm s t

-- ---- whether a row is valid
never : {X : Type 0} (xs : List X) → list_any (λ x. false) xs ≡ false
never [] = refl
never (x ∷ xs) = never xs

pub either_way : (stale reads : List Key) → list_any (λ k. list_any (same_key k) reads) stale ≡ list_any (λ r. list_any (same_key r) stale) reads
either_way [] reads = sym (never reads)
either_way (k ∷ stale) reads =
    (λ i. any_same (same_key k) (λ r. same_key r k) (same_turned k) reads i || either_way stale reads i)
    ∙ sym (any_either (λ r. same_key r k) (λ r. list_any (same_key r) stale) reads)

pub valid_is : (stale set : List Key) (row : Row) → HaveSameKeys stale set
    → not (list_any (is_in set) row.reads) ≡ is_still_valid stale row
valid_is stale set row is =
    ap not (any_same (is_in set) (λ k. list_any (same_key k) stale) is row.reads ∙ sym (either_way stale row.reads))

-- ---- places
has_more : (stale : List Key) (first : List Row) (row : Row) (s : Subject)
    → has_valid_row stale (first ++ row ∷ []) s ≡ (has_valid_row stale first s || ((same_subject row.subject s && is_still_valid stale row) || false))
has_more stale first row s =
    list_any-append (λ (r : Row). same_subject s r.subject && is_still_valid stale r) first (row ∷ [])
    ∙ ap (λ b. has_valid_row stale first s || ((b && is_still_valid stale row) || false)) (subject_turned s row.subject)

unchanged : (a b : Bool) → (a || ((b && false) || false)) ≡ a
unchanged true b = refl
unchanged false true = refl
unchanged false false = refl

-- a row that isn't valid changes nothing
pub passed_over : (stale : List Key) (rows first : List Row) (row : Row) (places : BTreeMap Subject ℕ) → is_still_valid stale row ≡ false
    → ArePlaces stale rows first places → ArePlaces stale rows (first ++ row ∷ []) places
passed_over stale rows first row places not_valid are = record {
  valid = are.valid;
  found = λ s. are.found s ∙ sym (unchanged (has_valid_row stale first s) (same_subject row.subject s))
      ∙ ap (λ b. has_valid_row stale first s || ((same_subject row.subject s && b) || false)) (sym not_valid)
      ∙ sym (has_more stale first row s);
}

found_by : (tie was : Bool) (v : ℕ) (o : Option ℕ) → is_some o ≡ was → is_some (cond tie (Some v) o) ≡ (was || ((tie && true) || false))
found_by true true v o e = refl
found_by true false v o e = refl
found_by false true v o e = e
found_by false false v o e = e

-- one that is gets its place
pub placed : (stale : List Key) (rows first : List Row) (row : Row) (at : ℕ) (places now : BTreeMap Subject ℕ) → slice_get rows at ≡ Some row
    → is_still_valid stale row ≡ true
    → ((s : Subject) → get subject_order now s ≡ cond (same_subject row.subject s) (Some at) (get subject_order places s))
    → ArePlaces stale rows first places → ArePlaces stale rows (first ++ row ∷ []) now
placed stale rows first row at places now here is put are = record {
  valid = λ s place has. by s place (same_subject row.subject s) refl (sym (put s) ∙ has);
  found = λ s.
      ap is_some (put s)
      ∙ found_by (same_subject row.subject s) (has_valid_row stale first s) at (get subject_order places s) (are.found s)
      ∙ ap (λ b. has_valid_row stale first s || ((same_subject row.subject s && b) || false)) (sym is)
      ∙ sym (has_more stale first row s);
}
  where
    by : (s : Subject) (place : ℕ) (tie : Bool) → same_subject row.subject s ≡ tie → cond tie (Some at) (get subject_order places s) ≡ Some place
        → IsValidAt stale rows s place
    by s place true tied has = record {
      row = row;
      at = ap (λ o. o) (let same : at ≡ place = cc in subst (λ n. slice_get rows n ≡ Some row) same here);
      about = exact_subjects row.subject s ((Equal-is (subject_order row.subject s)).0 tied);
      valid = is;
    }
    by s place false tied has = are.valid s place has

-- ---- rows that stand for subjects
pub record RowAt (rows : List Row) (place : ℕ) (s : Subject) : Type 0 where
  pub row : Row
  pub at : slice_get rows place ≡ Some row
  pub is : row.subject ≡ s

-- the row at the place of a subject is that subject's
pub row_in : (rows : List Row) (place : ℕ) (s : Subject) → slice_get (subjects_of rows) place ≡ Some s → RowAt rows place s
row_in [] place s e = cc
row_in (r ∷ rows) zero s e = record { row = r; at = refl; is = same_Some r.subject s e }
row_in (r ∷ rows) (suc place) s e = let rest = row_in rows place s e in record { row = rest.row; at = rest.at; is = rest.is }

-- no other row is about the subject of one
none_about : (stale : List Key) (s : Subject) (rows : List Row) → AllByRecursion (λ t. same_subject s t ≡ false) (subjects_of rows)
    → has_valid_row stale rows s ≡ false
none_about stale s [] apart = refl
none_about stale s (r ∷ rows) apart = let first = apart.0 in let rest = none_about stale s rows apart.1 in cc

is_about : (s : Subject) → same_subject s s ≡ true
is_about s = (eq_by_cmp_equiv total_subjects).refl s

alone : (tie valid rest : Bool) → tie ≡ true → rest ≡ false → ((tie && valid) || rest) ≡ valid
alone true true false e f = refl
alone true false false e f = refl
alone false valid rest e f = cc
alone true valid true e f = cc

passed : (tie valid : Bool) {rest : Bool} → tie ≡ false → ((tie && valid) || rest) ≡ rest
passed false valid e = refl
passed true valid e = cc

among_at : (rows : List Row) (place : ℕ) (row : Row) → slice_get rows place ≡ Some row → Among row rows
among_at [] place row at = cc
among_at (r ∷ rows) zero row at = inl (same_Some r row at)
among_at (r ∷ rows) (suc place) row at = inr (among_at rows place row at)

-- of rows about different subjects one is the only one of its subject
pub only_one : (stale : List Key) (rows : List Row) (place : ℕ) (row : Row) → IsDistinct same_subject (subjects_of rows)
    → slice_get rows place ≡ Some row → has_valid_row stale rows row.subject ≡ is_still_valid stale row
unfolding IsDistinct
only_one stale [] place row apart at = cc
only_one stale (r ∷ rows) zero row apart at =
    let is : r ≡ row = same_Some r row at in
    subst (λ (q : Row). has_valid_row stale (r ∷ rows) q.subject ≡ is_still_valid stale q) is
    (alone (same_subject r.subject r.subject) (is_still_valid stale r) (has_valid_row stale rows r.subject) (is_about r.subject)
    (none_about stale r.subject rows apart.0))
only_one stale (r ∷ rows) (suc place) row apart at =
    let there = no_tie same_subject (λ (q : Row). q.subject) r.subject row rows apart.0 (among_at rows place row at) in
    passed (same_subject row.subject r.subject) (is_still_valid stale r) (subject_turned row.subject r.subject ∙ there)
    ∙ only_one stale rows place row apart.1 at

-- the answer at a place, by the row there
pub answer_is : (stale set : List Key) (rows : List Row) (place : ℕ) (row : Row) (answer : Option Row) (valid : Bool) → HaveSameKeys stale set
    → slice_get rows place ≡ Some row → valid ≡ not (list_any (is_in set) row.reads) → answer ≡ cond valid (Some row) None → IsValidOne stale rows place answer
answer_is stale set rows place row answer valid same at is gives = λ other there.
    gives ∙ ap (λ b. cond b (Some row) None) (is ∙ valid_is stale set row same)
    ∙ ap (λ (r : Row). cond (is_still_valid stale r) (Some r) None) (same_Some row other (sym at ∙ there))

pub some_as : (answer : Option (Bor Row)) (valid : Bool) (row : Row) → option_copied answer ≡ cond valid (Some row) None → is_some answer ≡ valid
some_as None true row e = cc
some_as None false row e = refl
some_as (Some r) true row e = refl
some_as (Some r) false row e = cc

pub row_as : (P : Row → Type 0) (answer : Option (Bor Row)) (valid : Bool) (row : Row) → option_copied answer ≡ cond valid (Some row) None → (valid ≡ true → P row)
    → IfSome answer (λ r. P r.now)
row_as P None valid row e holds = tt
row_as P (Some r) true row e holds = subst P (sym (same_Some r.now row e)) (holds refl)
row_as P (Some r) false row e holds = cc

-- the row at a place is one of the rows
pub contained_at : (rows : List Row) (place : ℕ) (row : Row) → slice_get rows place ≡ Some row → Contains rows row
contained_at rows place row at =
    subst (Contains rows) (get_or_from_slice_get rows place row row at) (Contains-get_or rows place row (slice_get_within rows place row at))

-- each affected subject stands in its list once
pub affected_once : AffectedListIsSet → (edits : List Edit) (c : Cell) → FindTheirRecords edits c → IsDistinct same_subject (affected_list (change_by edits c))
affected_once set edits c fit =
    let found = filter (is_affected (change_by edits c)) (subjects (apply_edits edits c)) in
    IsDistinct-IsPermutation same_subject subject_turned found (affected_list (change_by edits c))
    (IsPermutation-sym (affected_list (change_by edits c)) found (set edits c fit))
    (IsDistinct-from_sorted subject_order found
    (IsStrictlySortedBy-filter subject_order (is_affected (change_by edits c)) (subjects (apply_edits edits c)) (sorted_subjects (apply_edits edits c))))
