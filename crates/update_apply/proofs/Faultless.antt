-- A list of edits without a fault, with one edit more.
use Rattle.std.proofs.Common.{◌≡◌, ℕ, zero, suc, ◌+◌, ◌<◌, ◌≤◌, ◌==◌, Bool, true, false, List, [], ◌∷◌, ◌++◌, length, take, None, Some, inl, inr, refl, sym}
use Rattle.std.proofs.Common.{ap, ◌∙◌, arith, nat_lt, slice_get, option_and_then, length-append, zero-add}
use Rattle.std.specs.List.{list_all, list_any}
use Rattle.std.proofs.lemmas.Bool.{cases_lt, le-ltb}
use Rattle.std.proofs.lemmas.Bool.Decides.{nat_tests}
use Rattle.std.proofs.lemmas.List.{take-append-le}
use Rattle.std.proofs.lemmas.List.Folds.{list_all-append, list_any-append}
use Rattle.std.proofs.Math.Seq.{take-append_seam}
use Rattle.s57_types.specs.declared.cell.Cell.{Cell}
use Rattle.cell_spec.specs.declared.edit.Edit.{Edit}
use Rattle.cell_spec.specs.Edits.{name_of_edit, apply_edits, find_their_records}
use Rattle.cell_spec.specs.Readable.{IsReadable}
use Rattle.edit_sets.specs.FormFault.{edit_fault, fault_at, first_edit_fault, form_fault, has_edit_of, unfitness_of_edit}
use Rattle.edit_sets.specs.Counts.{count_fault}
use Rattle.edit_sets.proofs.FirstFaults.{each_none, none_at}
use Rattle.edit_sets.proofs.Formed.{formed, no_fault}
use Rattle.answer_laws.specs.EditedAnswers.{FindTheirRecords}
use Rattle.answer_laws.proofs.AddedUp.{add_up}
use Rattle.answer_laws.proofs.FormedEdits.{find_theirs}

-- the items of a list with one more
get_before : {X : Type 0} (xs ys : List X) (k : ℕ) → k < length xs → slice_get (xs ++ ys) k ≡ slice_get xs k
get_before [] ys k below = absurd (omega arith)
get_before (x ∷ xs) ys zero below = refl
get_before (x ∷ xs) ys (suc k) below = get_before xs ys k (omega arith)

get_last : {X : Type 0} (xs : List X) (x : X) → slice_get (xs ++ (x ∷ [])) (length xs) ≡ Some x
get_last [] x = refl
get_last (y ∷ xs) x = get_last xs x

no_fault_of : (nall : ℕ) (earlier : List Edit) (place : ℕ) (e : Edit) → has_edit_of (name_of_edit e) earlier ≡ false
    → unfitness_of_edit nall e ≡ None → edit_fault nall earlier place e ≡ None
no_fault_of nall earlier place e new fit = rw (new, fit) refl

few_enough : (n : ℕ) → n + 1 ≤ 4096 → count_fault (n + 1) 0 ≡ None
few_enough n bounded =
    let some : (n + 1 == 0) ≡ false = grind (arith, nat_tests) in
    let few : nat_lt 4096 (n + 1) ≡ false = le-ltb 4096 (n + 1) bounded in
    simp (some, few)

module _ (nall : ℕ) (edits : List Edit) (e : Edit) (faultless : first_edit_fault nall edits ≡ None)
    (new : has_edit_of (name_of_edit e) edits ≡ false) (fit : unfitness_of_edit nall e ≡ None) where
  at_last : fault_at nall (edits ++ (e ∷ [])) (length edits) ≡ None
  at_last = ap (option_and_then (edit_fault nall (take (length edits) (edits ++ (e ∷ []))) (length edits + 1))) (get_last edits e)
      ∙ ap (λ before. edit_fault nall before (length edits + 1) e) (take-append_seam edits (e ∷ []))
      ∙ no_fault_of nall edits (length edits + 1) e new fit

  at_earlier : (k : ℕ) → k < length edits → fault_at nall (edits ++ (e ∷ [])) k ≡ None
  at_earlier k below =
      let within : k ≤ length edits = omega arith in
      ap (option_and_then (edit_fault nall (take k (edits ++ (e ∷ []))) (k + 1))) (get_before edits (e ∷ []) k below)
      ∙ ap (λ before. option_and_then (edit_fault nall before (k + 1)) (slice_get edits k)) (take-append-le k edits (e ∷ []) within)
      ∙ ap (fault_at nall edits) (sym (zero-add k))
      ∙ each_none (fault_at nall edits) 0 (length edits) faultless k below

  at_each : (k : ℕ) → k < length (edits ++ (e ∷ [])) → fault_at nall (edits ++ (e ∷ [])) k ≡ None
  at_each k below = elim (cases_lt k (length edits)) [
    | inl before ↦ at_earlier k before
    | inr past ↦
        let longer = length-append edits (e ∷ []) in
        let here : length edits ≡ k = omega (arith, longer, past, below) in
        ap (fault_at nall (edits ++ (e ∷ []))) (sym here) ∙ at_last
  ]

  pub faultless_more : first_edit_fault nall (edits ++ (e ∷ [])) ≡ None
  faultless_more = none_at (fault_at nall (edits ++ (e ∷ []))) 0 (length (edits ++ (e ∷ [])))
      (λ k below. ap (fault_at nall (edits ++ (e ∷ []))) (zero-add k) ∙ at_each k below)

  counted : length edits ≤ 4095 → count_fault (length (edits ++ (e ∷ []))) 0 ≡ None
  counted few =
      let longer = length-append edits (e ∷ []) in
      let bounded : length edits + 1 ≤ 4096 = omega arith in
      ap (λ n. count_fault n 0) longer ∙ few_enough (length edits) bounded

  pub form_more : length edits ≤ 4095 → form_fault nall (edits ++ (e ∷ [])) [] ≡ None
  form_more few = no_fault nall (edits ++ (e ∷ [])) [] (counted few) faultless_more

-- what is so of each edit, and of one more
pub all_more : {X : Type 0} (p : X → Bool) (xs : List X) (x : X) → list_all p xs ≡ true → p x ≡ true → list_all p (xs ++ (x ∷ [])) ≡ true
all_more p xs x all here = list_all-append p xs (x ∷ []) ∙ (rw (all, here) refl)

pub none_more : {X : Type 0} (p : X → Bool) (xs : List X) (x : X) → list_any p xs ≡ false → p x ≡ false → list_any p (xs ++ (x ∷ [])) ≡ false
none_more p xs x none here = list_any-append p xs (x ∷ []) ∙ (rw (none, here) refl)

-- the edits of a readable cell and one more, applied at once, are the edits and then the one
module _ (c : Cell) (readable : IsReadable c) (edits : List Edit) (e : Edit) (form : form_fault c.head.nall (edits ++ (e ∷ [])) [] ≡ None)
    (found : find_their_records (edits ++ (e ∷ [])) c ≡ true) where
  pub fit_together : FindTheirRecords (edits ++ (e ∷ [])) c
  fit_together = find_theirs c (edits ++ (e ∷ [])) [] readable (formed c.head.nall (edits ++ (e ∷ [])) [] form) found

  pub one_more : apply_edits (edits ++ (e ∷ [])) c ≡ apply_edits (e ∷ []) (apply_edits edits c)
  one_more = (add_up edits (e ∷ []) c fit_together).cells
