-- The first findings of rows, row after row.
use Rattle.std.proofs.Common.{◌≡◌, ℕ, zero, suc, ◌+◌, ◌-◌, ◌≤◌, List, [], ◌∷◌, ◌++◌, length, map, min, take, refl, sym, ap, ◌∙◌, append_assoc, append-nil}
use Rattle.std.proofs.Common.{length-append, length-take, arith}
use Rattle.std.proofs.lemmas.List.{take-map}
use Rattle.cell_spec.specs.declared.finding.Finding.{Finding}
use Rattle.cell_spec.specs.declared.key.Subject.{Subject}
use Rattle.cell_findings.specs.Rows.{findings_of_rows, with_subject}
use Rattle.cell_findings.specs.declared.list.SubjectFinding.{SubjectFinding}

take_none : {X : Type 0} (n : ℕ) → take {A = X} n [] ≡ []
take_none zero = refl
take_none (suc n) = refl

-- the first of two lists, one behind the other
take_both : {X : Type 0} (n : ℕ) (xs ys : List X) → take n (xs ++ ys) ≡ take n xs ++ take (n - length xs) ys
take_both n [] ys =
    (let e : n ≡ n - 0 = omega arith in ap (λ k. take k ys) e) ∙ sym (ap (λ zs. zs ++ take (n - 0) ys) (take_none n))
take_both zero (x ∷ xs) ys = let e : 0 ≡ 0 - length (x ∷ xs) = omega arith in ap (λ k. take k ys) e
take_both (suc n) (x ∷ xs) ys =
    ap (λ zs. x ∷ zs) (take_both n xs ys)
    ∙ (let e : n - length xs ≡ suc n - length (x ∷ xs) = omega arith in ap (λ k. x ∷ (take n xs ++ take k ys)) e)

-- the findings that are taken are the first, and the others are taken from the rows that are left
pub record AreTaken (limit : ℕ) (all : List SubjectFinding) (first : List SubjectFinding) (left : List (Subject × List Finding)) : Type 0 where
  pub within : length first ≤ limit
  pub whole : first ++ take (limit - length first) (findings_of_rows left) ≡ take limit all

pub none_taken : (limit : ℕ) (rows left : List (Subject × List Finding)) (first : List SubjectFinding) → first ≡ [] → left ≡ rows
    → AreTaken limit (findings_of_rows rows) first left
none_taken limit rows left first none same =
    let empty : length first ≡ 0 = ap length none in
    record {
      within = omega (arith, empty);
      whole = (λ i. none i ++ take (limit - length (none i)) (findings_of_rows (same i))) ∙ (let e : limit - 0 ≡ limit =
          omega arith in ap (λ n. take n (findings_of_rows rows)) e);
    }

pub some_taken : (limit : ℕ) (all first more : List SubjectFinding) (s : Subject) (fs : List Finding) (left rows : List (Subject × List Finding))
    → AreTaken limit all first rows → rows ≡ (s, fs) ∷ left
    → more ≡ first ++ map (with_subject s) (take (limit - length first) fs) → AreTaken limit all more left
some_taken limit all first more s fs left rows taken next is =
    let n = limit - length first in
    let found = map (with_subject s) fs in
    let some : map (with_subject s) (take n fs) ≡ take n found = sym (take-map (with_subject s) n fs) in
    let pushed : more ≡ first ++ take n found = is ∙ ap (λ xs. first ++ xs) some in
    let counted : length more ≡ length first + min n (length found) = ap length pushed ∙ length-append first (take n found)
    ∙ ap (λ k. length first + k) (length-take n found) in
    let room : limit - length more ≡ n - length found = omega (arith, counted, taken.within) in
    record {
      within = omega (arith, counted, taken.within);
      whole = (λ i. pushed i ++ take (room i) (findings_of_rows left))
          ∙ append_assoc first (take n found) (take (n - length found) (findings_of_rows left))
          ∙ ap (λ xs. first ++ xs) (sym (take_both n found (findings_of_rows left)))
          ∙ ap (λ (those : List (Subject × List Finding)). first ++ take n (findings_of_rows those)) (sym next)
          ∙ taken.whole;
    }

pub enough_taken : (limit : ℕ) (all first : List SubjectFinding) (left : List (Subject × List Finding)) → AreTaken limit all first left
    → limit ≤ length first → first ≡ take limit all
enough_taken limit all first left taken full =
    sym (append-nil first) ∙ (let e : 0 ≡ limit - length first = omega (arith, full) in ap (λ n. first ++ take n (findings_of_rows left)) e) ∙ taken.whole

pub all_taken : (limit : ℕ) (all first : List SubjectFinding) (left : List (Subject × List Finding)) → AreTaken limit all first left
    → left ≡ [] → first ≡ take limit all
all_taken limit all first left taken none =
    sym (append-nil first) ∙ ap (λ xs. first ++ xs) (sym (take_none (limit - length first)))
    ∙ ap (λ (those : List (Subject × List Finding)). first ++ take (limit - length first) (findings_of_rows those)) (sym none) ∙ taken.whole
