-- One more place of those that pass a test.
use Rattle.std.proofs.Common.{◌≡◌, ℕ, ◌+◌, ◌<◌, Bool, true, false, List, [], ◌∷◌, ◌++◌, length, map, drop, get_or, refl, sym, ap, ◌∙◌, append_assoc}
use Rattle.std.proofs.lemmas.List.{drop_more, map-append}
use Rattle.cell_spec.specs.declared.finding.Finding.{Finding}
use Rattle.rule_spec.specs.Findings.{finding}
use Rattle.rule_spec.specs.Rule.{found_if, places_from}
use Rattle.std.specs.Prelude.{cond}
use Rattle.std.specs.List.{enumerate_from, filter}

first_by : {X : Type 0} (test : X → Bool) (first : ℕ) (x : X) (xs : List X) (passes : Bool)
    → map (λ (item : ℕ × X). item.0 ∷ []) (cond passes ((first, x) ∷ filter (λ (item : ℕ × X). test item.1) (enumerate_from (first + 1) xs))
    (filter (λ (item : ℕ × X). test item.1) (enumerate_from (first + 1) xs)))
    ≡ found_if passes (first ∷ []) ++ places_from test (first + 1) xs
first_by test first x xs true = refl
first_by test first x xs false = refl

-- where the findings of all places from one on are still to come, those of the next places are once its own is appended
pub next_place : {X : Type 0} (kind : ℕ) (test : X → Bool) (xs : List X) (k : ℕ) (d : X) (passes : Bool) (old new whole : List Finding)
    → k < length xs → passes ≡ test (get_or xs k d)
    → new ≡ old ++ map (finding kind) (found_if passes ((k + 1) ∷ [])) → old ++ map (finding kind) (places_from test (k + 1) (drop k xs)) ≡ whole
    → new ++ map (finding kind) (places_from test (k + 1 + 1) (drop (k + 1) xs)) ≡ whole
next_place kind test xs k d passes old new whole within is pushed so_far =
    let rest = places_from test (k + 1 + 1) (drop (k + 1) xs) in
    ap (λ items. items ++ map (finding kind) rest) pushed
    ∙ append_assoc old (map (finding kind) (found_if passes ((k + 1) ∷ []))) (map (finding kind) rest)
    ∙ ap (λ items. old ++ items) (sym (map-append (finding kind) (found_if passes ((k + 1) ∷ [])) rest)
    ∙ ap (λ p. map (finding kind) (found_if p ((k + 1) ∷ []) ++ rest)) is
    ∙ ap (map (finding kind)) (sym (first_by test (k + 1) (get_or xs k d) (drop (k + 1) xs) (test (get_or xs k d))))
    ∙ ap (λ items. map (finding kind) (places_from test (k + 1) items)) (sym (drop_more xs k d within)))
    ∙ so_far
