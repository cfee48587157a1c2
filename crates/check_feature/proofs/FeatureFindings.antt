-- The findings about a feature, kind after kind.
use Rattle.std.proofs.Common.{◌≡◌, ℕ, ◌+◌, Bool, true, false, ◌&&◌, List, [], ◌∷◌, ◌++◌, length, map, take, filter, Option, None, Some, cond, refl, sym, ap}
use Rattle.std.proofs.Common.{◌∙◌, append_assoc, arith}
use Rattle.std.specs.Prelude.{◌==◌}
use Rattle.std.specs.List.{enumerate_from, list_all, position, position_from}
use Rattle.std.proofs.lemmas.Iterator.Adapters.{position_from-zero}
use Rattle.std.proofs.lemmas.Bool.{and_parts}
use Rattle.std.proofs.lemmas.Bool.Decides.{nat_tests}
use Rattle.std.proofs.lemmas.List.{append-nil}
use Rattle.s57_types.specs.declared.record.Feature.{Feature}
use Rattle.s57_types.specs.declared.cell.Cell.{Cell}
use Rattle.cell_spec.specs.declared.finding.Finding.{Finding}
use Rattle.rule_spec.specs.declared.kind.TheConstants.{BAD_CODES, BAD_LEVEL, DANGLING_FEATURE, DANGLING_REF, MIXED_RING, OPEN_RING, OUTER_COUNT, PRIM_REFS}
use Rattle.rule_spec.specs.declared.kind.TheConstants.{WRONG_GROUP, WRONG_TURN}
use Rattle.rule_spec.specs.Boundary.{boundary_of, has_points, has_usable_boundary, is_clean, mixed_ring, mixed_ring_of, open_ring, open_ring_of, outer_count}
use Rattle.rule_spec.specs.Boundary.{outer_count_of, wrong_turn, wrong_turn_of}
use Rattle.rule_spec.specs.Features.{bad_codes, bad_level, dangling_feature, dangling_ref, is_beyond_ascii, prim_refs, wrong_group}
use Rattle.rule_spec.specs.Findings.{finding, findings_of_rules}
use Rattle.rule_spec.specs.Rule.{Found, places_from}
use Rattle.rule_spec.specs.Rules.{feature_rules}
use Rattle.check_area.proofs.Rows.{rules_unusable}
use Rattle.check_feature.specs.FeatureFindings.{boundary_findings, pointer_findings}

-- ---- an area is judged where nothing is found about its spatial pointers
some_number : (nums : Found) (first : List _) → is_clean (first ∷ nums) ≡ false
some_number nums first = grind (arith, nat_tests)

abbrev in_a_row : Found → Found → Found → List Finding
in_a_row a b c = map (finding PRIM_REFS) a ++ map (finding DANGLING_REF) b ++ map (finding BAD_CODES) c

some_finding : (x : Finding) (xs : List Finding) → (length (x ∷ xs) == 0) ≡ false
some_finding x xs = grind (arith, nat_tests)

none_found : (a b c : Found) → (length (in_a_row a b c) == 0) ≡ (is_clean a && is_clean b && is_clean c)
none_found [] [] [] = refl
none_found [] [] (x ∷ c) = some_finding (finding BAD_CODES x) (map (finding BAD_CODES) c) ∙ sym (some_number c x)
none_found [] (x ∷ b) c =
    some_finding (finding DANGLING_REF x) (map (finding DANGLING_REF) b ++ map (finding BAD_CODES) c) ∙ ap (λ z. z && is_clean c) (sym (some_number b x))
none_found (x ∷ a) b c =
    some_finding (finding PRIM_REFS x) (map (finding PRIM_REFS) a ++ map (finding DANGLING_REF) b ++ map (finding BAD_CODES) c)
    ∙ ap (λ z. (z && is_clean b) && is_clean c) (sym (some_number a x))

is_nothing : (found : Found) → is_clean found ≡ true → found ≡ []
is_nothing [] h = refl
is_nothing (x ∷ found) h = absurd (true_is_false (sym h ∙ some_number found x))
  where
    true_is_false : true ≡ false → ⊥
    true_is_false e = cc

module _ (c : Cell) (f : Feature) (found : List Finding) (is : found ≡ pointer_findings c f) where
  clean : (length found == 0) ≡ (is_clean (prim_refs c f) && is_clean (dangling_ref c f) && is_clean (bad_codes c f))
  unfolding pointer_findings
  clean = ap (λ xs. length xs == 0) is ∙ none_found (prim_refs c f) (dangling_ref c f) (bad_codes c f)

  pub judged_prim : ((f.prim == 3) && (length found == 0)) ≡ true → (f.prim == 3) ≡ true
  judged_prim h = (and_parts (f.prim == 3) (length found == 0) h).0

  all_clean : ((f.prim == 3) && (length found == 0)) ≡ true → (is_clean (prim_refs c f) && is_clean (dangling_ref c f) && is_clean (bad_codes c f)) ≡ true
  all_clean h = sym clean ∙ (and_parts (f.prim == 3) (length found == 0) h).1

  clean_parts : ((f.prim == 3) && (length found == 0)) ≡ true
      → ((is_clean (prim_refs c f) && is_clean (dangling_ref c f)) ≡ true) × (is_clean (bad_codes c f) ≡ true)
  clean_parts h = and_parts (is_clean (prim_refs c f) && is_clean (dangling_ref c f)) (is_clean (bad_codes c f)) (all_clean h)

  pub judged_refs : ((f.prim == 3) && (length found == 0)) ≡ true → prim_refs c f ≡ []
  judged_refs h = is_nothing (prim_refs c f) (and_parts (is_clean (prim_refs c f)) (is_clean (dangling_ref c f)) (clean_parts h).0).0

  pub judged_targets : ((f.prim == 3) && (length found == 0)) ≡ true → dangling_ref c f ≡ []
  judged_targets h = is_nothing (dangling_ref c f) (and_parts (is_clean (prim_refs c f)) (is_clean (dangling_ref c f)) (clean_parts h).0).1

  pub judged_codes : ((f.prim == 3) && (length found == 0)) ≡ true → bad_codes c f ≡ []
  judged_codes h = is_nothing (bad_codes c f) (clean_parts h).1

  not_usable : ((f.prim == 3) && (length found == 0)) ≡ false → has_usable_boundary c f ≡ false
  unfolding has_usable_boundary
  not_usable h = ap (λ b. ((f.prim == 3) && b) && list_all (has_points c) f.places) (sym clean) ∙ ap (λ b. b && list_all (has_points c) f.places) h

  -- another feature has no boundary to judge
  pub not_judged : ((f.prim == 3) && (length found == 0)) ≡ false → boundary_findings c f ≡ []
  unfolding boundary_findings
  not_judged h =
      let rows = boundary_of c f in
      rules_unusable (has_usable_boundary c f) (open_ring_of rows) (mixed_ring_of rows) (outer_count_of rows) (wrong_turn_of rows) (not_usable h)

-- ---- the first of the places that pass a test
one_place : Option ℕ → Found
one_place None = []
one_place (Some k) = ((k + 1) ∷ []) ∷ []

module _ {X : Type 0} (test : X → Bool) where
  first_by : (k : ℕ) (x : X) (xs : List X) (passes : Bool) → take 1 (places_from test (k + 1 + 1) xs) ≡ one_place (position_from test (k + 1) xs)
      → take 1 (map (λ (item : ℕ × X). item.0 ∷ []) (cond passes
      ((k + 1, x) ∷ filter (λ (item : ℕ × X). test item.1) (enumerate_from (k + 1 + 1) xs))
      (filter (λ (item : ℕ × X). test item.1) (enumerate_from (k + 1 + 1) xs))))
      ≡ one_place (cond passes (Some k) (position_from test (k + 1) xs))
  unfolding one_place
  first_by k x xs true h = refl
  first_by k x xs false h = h

  by_position : (k : ℕ) (xs : List X) → take 1 (places_from test (k + 1) xs) ≡ one_place (position_from test k xs)
  unfolding one_place
  by_position k [] = refl
  by_position k (x ∷ xs) = first_by k x xs (test x) (by_position (k + 1) xs)

  all_by_position : (xs : List X) → take 1 (places_from test 1 xs) ≡ one_place (position test xs)
  all_by_position xs = by_position 0 xs ∙ ap one_place (sym (position_from-zero test xs))

pub first_place : (f : Feature) (k : ℕ) → position is_beyond_ascii f.attf ≡ Some k → take 1 (places_from is_beyond_ascii 1 f.attf) ≡ ((k + 1) ∷ []) ∷ []
unfolding one_place
first_place f k h = all_by_position is_beyond_ascii f.attf ∙ ap one_place h

pub no_place : (held : List Finding) (kind : ℕ) (f : Feature) → position is_beyond_ascii f.attf ≡ None
    → held ++ map (finding kind) (take 1 (places_from is_beyond_ascii 1 f.attf)) ≡ held
unfolding one_place
no_place held kind f h = ap (λ found. held ++ map (finding kind) found) (all_by_position is_beyond_ascii f.attf ∙ ap one_place h) ∙ append-nil held

-- ---- all kinds
-- three rules' findings appended one after the other
pub pointers_appended : (c : Cell) (f : Feature) (none first second third : List Finding) → none ≡ []
    → first ≡ none ++ map (finding PRIM_REFS) (prim_refs c f) → second ≡ first ++ map (finding DANGLING_REF) (dangling_ref c f)
    → third ≡ second ++ map (finding BAD_CODES) (bad_codes c f) → third ≡ pointer_findings c f
unfolding pointer_findings
pointers_appended c f none first second third start a b d =
    d ∙ ap (λ xs. xs ++ map (finding BAD_CODES) (bad_codes c f))
    (b ∙ ap (λ xs. xs ++ map (finding DANGLING_REF) (dangling_ref c f)) (a ∙ ap (λ xs. xs ++ map (finding PRIM_REFS) (prim_refs c f)) start))

regroup : (a b c d e f g h i j : List Finding) → ((((a ++ b ++ c) ++ (d ++ (e ++ (f ++ g)))) ++ h) ++ i) ++ j ≡ a
    ++ (b ++ (c ++ (d ++ (e ++ (f ++ (g ++ (h ++ (i ++ (j ++ [])))))))))
regroup a b c d e f g h i j = ap (λ rest. ((((a ++ b ++ c) ++ (d ++ (e ++ (f ++ g)))) ++ h) ++ i) ++ rest) (sym (append-nil j)) ∙ simp append_assoc

-- those about the pointers, the boundary, the partners, the group and the texts
pub all_appended : (c : Cell) (f : Feature) (third fourth fifth sixth seventh : List Finding) → third ≡ pointer_findings c f
    → fourth ≡ third ++ boundary_findings c f
    → fifth ≡ fourth ++ map (finding DANGLING_FEATURE) (dangling_feature c f) → sixth ≡ fifth ++ map (finding WRONG_GROUP) (wrong_group c f)
    → seventh ≡ sixth ++ map (finding BAD_LEVEL) (bad_level c f) → seventh ≡ findings_of_rules (λ rule. rule c f) feature_rules
unfolding pointer_findings boundary_findings
all_appended c f third fourth fifth sixth seventh pointers boundary partners group level =
    level
    ∙ ap (λ xs. xs ++ map (finding BAD_LEVEL) (bad_level c f)) (group
    ∙ ap (λ xs. xs ++ map (finding WRONG_GROUP) (wrong_group c f))
    (partners ∙ ap (λ xs. xs ++ map (finding DANGLING_FEATURE) (dangling_feature c f))
    (boundary ∙ ap (λ xs. xs ++ boundary_findings c f) pointers)))
    ∙ regroup (map (finding PRIM_REFS) (prim_refs c f)) (map (finding DANGLING_REF) (dangling_ref c f)) (map (finding BAD_CODES) (bad_codes c f))
    (map (finding OPEN_RING) (open_ring c f)) (map (finding MIXED_RING) (mixed_ring c f)) (map (finding OUTER_COUNT) (outer_count c f))
    (map (finding WRONG_TURN) (wrong_turn c f))
    (map (finding DANGLING_FEATURE) (dangling_feature c f)) (map (finding WRONG_GROUP) (wrong_group c f)) (map (finding BAD_LEVEL) (bad_level c f))
