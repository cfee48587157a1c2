-- The findings of rules ascend where the rules' kinds do and each rule's findings do.
use Rattle.std.proofs.Common.{◌≡◌, ◌<◌, ℕ, Bool, true, List, [], ◌∷◌, ◌++◌, map, sym, ap, arith}
use Rattle.std.proofs.lemmas.Bool.{and_parts, ltb-true}
use Rattle.std.specs.Cmp.{nat_cmp_is}
use Rattle.std.specs.Cmp.Lexicographic.{slice_cmp}
use Rattle.std.specs.List.{AllByRecursion}
use Rattle.std.specs.List.Sorted.{IsStrictlySortedBy}
use Rattle.std.specs.Ordering.{nat_cmp, ordering_then}
use Rattle.std.specs.Prelude.{◌&&◌, nat_lt}
use Rattle.std.specs.declared.cmp.Ordering.{Ordering}
use Rattle.std.specs.declared.cmp.Ordering.TheVariants.{Less}
use Rattle.cell_spec.specs.Names.{finding_order}
use Rattle.cell_spec.specs.declared.finding.Finding.{Finding}
use Rattle.rule_spec.specs.Findings.{finding, findings_of_rules}
use Rattle.rule_spec.specs.Rule.{Found}
use Rattle.rule_spec.specs.RuleRow.{RuleRow}
use Rattle.read_laws.proofs.Ascents.{Ascends}
use Rattle.read_laws.proofs.Lists.{each_weaker, each_joined}

sorted_joined : {X : Type 0} (order : X → X → Ordering) (xs ys : List X) → IsStrictlySortedBy order xs → IsStrictlySortedBy order ys
    → AllByRecursion (λ x. AllByRecursion (λ y. order x y ≡ Less) ys) xs → IsStrictlySortedBy order (xs ++ ys)
unfolding IsStrictlySortedBy
sorted_joined order [] ys first second below = second
sorted_joined order (x ∷ xs) ys first second below = (
  each_joined (λ y. order x y ≡ Less) xs ys first.0 below.0,
  sorted_joined order xs ys first.1 second below.1,
)

-- the kinds of rules ascend above a number
abbrev pub kinds_ascend : {R : Type 0} → ℕ → List (RuleRow R) → Bool
kinds_ascend least [] = true
kinds_ascend least (r ∷ rules) = nat_lt least r.label.kind && kinds_ascend r.label.kind rules

-- findings go by their kinds
by_kind : (f g : Finding) → f.kind < g.kind → finding_order f g ≡ Less
by_kind f g below = ap (λ o. ordering_then o (slice_cmp nat_cmp f.nums g.nums)) (sym (nat_cmp_is f.kind g.kind Less below))

all_above : (least kind : ℕ) (found : Found) → least < kind → AllByRecursion (λ f. least < f.kind) (map (finding kind) found)
all_above least kind [] below = tt
all_above least kind (nums ∷ found) below = (below, all_above least kind found below)

all_below : (kind : ℕ) (found : Found) (others : List Finding) → AllByRecursion (λ f. kind < f.kind) others
    → AllByRecursion (λ f. AllByRecursion (λ g. finding_order f g ≡ Less) others) (map (finding kind) found)
all_below kind [] others above = tt
all_below kind (nums ∷ found) others above = (
  each_weaker (λ g. kind < g.kind) (λ g. finding_order (finding kind nums) g ≡ Less) (by_kind (finding kind nums)) others above,
  all_below kind found others above,
)

module _ {R : Type 0} (judge : R → Found) where
  kinds_above : (least : ℕ) (rules : List (RuleRow R)) → kinds_ascend least rules ≡ true → AllByRecursion (λ f. least < f.kind) (findings_of_rules judge rules)
  kinds_above least [] ascent = tt
  kinds_above least (r ∷ rules) ascent =
      let kind = r.label.kind in
      let parts = and_parts (nat_lt least kind) (kinds_ascend kind rules) ascent in
      let below : least < kind = ltb-true _ _ parts.0 in
      each_joined (λ f. least < f.kind) (map (finding kind) (judge r.rule)) (findings_of_rules judge rules) (all_above least kind (judge r.rule) below)
      (each_weaker (λ f. kind < f.kind) (λ f. least < f.kind) (λ f above. omega (arith, below, above)) (findings_of_rules judge rules)
      (kinds_above kind rules parts.1))

  -- a rule more is one more row of each list
  pub rules_ascend : (least : ℕ) (rules : List (RuleRow R)) → kinds_ascend least rules ≡ true → AllByRecursion (λ (r : RuleRow R). Ascends (judge r.rule)) rules
      → IsStrictlySortedBy finding_order (findings_of_rules judge rules)
  unfolding IsStrictlySortedBy
  rules_ascend least [] ascent each = tt
  rules_ascend least (r ∷ rules) ascent each =
      let kind = r.label.kind in
      let parts = and_parts (nat_lt least kind) (kinds_ascend kind rules) ascent in
      sorted_joined finding_order (map (finding kind) (judge r.rule)) (findings_of_rules judge rules) (each.0 kind) (rules_ascend kind rules parts.1 each.1)
      (all_below kind (judge r.rule) (findings_of_rules judge rules) (kinds_above kind rules parts.1))
