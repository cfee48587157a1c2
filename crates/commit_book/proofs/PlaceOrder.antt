-- The order of places at names, and the first place that is noted.
use Rattle.std.proofs.Common.{◌≡◌, ℕ, ◌≤◌, ◌<◌, ◌||◌, Bool, true, false, ltb, List, [], ◌∷◌, ◌++◌, refl, sym, ap, subst, ◌∙◌, arith}
use Rattle.std.specs.Ordering.{is_gt, nat_cmp, ordering_reverse, ordering_then}
use Rattle.std.specs.BTreeSet.{IsKeyRangeOf, contains}
use Rattle.std.specs.BTreeMap.Range.{IsInRange}
use Rattle.std.specs.declared.cmp.Ordering.{Ordering}
use Rattle.std.specs.declared.cmp.Ordering.TheVariants.{Less, Equal, Greater}
use Rattle.std.specs.declared.ops.Bound.TheVariants.{Included, Excluded}
use Rattle.std.proofs.Math.Bool.{or-false, or-true}
use Rattle.std.proofs.lemmas.Bool.{ltb-true, ltb-false}
use Rattle.std.proofs.lemmas.Cmp.{by_ranked, ranked, tied_itself}
use Rattle.std.proofs.lemmas.List.Folds.{list_any-append}
use Rattle.std.proofs.lemmas.Map.Keys.{le_from_not_gt}
use Rattle.s57_types.specs.declared.name.RecName.{RecName}
use Rattle.cell_spec.specs.Names.{kind_rank, name_order}
use Rattle.cell_spec.proofs.Orders.{exact_names, total_names}
use Rattle.commit_book.specs.declared.commit_places.CommitPlace.{CommitPlace}
use Rattle.commit_book.specs.declared.commit_places.CommitPlaces.{CommitPlaces}
use Rattle.commit_book.specs.CommitPlaces.{IsFirstPlace, commit_place, has_any, has_place, place_order}

-- ---- numbers
not_after : (j k : ℕ) → j ≤ k → is_gt (nat_cmp j k) ≡ false
not_after j k within =
    by_ranked (j < k) (j ≡ k) (k < j) (nat_cmp j k) (ranked j k (nat_cmp j k) refl) (λ is below. ap is_gt is) (λ is same. ap is_gt is)
    (λ is above. absurd (omega (arith, within, above)))

before : (j k : ℕ) → j < k → nat_cmp j k ≡ Less
before j k below =
    by_ranked (j < k) (j ≡ k) (k < j) (nat_cmp j k) (ranked j k (nat_cmp j k) refl) (λ is less. is) (λ is same. absurd (omega (arith, below, same)))
    (λ is above. absurd (omega (arith, below, above)))

below_where_before : (j k : ℕ) → nat_cmp j k ≡ Less → j < k
below_where_before j k is = ranked j k Less (sym is)

-- ---- places at one name are ordered by place
then_regroup : (a b c : Ordering) → ordering_then a (ordering_then b (ordering_then c Equal)) ≡ ordering_then (ordering_then a (ordering_then b Equal)) c
then_regroup Less b c = refl
then_regroup Greater b c = refl
then_regroup Equal Less c = refl
then_regroup Equal Greater c = refl
then_regroup Equal Equal Less = refl
then_regroup Equal Equal Equal = refl
then_regroup Equal Equal Greater = refl

by_name : (p q : CommitPlace) → place_order p q ≡ ordering_then (name_order p.name q.name) (nat_cmp p.place q.place)
by_name p q = then_regroup (nat_cmp (kind_rank p.name.kind) (kind_rank q.name.kind)) (nat_cmp p.name.id q.name.id) (nat_cmp p.place q.place)

at_name : (n : RecName) (j k : ℕ) → place_order (commit_place n j) (commit_place n k) ≡ nat_cmp j k
at_name n j k = by_name (commit_place n j) (commit_place n k) ∙ ap (λ o. ordering_then o (nat_cmp j k)) (tied_itself total_names n)

-- what stands between two places at a name is at that name
named_by : (n m : RecName) (first last : Ordering) (o : Ordering) → name_order n m ≡ o → is_gt (ordering_then o first) ≡ false
    → ordering_then (name_order m n) last ≡ Less → n ≡ m
named_by n m first last Less is up_to below =
    let behind = sym (ap (λ o. ordering_then o last) (total_names.antisymm m n ∙ ap ordering_reverse is)) ∙ below in
    absurd (cc)
named_by n m first last Equal is up_to below = exact_names n m is
named_by n m first last Greater is up_to below = absurd (cc)

named : (n : RecName) (from to : ℕ) (e : CommitPlace) → is_gt (place_order (commit_place n from) e) ≡ false
    → place_order e (commit_place n to) ≡ Less → n ≡ e.name
named n from to e up_to below =
    named_by n e.name (nat_cmp from e.place) (nat_cmp e.place to) (name_order n e.name) refl
    (sym (ap is_gt (by_name (commit_place n from) e)) ∙ up_to) (sym (by_name e (commit_place n to)) ∙ below)

pub in_range : (n : RecName) (from to k : ℕ) → from ≤ k → k < to
    → IsInRange place_order (Included (commit_place n from)) (Excluded (commit_place n to)) (commit_place n k)
in_range n from to k above below = (ap is_gt (at_name n from k) ∙ not_after from k above, at_name n k to ∙ before k to below)

pub is_forward : (n : RecName) (from to : ℕ) → from ≤ to → is_gt (place_order (commit_place n from) (commit_place n to)) ≡ false
is_forward n from to within = ap is_gt (at_name n from to) ∙ not_after from to within

-- ---- the first place at one name
module _ (places : CommitPlaces) (n : RecName) (from to : ℕ) where
  abbrev InRange : CommitPlace → Type 0
  InRange = IsInRange place_order (Included (commit_place n from)) (Excluded (commit_place n to))

  pub none_noted : from ≤ to → ((q : CommitPlace) → InRange q → contains place_order places.noted q ≡ false)
      → IsFirstPlace places (n ∷ []) from to to
  none_noted within none = record {
    from_is = within;
    to_is = omega arith;
    none_before = λ k above below. or-false (has_place places n k) ∙ none (commit_place n k) (in_range n from to k above below);
    noted = λ below. absurd (omega (arith, below));
  }

  pub first_noted : (e : CommitPlace) → InRange e → contains place_order places.noted e ≡ true
      → ((q : CommitPlace) → InRange q → contains place_order places.noted q ≡ true → is_gt (place_order e q) ≡ false)
      → IsFirstPlace places (n ∷ []) from to e.place
  first_noted e here there least =
      let same : n ≡ e.name = named n from to e here.0 here.1 in
      let at : commit_place n e.place ≡ e = λ i. record { name = same i; place = e.place } in
      let above : from ≤ e.place = le_from_not_gt from e.place
      (sym (ap is_gt (at_name n from e.place)) ∙ ap (λ q. is_gt (place_order (commit_place n from) q)) at ∙ here.0) in
      let below : e.place < to = below_where_before e.place to
      (sym (at_name n e.place to) ∙ ap (λ q. place_order q (commit_place n to)) at ∙ here.1) in
      record {
        from_is = above;
        to_is = omega (arith, below);
        none_before = λ k up_to before_it. or-false (has_place places n k) ∙ absent k up_to before_it below at (has_place places n k) refl;
        noted = λ _. or-false (has_place places n e.place) ∙ ap (contains place_order places.noted) at ∙ there;
      }
    where
      absent : (k : ℕ) → from ≤ k → k < e.place → e.place < to → commit_place n e.place ≡ e → (noted : Bool) → has_place places n k ≡ noted → noted ≡ false
      absent k up_to before_it below at false is = refl
      absent k up_to before_it below at true is =
          let not_less = le_from_not_gt e.place k (sym (ap is_gt (at_name n e.place k)) ∙ ap (λ q. is_gt (place_order q (commit_place n k))) at
          ∙ least (commit_place n k) (in_range n from to k up_to (omega (arith, before_it, below))) is) in
          absurd (omega (arith, not_less, before_it))

-- what a set's range between two places at a name holds, in an order that is by name and then by place
module _ (order : CommitPlace → CommitPlace → Ordering) (by_parts : (p q : CommitPlace) → order p q ≡ place_order p q) (places : CommitPlaces)
    (n : RecName) (from to : ℕ) (range : List CommitPlace)
    (are : IsKeyRangeOf order (Included (commit_place n from)) (Excluded (commit_place n to)) places.noted range) where
  ordered : IsKeyRangeOf place_order (Included (commit_place n from)) (Excluded (commit_place n to)) places.noted range
  ordered = subst (λ (cmp : CommitPlace → CommitPlace → Ordering). IsKeyRangeOf cmp (Included (commit_place n from)) (Excluded (commit_place n to))
      places.noted range) (λ i p q. by_parts p q i) are

  pub first_of_none : from ≤ to → range ≡ [] → IsFirstPlace places (n ∷ []) from to to
  first_of_none within none = none_noted places n from to within (ordered.5 none)

  pub first_of_range : (e : CommitPlace) (behind : List CommitPlace) → range ≡ e ∷ behind → IsFirstPlace places (n ∷ []) from to e.place
  first_of_range e behind is =
      let there = subst (IsKeyRangeOf place_order (Included (commit_place n from)) (Excluded (commit_place n to)) places.noted) is ordered in
      first_noted places n from to e there.1.0 there.1.1 there.2

-- ---- of several names
module _ (places : CommitPlaces) (names : List RecName) (n : RecName) (from to first next : ℕ) where
  pub one_name_more : IsFirstPlace places names from to first → IsFirstPlace places (n ∷ []) from first next
      → IsFirstPlace places (names ++ n ∷ []) from to next
  one_name_more earlier one =
      let less = one.to_is in
      let within = earlier.to_is in
      record {
        from_is = one.from_is;
        to_is = omega (arith, less, within);
        none_before = λ k above below.
            joined k ∙ (λ i. earlier.none_before k above (omega (arith, below, less)) i || one.none_before k above below i);
        noted = λ below. joined next ∙ by (ltb next first) refl below;
      }
    where
      joined : (k : ℕ) → has_any places (names ++ n ∷ []) k ≡ (has_any places names k || has_any places (n ∷ []) k)
      joined k = list_any-append (λ m. has_place places m k) names (n ∷ [])

      by : (less : Bool) → ltb next first ≡ less → next < to → (has_any places names next || has_any places (n ∷ []) next) ≡ true
      by true is below =
          ap (λ b. has_any places names next || b) (one.noted (ltb-true next first is)) ∙ or-true (has_any places names next)
      by false is below =
          let up_to = one.to_is in
          let same : first ≡ next = omega (arith, ltb-false next first is, up_to) in
          ap (λ b. b || has_any places (n ∷ []) next)
          (sym (ap (has_any places names) same) ∙ earlier.noted (let b = below in omega (arith, same, b)))
