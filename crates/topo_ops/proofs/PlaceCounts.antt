-- How many spatial pointers name an edge, when those to one edge become two.
use Rattle.std.proofs.Common.{◌≡◌, ℕ, ◌+◌, Bool, true, false, ◌&&◌, List, [], ◌∷◌, cond, count_by, refl, sym, ap, ◌∙◌, arith}
use Rattle.std.specs.Prelude.{◌==◌}
use Rattle.std.specs.List.{AllByRecursion}
use Rattle.std.proofs.lemmas.Bool.{and_from, eq-eqb}
use Rattle.std.proofs.lemmas.List.Sums.{sum_by-append, sum_by-cons}
use Rattle.s57_types.specs.declared.name.RecName.{RecName}
use Rattle.s57_types.specs.declared.record.Spot.{Spot}
use Rattle.cell_spec.specs.Names.{kind_rank, same_name}
use Rattle.cell_spec.proofs.Orders.{one_when_same, same_from_either}
use Rattle.topo_ops.specs.Split.{on_edge, split_place, split_places}

pub same_self : (n : RecName) → same_name n n ≡ true
same_self n = and_from _ _ (eq-eqb (kind_rank n.kind) (kind_rank n.kind) refl) (eq-eqb n.id n.id refl)

-- a spatial pointer names an edge with an orientation that passes a test
abbrev pub is_counted : RecName → (ℕ → Bool) → Spot → Bool
is_counted n turn s = same_name n s.to && turn s.ornt

abbrev pub counted : RecName → (ℕ → Bool) → List Spot → ℕ
counted n turn ps = count_by (is_counted n turn) ps

-- what a name that has an orientation counts
one : RecName → RecName → Bool → ℕ
one n m turns = cond (same_name n m && turns) 1 0

one_other : (n m : RecName) (turns : Bool) → same_name n m ≡ false → one n m turns ≡ 0
unfolding one
one_other n m turns e = ap (λ t. cond (t && turns) 1 0) e

one_own : (n : RecName) (turns : Bool) → one n n turns ≡ cond turns 1 0
unfolding one
one_own n turns = ap (λ t. cond (t && turns) 1 0) (same_self n)

module _ (e f : RecName) (apart : same_name e f ≡ false) (turn : ℕ → Bool) where
  more : Bool → ℕ → ℕ
  more named n = cond named n 0

  by : (n : RecName) (s : Spot) (named back : Bool)
      → counted n turn (cond named (cond back (on_edge f s ∷ s ∷ []) (s ∷ on_edge f s ∷ [])) (s ∷ []))
      ≡ one n s.to (turn s.ornt) + more named (one n f (turn s.ornt))
  unfolding one more
  by n s false back = omega arith
  by n s true true = omega arith
  by n s true false = omega arith

  each : (n m : RecName) → ((s : Spot) (named : Bool) → same_name s.to e ≡ named → same_name s.to f ≡ false
      → one n s.to (turn s.ornt) + more named (one n f (turn s.ornt)) ≡ one m s.to (turn s.ornt))
      → (ps : List Spot) → AllByRecursion (λ (s : Spot). same_name s.to f ≡ false) ps → counted n turn (split_places e f ps) ≡ counted m turn ps
  unfolding one
  each n m step [] others = refl
  each n m step (s ∷ ps) others =
      let here = by n s (same_name s.to e) (s.ornt == 2) ∙ step s (same_name s.to e) refl others.0 in
      let rest = each n m step ps others.1 in
      let split = sum_by-append (λ (t : Spot). cond (is_counted n turn t) 1 0) (split_place e f s) (split_places e f ps) in
      let whole = sum_by-cons (λ (t : Spot). cond (is_counted m turn t) 1 0) s ps in
      split ∙ (λ i. here i + rest i) ∙ sym whole

  first_step : (s : Spot) (named : Bool) → same_name s.to e ≡ named → same_name s.to f ≡ false
      → one e s.to (turn s.ornt) + more named (one e f (turn s.ornt)) ≡ one e s.to (turn s.ornt)
  unfolding more
  first_step s true is other = let none = one_other e f (turn s.ornt) apart in omega (arith, none)
  first_step s false is other = omega arith

  second_step : (s : Spot) (named : Bool) → same_name s.to e ≡ named → same_name s.to f ≡ false
      → one f s.to (turn s.ornt) + more named (one f f (turn s.ornt)) ≡ one e s.to (turn s.ornt)
  unfolding more
  second_step s true is other =
      let none = one_other f s.to (turn s.ornt) (same_from_either f s.to ∙ other) in
      let here : one e s.to (turn s.ornt) ≡ one e e (turn s.ornt) = ap (λ n. one e n (turn s.ornt)) (one_when_same s.to e is) in
      let both = one_own e (turn s.ornt) in
      let all = one_own f (turn s.ornt) in
      omega (arith, none, here, both, all)
  second_step s false is other =
      let none = one_other f s.to (turn s.ornt) (same_from_either f s.to ∙ other) in
      let here = one_other e s.to (turn s.ornt) (same_from_either e s.to ∙ is) in
      omega (arith, none, here)

  other_step : (n : RecName) → same_name n e ≡ false → same_name n f ≡ false → (s : Spot) (named : Bool) → same_name s.to e ≡ named → same_name s.to f ≡ false
      → one n s.to (turn s.ornt) + more named (one n f (turn s.ornt)) ≡ one n s.to (turn s.ornt)
  unfolding more
  other_step n first second s true is other = let none = one_other n f (turn s.ornt) second in omega (arith, none)
  other_step n first second s false is other = omega arith

  pub first_counted : (ps : List Spot) → AllByRecursion (λ (s : Spot). same_name s.to f ≡ false) ps → counted e turn (split_places e f ps) ≡ counted e turn ps
  first_counted = each e e first_step

  pub second_counted : (ps : List Spot) → AllByRecursion (λ (s : Spot). same_name s.to f ≡ false) ps → counted f turn (split_places e f ps) ≡ counted e turn ps
  second_counted = each f e second_step

  pub other_counted : (n : RecName) → same_name n e ≡ false → same_name n f ≡ false → (ps : List Spot)
      → AllByRecursion (λ (s : Spot). same_name s.to f ≡ false) ps → counted n turn (split_places e f ps) ≡ counted n turn ps
  other_counted n first second = each n n (other_step n first second)
