-- The pairs of an ascending list of names: they ascend, and they are each two of its names, the lesser first.
use Rattle.std.proofs.Common.{◌≡◌, Bool, true, false, ◌&&◌, ◌||◌, List, [], ◌∷◌, map, refl, sym, ap, ◌∙◌, subst}
use Rattle.std.specs.declared.cmp.Ordering.{Ordering}
use Rattle.std.specs.declared.cmp.Ordering.TheVariants.{Less}
use Rattle.std.specs.List.{AllByRecursion}
use Rattle.std.specs.List.Sorted.{IsStrictlySortedBy}
use Rattle.std.specs.Ordering.{is_eq, is_lt, ordering_reverse}
use Rattle.std.proofs.lemmas.List.Folds.{list_any-append}
use Rattle.s57_types.specs.declared.name.RecName.{RecName}
use Rattle.cell_spec.specs.declared.key.Subject.{Subject}
use Rattle.cell_spec.specs.declared.key.Subject.TheVariants.{Pair}
use Rattle.cell_spec.specs.Names.{name_order, subject_order}
use Rattle.rule_spec.specs.Findings.{is_below}
use Rattle.cell_findings.specs.Judged.{pairs_among}
use Rattle.cell_spec.proofs.Ascending.{holds}
use Rattle.cell_spec.proofs.Orders.{exact_names, total_names}
use Rattle.cell_findings.proofs.Ascending.{all_append, any_and, any-map, any_same, sorted-append, tied, ties_itself}
use Rattle.cell_spec.proofs.SubjectOrder.{pairs_by_first, pairs_by_second, pairs_tie}

-- a name is among some names
abbrev pub has : RecName → List RecName → Bool
has n names = holds name_order n names

-- all names are above a name
abbrev AreAbove : RecName → List RecName → Type 0
AreAbove a = AllByRecursion (λ b. name_order a b ≡ Less)

-- all subjects are above a subject
abbrev AreBehind : Subject → List Subject → Type 0
AreBehind s = AllByRecursion (λ t. subject_order s t ≡ Less)

-- ---- a list of subjects of one sort
pub mapped_all : {X : Type 0} (P : Subject → Type 0) (f : X → Subject) → ((x : X) → P (f x)) → (xs : List X) → AllByRecursion P (map f xs)
mapped_all P f h [] = tt
mapped_all P f h (x ∷ xs) = (h x, mapped_all P f h xs)

module _ {X : Type 0} (order : X → X → Ordering) (f : X → Subject) (same : (a b : X) → subject_order (f a) (f b) ≡ order a b) where
  mapped_above : (x : X) (xs : List X) → AllByRecursion (λ y. order x y ≡ Less) xs → AreBehind (f x) (map f xs)
  mapped_above x [] h = tt
  mapped_above x (y ∷ ys) h = (same x y ∙ h.0, mapped_above x ys h.1)

  -- it ascends as what it is made of does
  pub mapped_sorted : (xs : List X) → IsStrictlySortedBy order xs → IsStrictlySortedBy subject_order (map f xs)
  unfolding IsStrictlySortedBy
  mapped_sorted [] h = tt
  mapped_sorted (x ∷ xs) h = (mapped_above x xs h.0, mapped_sorted xs h.1)

-- ---- the pairs ascend
above_firsts : (a b x : RecName) (ys : List RecName) → name_order a x ≡ Less → AreBehind (Pair a b) (map (Pair x) ys)
above_firsts a b x ys h = mapped_all (λ t. subject_order (Pair a b) t ≡ Less) (Pair x) (λ y. pairs_by_first a b x y h) ys

above_pairs : (a b : RecName) (xs : List RecName) → AreAbove a xs → AreBehind (Pair a b) (pairs_among xs)
above_pairs a b [] h = tt
above_pairs a b (x ∷ xs) h =
    all_append (λ t. subject_order (Pair a b) t ≡ Less) (map (Pair x) xs) (pairs_among xs) (above_firsts a b x xs h.0) (above_pairs a b xs h.1)

each_above : (a : RecName) (xs ys : List RecName) → AreAbove a xs → AllByRecursion (λ s. AreBehind s (pairs_among xs)) (map (Pair a) ys)
each_above a xs ys h = mapped_all (λ s. AreBehind s (pairs_among xs)) (Pair a) (λ y. above_pairs a y xs h) ys

pub pairs_sorted : (xs : List RecName) → IsStrictlySortedBy name_order xs → IsStrictlySortedBy subject_order (pairs_among xs)
unfolding IsStrictlySortedBy
pairs_sorted [] h = tt
pairs_sorted (x ∷ xs) h =
    sorted-append subject_order (map (Pair x) xs) (pairs_among xs) (mapped_sorted name_order (Pair x) (pairs_by_second x) xs h.1)
    (pairs_sorted xs h.1) (each_above x xs xs h.0)

pub pairs_all : (P : Subject → Type 0) → ((a b : RecName) → P (Pair a b)) → (xs : List RecName) → AllByRecursion P (pairs_among xs)
pairs_all P h [] = tt
pairs_all P h (x ∷ xs) = all_append P (map (Pair x) xs) (pairs_among xs) (mapped_all P (Pair x) (h x) xs) (pairs_all P h xs)

-- ---- which pairs there are
has_by : (x b y : RecName) (more tie : Bool) → is_eq (name_order b y) ≡ tie → name_order x y ≡ Less → (more ≡ true → name_order x b ≡ Less)
    → (tie || more) ≡ true → name_order x b ≡ Less
has_by x b y more true is h k e = subst (λ z. name_order x z ≡ Less) (sym (exact_names b y (tied (name_order b y) is))) h
has_by x b y more false is h k e = k e

pub has_above : (x b : RecName) (xs : List RecName) → AreAbove x xs → has b xs ≡ true → name_order x b ≡ Less
has_above x b [] h e = cc
has_above x b (y ∷ ys) h e = has_by x b y (has b ys) (is_eq (name_order b y)) refl h.0 (has_above x b ys h.1) e

held_first : (a b x : RecName) (xs : List RecName) → holds subject_order (Pair a b) (map (Pair x) xs) ≡ (is_eq (name_order a x) && has b xs)
held_first a b x xs =
    any-map (λ y. is_eq (subject_order (Pair a b) y)) (Pair x) xs
    ∙ any_same (λ y. is_eq (subject_order (Pair a b) (Pair x y))) (λ y. is_eq (name_order a x) && is_eq (name_order b y)) (pairs_tie a b x) xs
    ∙ any_and (is_eq (name_order a x)) (λ y. is_eq (name_order b y)) xs

-- the first of the names is a, or b is; others have a, or b; a is below b
held_by : (is_a is_b has_a has_b below : Bool) → (is_a ≡ true → has_b ≡ true → below ≡ true) → (is_a ≡ true → is_b ≡ true → below ≡ false)
    → (is_b ≡ true → has_a ≡ true → below ≡ false)
    → ((is_a && has_b) || ((below && has_a) && has_b)) ≡ ((below && (is_a || has_a)) && (is_b || has_b))
held_by true true has_a true true f g h = refl
held_by true false has_a true true f g h = refl
held_by true is_b has_a true false f g h = absurd (cc (f refl refl))
held_by true is_b has_a false false f g h = refl
held_by true true has_a false true f g h = absurd (cc (g refl refl))
held_by true false true false true f g h = refl
held_by true false false false true f g h = refl
held_by false is_b has_a has_b false f g h = refl
held_by false is_b false has_b true f g h = refl
held_by false true true has_b true f g h = absurd (cc (h refl refl))
held_by false false true has_b true f g h = refl

nothing : (b : Bool) → false ≡ ((b && false) && false)
nothing true = refl
nothing false = refl

pub held_pairs : (a b : RecName) (xs : List RecName) → IsStrictlySortedBy name_order xs
    → holds subject_order (Pair a b) (pairs_among xs) ≡ ((is_below a b && has a xs) && has b xs)
unfolding IsStrictlySortedBy
held_pairs a b [] h = nothing (is_below a b)
held_pairs a b (x ∷ xs) h =
    let is_x : (n : RecName) → is_eq (name_order n x) ≡ true → n ≡ x = λ n e. exact_names n x (tied (name_order n x) e) in
    list_any-append (λ y. is_eq (subject_order (Pair a b) y)) (map (Pair x) xs) (pairs_among xs)
    ∙ (λ i. held_first a b x xs i || held_pairs a b xs h.1 i)
    ∙ held_by (is_eq (name_order a x)) (is_eq (name_order b x)) (has a xs) (has b xs) (is_below a b)
    (λ e f. ap (λ n. is_lt (name_order n b)) (is_x a e) ∙ ap is_lt (has_above x b xs h.0 f))
    (λ e f. (λ i. is_lt (name_order (is_x a e i) (is_x b f i))) ∙ ap is_lt (ties_itself name_order total_names x))
    (λ e f. ap (λ n. is_lt (name_order a n)) (is_x b e) ∙ ap is_lt (total_names.antisymm a x ∙ ap ordering_reverse (has_above x a xs h.0 f)))
