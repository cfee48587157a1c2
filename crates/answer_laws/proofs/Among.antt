-- What stands among the items of a list.
use Rattle.std.proofs.Common.{◌≡◌, ◌⊎◌, inl, inr, Bool, true, false, ◌||◌, List, [], ◌∷◌, ◌++◌, Option, None, Some, cond, filter, find, map, refl, sym, ap}
use Rattle.std.proofs.Common.{◌∙◌, subst}
use Rattle.std.specs.Prelude.{filter_map}
use Rattle.std.proofs.lemmas.Bool.{and_from, and_parts, or_right}
use Rattle.std.specs.List.{list_any, list_all, AllByRecursion, cons_option, IsDistinct}

abbrev pub Among : {X : Type 0} → X → List X → Type 0
Among x [] = ⊥
Among x (y ∷ ys) = (y ≡ x) ⊎ Among x ys

-- an item that passes a test
pub record Passing {X : Type 0} (p : X → Bool) (xs : List X) : Type 0 where
  pub item : X
  pub among : Among item xs
  pub passes : p item ≡ true

any_by : {X : Type 0} (p : X → Bool) (x : X) (xs : List X) (b : Bool) → p x ≡ b → (b || list_any p xs) ≡ true → (list_any p xs ≡ true → Passing p xs)
    → Passing p (x ∷ xs)
any_by p x xs true is e later = record { item = x; among = inl refl; passes = is }
any_by p x xs false is e later = let found = later e in record { item = found.item; among = inr found.among; passes = found.passes }

pub passing : {X : Type 0} (p : X → Bool) (xs : List X) → list_any p xs ≡ true → Passing p xs
passing p [] e = cc
passing p (x ∷ xs) e = any_by p x xs (p x) refl e (passing p xs)

pub any_passes : {X : Type 0} (p : X → Bool) (x : X) (xs : List X) → Among x xs → p x ≡ true → list_any p xs ≡ true
any_passes p x [] h e = absurd h
any_passes p x (y ∷ ys) (inl same) e = ap (λ z. p z || list_any p ys) same ∙ ap (λ b. b || list_any p ys) e
any_passes p x (y ∷ ys) (inr later) e = or_right (p y) (list_any p ys) (any_passes p x ys later e)

-- what an item of mapped ones is of
pub record Origin {X Y : Type 0} (h : X → Option Y) (y : Y) (xs : List X) : Type 0 where
  pub item : X
  pub among : Among item xs
  pub gives : h item ≡ Some y

origin_by : {X Y : Type 0} (h : X → Option Y) (y : Y) (x : X) (xs : List X) (o : Option Y) → h x ≡ o → Among y (cons_option o (filter_map h xs))
    → (Among y (filter_map h xs) → Origin h y xs) → Origin h y (x ∷ xs)
origin_by h y x xs None is at later = let found = later at in record { item = found.item; among = inr found.among; gives = found.gives }
origin_by h y x xs (Some z) is (inl same) later = record { item = x; among = inl refl; gives = is ∙ ap Some same }
origin_by h y x xs (Some z) is (inr at) later = let found = later at in record { item = found.item; among = inr found.among; gives = found.gives }

pub origin : {X Y : Type 0} (h : X → Option Y) (y : Y) (xs : List X) → Among y (filter_map h xs) → Origin h y xs
origin h y [] at = absurd at
origin h y (x ∷ xs) at = origin_by h y x xs (h x) refl at (origin h y xs)

behind : {Y : Type 0} (o : Option Y) (y : Y) (ys : List Y) → Among y ys → Among y (cons_option o ys)
behind None y ys at = at
behind (Some z) y ys at = inr at

pub among_mapped : {X Y : Type 0} (h : X → Option Y) (x : X) (y : Y) (xs : List X) → Among x xs → h x ≡ Some y → Among y (filter_map h xs)
among_mapped h x y [] at e = absurd at
among_mapped h x y (z ∷ xs) (inl same) e = subst (λ o. Among y (cons_option o (filter_map h xs))) (sym (ap h same ∙ e)) (inl refl)
among_mapped h x y (z ∷ xs) (inr at) e = behind (h z) y (filter_map h xs) (among_mapped h x y xs at e)

-- finding
pub record Found {X : Type 0} (p : X → Bool) (xs : List X) (x : X) : Type 0 where
  pub among : Among x xs
  pub passes : p x ≡ true

found_by : {X : Type 0} (p : X → Bool) (y x : X) (ys : List X) (b : Bool) → p y ≡ b → cond b (Some y) (find p ys) ≡ Some x
    → (find p ys ≡ Some x → Found p ys x) → Found p (y ∷ ys) x
found_by p y x ys true is e later = let same : y ≡ x = cc in record { among = inl same; passes = ap p (sym same) ∙ is }
found_by p y x ys false is e later = let rest = later e in record { among = inr rest.among; passes = rest.passes }

pub found : {X : Type 0} (p : X → Bool) (xs : List X) (x : X) → find p xs ≡ Some x → Found p xs x
found p [] x e = cc
found p (y ∷ ys) x e = found_by p y x ys (p y) refl e (found p ys x)

none_by : {X : Type 0} (y : X) (later : Option X) (b others : Bool) → cond b (Some y) later ≡ None → (later ≡ None → others ≡ false) → (b || others) ≡ false
none_by y later true others e h = cc
none_by y later false others e h = h e

pub none_found : {X : Type 0} (p : X → Bool) (xs : List X) → find p xs ≡ None → list_any p xs ≡ false
none_found p [] e = refl
none_found p (y ∷ ys) e = none_by y (find p ys) (p y) (list_any p ys) e (none_found p ys)

only_by : {X : Type 0} (p : X → Bool) (y x : X) (ys : List X) (b : Bool) → p y ≡ b → (b ≡ true → y ≡ x) → (b ≡ false → find p ys ≡ Some x)
    → cond b (Some y) (find p ys) ≡ Some x
only_by p y x ys true is first later = ap Some (first refl)
only_by p y x ys false is first later = later refl

not_first : {X : Type 0} (p : X → Bool) (y x : X) (ys : List X) → (y ≡ x) ⊎ Among x ys → p x ≡ true → p y ≡ false → Among x ys
not_first p y x ys (inl same) e f = cc
not_first p y x ys (inr at) e f = at

-- the only item that passes a test is found
pub found_only : {X : Type 0} (p : X → Bool) (xs : List X) (x : X) → Among x xs → p x ≡ true → ((y : X) → Among y xs → p y ≡ true → y ≡ x) → find p xs ≡ Some x
found_only p [] x at e only = absurd at
found_only p (y ∷ ys) x at e only =
    only_by p y x ys (p y) refl (λ is. only y (inl refl) is)
    (λ is. found_only p ys x (not_first p y x ys at e is) e (λ z there passes. only z (inr there) passes))

-- of items that all pass a test each does
pub each_passes : {X : Type 0} (p : X → Bool) (x : X) (xs : List X) → list_all p xs ≡ true → Among x xs → p x ≡ true
each_passes p x [] all at = absurd at
each_passes p x (y ∷ ys) all (inl same) = ap p (sym same) ∙ (and_parts (p y) (list_all p ys) all).0
each_passes p x (y ∷ ys) all (inr at) = each_passes p x ys (and_parts (p y) (list_all p ys) all).1 at

pub all_pass : {X : Type 0} (p : X → Bool) (xs : List X) → ((x : X) → Among x xs → p x ≡ true) → list_all p xs ≡ true
all_pass p [] each = refl
all_pass p (x ∷ xs) each = and_from (p x) (list_all p xs) (each x (inl refl)) (all_pass p xs (λ y at. each y (inr at)))

-- an item apart from all has another name than each
pub no_tie : {X : Type 0} (same : X → X → Bool) {Y : Type 0} (name : Y → X) (x : X) (y : Y) (ys : List Y)
    → AllByRecursion (λ m. same x m ≡ false) (map name ys) → Among y ys → same x (name y) ≡ false
no_tie same name x y [] apart at = absurd at
no_tie same name x y (z ∷ ys) apart (inl is) = ap (λ w. same x (name w)) (sym is) ∙ apart.0
no_tie same name x y (z ∷ ys) apart (inr at) = no_tie same name x y ys apart.1 at

-- of items of distinct names two of one name are one
pub one_of_name : {X Y : Type 0} (same : X → X → Bool) (flip : (a b : X) → same a b ≡ same b a) (name : Y → X) (ys : List Y) → IsDistinct same (map name ys)
    → (x y : Y) → Among x ys → Among y ys → same (name x) (name y) ≡ true → x ≡ y
unfolding IsDistinct
one_of_name same flip name [] apart x y at there e = absurd at
one_of_name same flip name (z ∷ zs) apart x y (inl is) (inl are) e = sym is ∙ are
one_of_name same flip name (z ∷ zs) apart x y (inl is) (inr there) e = let no = no_tie same name (name z) y zs apart.0 there in cc
one_of_name same flip name (z ∷ zs) apart x y (inr at) (inl are) e =
    let no = no_tie same name (name z) x zs apart.0 at in let turned = flip (name x) (name y) in cc
one_of_name same flip name (z ∷ zs) apart x y (inr at) (inr there) e = one_of_name same flip name zs apart.1 x y at there e

-- ---- lists put together
pub among_append : {X : Type 0} (x : X) (xs ys : List X) → Among x (xs ++ ys) → Among x xs ⊎ Among x ys
among_append x [] ys at = inr at
among_append x (y ∷ xs) ys (inl is) = inl (inl is)
among_append x (y ∷ xs) ys (inr at) = elim (among_append x xs ys at) [ inl there ↦ inl (inr there) | inr there ↦ inr there ]

pub in_front : {X : Type 0} (x : X) (xs ys : List X) → Among x xs → Among x (xs ++ ys)
in_front x [] ys at = absurd at
in_front x (y ∷ xs) ys (inl is) = inl is
in_front x (y ∷ xs) ys (inr at) = inr (in_front x xs ys at)

pub in_back : {X : Type 0} (x : X) (xs ys : List X) → Among x ys → Among x (xs ++ ys)
in_back x [] ys at = at
in_back x (y ∷ xs) ys at = inr (in_back x xs ys at)

-- ---- a filtered list
picked_by : {X : Type 0} (p : X → Bool) (x y : X) (ys : List X) (b : Bool) → p y ≡ b → Among x (cond b (y ∷ filter p ys) (filter p ys))
    → (Among x (filter p ys) → Found p ys x) → Found p (y ∷ ys) x
picked_by p x y ys true is (inl same) later = record { among = inl same; passes = ap p (sym same) ∙ is }
picked_by p x y ys true is (inr at) later = let rest = later at in record { among = inr rest.among; passes = rest.passes }
picked_by p x y ys false is at later = let rest = later at in record { among = inr rest.among; passes = rest.passes }

pub picked : {X : Type 0} (p : X → Bool) (x : X) (xs : List X) → Among x (filter p xs) → Found p xs x
picked p x [] at = absurd at
picked p x (y ∷ ys) at = picked_by p x y ys (p y) refl at (picked p x ys)

-- ---- a mapped list
pub among_map : {X Y : Type 0} (f : X → Y) (x : X) (xs : List X) → Among x xs → Among (f x) (map f xs)
among_map f x [] at = absurd at
among_map f x (y ∷ ys) (inl is) = inl (ap f is)
among_map f x (y ∷ ys) (inr at) = inr (among_map f x ys at)

-- what an item of a mapped list is of
pub record Mapped {X Y : Type 0} (f : X → Y) (y : Y) (xs : List X) : Type 0 where
  pub item : X
  pub among : Among item xs
  pub gives : f item ≡ y

pub mapped : {X Y : Type 0} (f : X → Y) (y : Y) (xs : List X) → Among y (map f xs) → Mapped f y xs
mapped f y [] at = absurd at
mapped f y (x ∷ xs) (inl is) = record { item = x; among = inl refl; gives = is }
mapped f y (x ∷ xs) (inr at) = let rest = mapped f y xs at in record { item = rest.item; among = inr rest.among; gives = rest.gives }

-- ---- what is known of each item
pub each_among : {X : Type 0} (P : X → Type 0) (xs : List X) → ((x : X) → Among x xs → P x) → AllByRecursion P xs
each_among P [] known = tt
each_among P (x ∷ xs) known = (known x (inl refl), each_among P xs (λ y at. known y (inr at)))

pub known_of : {X : Type 0} (P : X → Type 0) (x : X) (xs : List X) → AllByRecursion P xs → Among x xs → P x
known_of P x [] all at = absurd at
known_of P x (y ∷ ys) all (inl is) = subst P is all.0
known_of P x (y ∷ ys) all (inr at) = known_of P x ys all.1 at

-- of a mapped list
pub each_mapped : {X Y : Type 0} (P : Y → Type 0) (f : X → Y) (xs : List X) → ((x : X) → Among x xs → P (f x)) → AllByRecursion P (map f xs)
each_mapped P f [] known = tt
each_mapped P f (x ∷ xs) known = (known x (inl refl), each_mapped P f xs (λ y at. known y (inr at)))
