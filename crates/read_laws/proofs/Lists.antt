-- Lists whose items two functions give the same of, and what is known of each item of a list.
use Rattle.std.proofs.Common.{◌≡◌, ℕ, ◌+◌, Bool, true, false, List, [], ◌∷◌, ◌++◌, Option, cond, map, filter, filter_map, flat_map, IfSome, ◌&&◌, refl, ap}
use Rattle.std.specs.List.{AllByRecursion, enumerate_from, list_all, cons_option}
use Rattle.rule_spec.specs.Records.{the_only}
use Rattle.rule_spec.specs.Rule.{places_from}
pub use Rattle.cell_spec.proofs.EachItem.{each_weaker, each_front, each_back}

pub each_from_both : {X : Type 0} (P Q R : X → Type 0) → ((x : X) → P x → Q x → R x) → (xs : List X) → AllByRecursion P xs
    → AllByRecursion Q xs → AllByRecursion R xs
each_from_both P Q R both [] first second = tt
each_from_both P Q R both (x ∷ xs) first second = (both x first.0 second.0, each_from_both P Q R both xs first.1 second.1)

pub each_joined : {X : Type 0} (P : X → Type 0) (xs ys : List X) → AllByRecursion P xs → AllByRecursion P ys → AllByRecursion P (xs ++ ys)
each_joined P [] ys first second = second
each_joined P (x ∷ xs) ys first second = (first.0, each_joined P xs ys first.1 second)

pub each_mapped : {X Y : Type 0} (P : Y → Type 0) (f : X → Y) (xs : List X) → AllByRecursion P (map f xs) → AllByRecursion (λ x. P (f x)) xs
each_mapped P f [] all = tt
each_mapped P f (x ∷ xs) all = (all.0, each_mapped P f xs all.1)

pub each_flat : {X Y : Type 0} (P : Y → Type 0) (f : X → List Y) (xs : List X) → AllByRecursion P (flat_map f xs)
    → AllByRecursion (λ x. AllByRecursion P (f x)) xs
each_flat P f [] all = tt
each_flat P f (x ∷ xs) all = (each_front P (f x) (flat_map f xs) all, each_flat P f xs (each_back P (f x) (flat_map f xs) all))

pub each_numbered : {X : Type 0} (P : X → Type 0) (first : ℕ) (xs : List X) → AllByRecursion P xs
    → AllByRecursion (λ (item : ℕ × X). P item.1) (enumerate_from first xs)
each_numbered P first [] all = tt
each_numbered P first (x ∷ xs) all = (all.0, each_numbered P (first + 1) xs all.1)

kept_by : {X : Type 0} (P : X → Type 0) (x : X) (xs : List X) (b : Bool) → P x → AllByRecursion P xs → AllByRecursion P (cond b (x ∷ xs) xs)
kept_by P x xs true one others = (one, others)
kept_by P x xs false one others = others

pub each_filtered : {X : Type 0} (P : X → Type 0) (test : X → Bool) (xs : List X) → AllByRecursion P xs → AllByRecursion P (filter test xs)
each_filtered P test [] all = tt
each_filtered P test (x ∷ xs) all = kept_by P x (filter test xs) (test x) all.0 (each_filtered P test xs all.1)

pub of_the_only : {X : Type 0} (P : X → Type 0) (xs : List X) → AllByRecursion P xs → IfSome (the_only xs) P
of_the_only P [] all = tt
of_the_only P (x ∷ []) all = all.0
of_the_only P (x ∷ y ∷ rest) all = tt

-- functions that give the same of each item give the same of the list
pub same_filter : {X : Type 0} (f g : X → Bool) (xs : List X) → AllByRecursion (λ x. f x ≡ g x) xs → filter f xs ≡ filter g xs
same_filter f g [] all = refl
same_filter f g (x ∷ xs) all = λ i. cond (all.0 i) (x ∷ same_filter f g xs all.1 i) (same_filter f g xs all.1 i)

pub same_filter_map : {X Y : Type 0} (f g : X → Option Y) (xs : List X) → AllByRecursion (λ x. f x ≡ g x) xs → filter_map f xs ≡ filter_map g xs
same_filter_map f g [] all = refl
same_filter_map f g (x ∷ xs) all = λ i. cons_option (all.0 i) (same_filter_map f g xs all.1 i)

pub same_flat_map : {X Y : Type 0} (f g : X → List Y) (xs : List X) → AllByRecursion (λ x. f x ≡ g x) xs → flat_map f xs ≡ flat_map g xs
same_flat_map f g [] all = refl
same_flat_map f g (x ∷ xs) all = λ i. all.0 i ++ same_flat_map f g xs all.1 i

pub same_list_all : {X : Type 0} (f g : X → Bool) (xs : List X) → AllByRecursion (λ x. f x ≡ g x) xs → list_all f xs ≡ list_all g xs
same_list_all f g [] all = refl
same_list_all f g (x ∷ xs) all = λ i. all.0 i && same_list_all f g xs all.1 i

pub same_places : {X : Type 0} (f g : X → Bool) (first : ℕ) (xs : List X) → AllByRecursion (λ x. f x ≡ g x) xs → places_from f first xs ≡ places_from g first xs
same_places {X} f g first xs all =
    ap (map (λ (item : ℕ × X). item.0 ∷ []))
    (same_filter (λ (item : ℕ × X). f item.1) (λ (item : ℕ × X). g item.1) (enumerate_from first xs) (each_numbered (λ x. f x ≡ g x) first xs all))
