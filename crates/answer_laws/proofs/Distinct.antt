-- Lists of distinct names put together, taken apart and filtered.
use Rattle.std.proofs.Common.{◌≡◌, inl, inr, Bool, false, List, [], ◌∷◌, ◌++◌, Option, None, Some, map, refl, sym, ap, ◌∙◌}
use Rattle.std.specs.Prelude.{filter_map}
use Rattle.std.specs.List.{AllByRecursion, IsDistinct, cons_option}
use Rattle.answer_laws.proofs.Among.{Among, each_among, each_mapped, in_back, in_front, known_of, no_tie, origin}

module _ {X : Type 0} (same : X → X → Bool) where
  pub distinct_front : (xs ys : List X) → IsDistinct same (xs ++ ys) → IsDistinct same xs
  unfolding IsDistinct
  distinct_front [] ys all = tt
  distinct_front (x ∷ xs) ys all =
      (each_among (λ y. same x y ≡ false) xs (λ y at. known_of (λ z. same x z ≡ false) y (xs ++ ys) all.0 (in_front y xs ys at)), distinct_front xs ys all.1)

  pub distinct_back : (xs ys : List X) → IsDistinct same (xs ++ ys) → IsDistinct same ys
  unfolding IsDistinct
  distinct_back [] ys all = all
  distinct_back (x ∷ xs) ys all = distinct_back xs ys all.1

  -- items of the one list differ from those of the other
  pub distinct_parts : (xs ys : List X) → IsDistinct same (xs ++ ys) → (x y : X) → Among x xs → Among y ys → same x y ≡ false
  unfolding IsDistinct
  distinct_parts [] ys all x y at there = absurd at
  distinct_parts (z ∷ xs) ys all x y (inl is) there = ap (λ w. same w y) (sym is) ∙ known_of (λ w. same z w ≡ false) y (xs ++ ys) all.0 (in_back y xs ys there)
  distinct_parts (z ∷ xs) ys all x y (inr at) there = distinct_parts xs ys all.1 x y at there

  apart_both : (x : X) (xs ys : List X) → AllByRecursion (λ y. same x y ≡ false) xs → AllByRecursion (λ y. same x y ≡ false) ys
      → AllByRecursion (λ y. same x y ≡ false) (xs ++ ys)
  apart_both x [] ys first second = second
  apart_both x (y ∷ xs) ys first second = (first.0, apart_both x xs ys first.1 second)

  pub distinct_both : (xs ys : List X) → IsDistinct same xs → IsDistinct same ys → ((x y : X) → Among x xs → Among y ys → same x y ≡ false)
      → IsDistinct same (xs ++ ys)
  unfolding IsDistinct
  distinct_both [] ys first second apart = second
  distinct_both (x ∷ xs) ys first second apart = (
    apart_both x xs ys first.0 (each_among (λ y. same x y ≡ false) ys (λ y there. apart x y (inl refl) there)),
    distinct_both xs ys first.1 second (λ z y at there. apart z y (inr at) there),
  )

  -- what is made of items keeps their names
  module _ {A B : Type 0} (name : A → X) (named : B → X) (h : A → Option B) (keeps : (a : A) (b : B) → h a ≡ Some b → named b ≡ name a) where
    mapped_by : (a : A) (items : List A) (o : Option B) → h a ≡ o → AllByRecursion (λ y. same (name a) y ≡ false) (map name items)
        → IsDistinct same (map named (filter_map h items))
        → IsDistinct same (map named (cons_option o (filter_map h items)))
    unfolding IsDistinct
    mapped_by a items None is apart rest = rest
    mapped_by a items (Some b) is apart rest = (
      each_mapped (λ y. same (named b) y ≡ false) named (filter_map h items) (λ d at.
          let from = origin h d items at in
          (λ i. same (keeps a b is i) (keeps from.item d from.gives i)) ∙ no_tie same name (name a) from.item items apart from.among),
      rest,
    )

    pub distinct_mapped : (items : List A) → IsDistinct same (map name items) → IsDistinct same (map named (filter_map h items))
    unfolding IsDistinct
    distinct_mapped [] all = tt
    distinct_mapped (a ∷ items) all = mapped_by a items (h a) refl all.0 (distinct_mapped items all.1)
