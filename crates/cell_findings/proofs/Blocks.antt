-- The subjects of a cell in four blocks: records, sides, pairs and identifiers, each before the next.
use Rattle.std.proofs.Common.{◌≡◌, ℕ, ◌<◌, ◌≤◌, Bool, true, false, ◌||◌, List, [], ◌∷◌, ◌++◌, map, refl, ap, ◌∙◌, arith}
use Rattle.std.specs.declared.cmp.Ordering.TheVariants.{Less}
use Rattle.std.specs.List.{list_any, AllByRecursion}
use Rattle.std.specs.Ordering.{is_eq}
use Rattle.std.proofs.lemmas.List.Folds.{list_any-append}
use Rattle.s57_types.specs.declared.name.RecName.{RecName}
use Rattle.cell_spec.specs.declared.key.Subject.{Subject}
use Rattle.cell_spec.specs.declared.key.Subject.TheVariants.{Rec, Side, Pair, Ident}
use Rattle.cell_spec.specs.Names.{subject_order}
use Rattle.cell_findings.specs.Judged.{pairs_among}
use Rattle.cell_spec.proofs.Ascending.{holds}
use Rattle.cell_findings.proofs.Ascending.{any-map, any_same, never}

-- the block of a subject
abbrev pub block : Subject → ℕ
block (Rec n) = 0
block (Side n) = 1
block (Pair a b) = 2
block (Ident l) = 3

-- ---- the blocks ascend
by_block : (s t : Subject) → block s < block t → subject_order s t ≡ Less
by_block (Rec n) (Rec m) h = absurd (omega (arith, h))
by_block (Rec n) (Side m) h = refl
by_block (Rec n) (Pair a b) h = refl
by_block (Rec n) (Ident l) h = refl
by_block (Side n) (Rec m) h = absurd (omega (arith, h))
by_block (Side n) (Side m) h = absurd (omega (arith, h))
by_block (Side n) (Pair a b) h = refl
by_block (Side n) (Ident l) h = refl
by_block (Pair n m) (Rec a) h = absurd (omega (arith, h))
by_block (Pair n m) (Side a) h = absurd (omega (arith, h))
by_block (Pair n m) (Pair a b) h = absurd (omega (arith, h))
by_block (Pair n m) (Ident l) h = refl
by_block (Ident l) (Rec m) h = absurd (omega (arith, h))
by_block (Ident l) (Side m) h = absurd (omega (arith, h))
by_block (Ident l) (Pair a b) h = absurd (omega (arith, h))
by_block (Ident l) (Ident k) h = absurd (omega (arith, h))

all_behind_one : (s : Subject) (k : ℕ) (ts : List Subject) → block s ≤ k → AllByRecursion (λ t. k < block t) ts
    → AllByRecursion (λ t. subject_order s t ≡ Less) ts
all_behind_one s k [] low high = tt
all_behind_one s k (t ∷ ts) low high = (by_block s t (omega (arith, low, high.0)), all_behind_one s k ts low high.1)

pub each_before : (k : ℕ) (ss ts : List Subject) → AllByRecursion (λ s. block s ≤ k) ss → AllByRecursion (λ t. k < block t) ts
    → AllByRecursion (λ s. AllByRecursion (λ t. subject_order s t ≡ Less) ts) ss
each_before k [] ts low high = tt
each_before k (s ∷ ss) ts low high = (all_behind_one s k ts low.0 high, each_before k ss ts low.1 high)

-- ---- what isn't in a block
pub none_mapped : {X : Type 0} (q : Subject) (f : X → Subject) → ((x : X) → is_eq (subject_order q (f x)) ≡ false) → (xs : List X)
    → holds subject_order q (map f xs) ≡ false
none_mapped q f h xs = any-map (λ y. is_eq (subject_order q y)) f xs ∙ any_same (λ x. is_eq (subject_order q (f x))) (λ x. false) h xs ∙ never xs

pub no_pairs : (q : Subject) → ((a b : RecName) → is_eq (subject_order q (Pair a b)) ≡ false) → (xs : List RecName)
    → holds subject_order q (pairs_among xs) ≡ false
no_pairs q h [] = refl
no_pairs q h (x ∷ xs) =
    list_any-append (λ y. is_eq (subject_order q y)) (map (Pair x) xs) (pairs_among xs)
    ∙ (λ i. none_mapped q (Pair x) (h x) xs i || no_pairs q h xs i)

-- ---- what is in one of four blocks
or_left : (a b : Bool) → a ≡ true → (a || b) ≡ true
or_left a b e = ap (λ t. t || b) e

or_right : (a b : Bool) → b ≡ true → (a || b) ≡ true
or_right true b e = refl
or_right false b e = e

pub in_first : (a b c d : Bool) → a ≡ true → (((a || b) || c) || d) ≡ true
in_first a b c d e = or_left ((a || b) || c) d (or_left (a || b) c (or_left a b e))

pub in_second : (a b c d : Bool) → b ≡ true → (((a || b) || c) || d) ≡ true
in_second a b c d e = or_left ((a || b) || c) d (or_left (a || b) c (or_right a b e))

pub in_third : (a b c d : Bool) → c ≡ true → (((a || b) || c) || d) ≡ true
in_third a b c d e = or_left ((a || b) || c) d (or_right (a || b) c e)

pub in_fourth : (a b c d : Bool) → d ≡ true → (((a || b) || c) || d) ≡ true
in_fourth a b c d e = or_right ((a || b) || c) d e

module _ (q : Subject) (first second third fourth : List Subject) where
  abbrev tie : Subject → Bool
  tie y = is_eq (subject_order q y)

  pub in_four : holds subject_order q (first ++ second ++ third ++ fourth) ≡
      (((holds subject_order q first || holds subject_order q second) || holds subject_order q third) || holds subject_order q fourth)
  in_four =
      list_any-append tie (first ++ second ++ third) fourth
      ∙ ap (λ b. b || list_any tie fourth) (list_any-append tie (first ++ second) third
      ∙ ap (λ b. b || list_any tie third) (list_any-append tie first second))

  pub in_two_and_two : holds subject_order q ((first ++ second) ++ (third ++ fourth)) ≡
      ((holds subject_order q first || holds subject_order q second) || (holds subject_order q third || holds subject_order q fourth))
  in_two_and_two =
      list_any-append tie (first ++ second) (third ++ fourth)
      ∙ (λ i. list_any-append tie first second i || list_any-append tie third fourth i)
