-- Pairs of leaves, by leaf: each with those above it that the tree has near it, or with those behind it.
use Rattle.std.proofs.Common.{◌≡◌, All, List, [], ◌∷◌, ◌++◌, append_assoc, map, refl, ap, sym, ◌∙◌}
use Rattle.std.specs.List.{flat_map}
use Rattle.std.specs.List.Sorted.{IsPermutation, IsStrictlySortedBy}
use Rattle.std.proofs.lemmas.List.Concat.{flat_map-append}
use Rattle.std.proofs.lemmas.List.Elements.{All-cons, All-nil}
use Rattle.cell_spec.specs.Names.{name_order}
use Rattle.cell_spec.specs.declared.key.Subject.TheVariants.{Pair}
use Rattle.box_tree.specs.declared.leaf.Leaf.{Leaf}
use Rattle.cell_findings.specs.Near.{leaf_names, near_pairs, pairs_near}
use Rattle.cell_findings.proofs.Gathering.{all_before, all_behind}
use Rattle.cell_findings.proofs.NearNames.{near_behind}

-- ---- lists of lists
pub flat_of_flat : {X Y Z : Type 0} (f : X → List Y) (g : Y → List Z) (xs : List X) → flat_map g (flat_map f xs) ≡ flat_map (λ x. flat_map g (f x)) xs
flat_of_flat f g [] = refl
flat_of_flat f g (x ∷ xs) = flat_map-append g (f x) (flat_map f xs) ∙ ap (λ rest. flat_map g (f x) ++ rest) (flat_of_flat f g xs)

pub all_by_part : {X Y : Type 0} (P : Y → Type 0) (f : X → List Y) (xs : List X) → All P (flat_map f xs) → All (λ x. All P (f x)) xs
all_by_part P f [] all = All-nil (λ x. All P (f x))
all_by_part P f (x ∷ xs) all =
    All-cons (λ x. All P (f x)) x xs (all_before P (f x) (flat_map f xs) all) (all_by_part P f xs (all_behind P (f x) (flat_map f xs) all))

module _ (leaves tree : List Leaf) (sorted : IsStrictlySortedBy name_order (leaf_names leaves)) (same : IsPermutation leaves tree) where
  by_leaf : (front rest : List Leaf) → leaves ≡ front ++ rest → flat_map (pairs_near tree) rest ≡ near_pairs rest
  by_leaf front [] is = refl
  by_leaf front (leaf ∷ back) is =
      λ i. map (Pair leaf.name) (near_behind leaves tree front leaf back is sorted same i)
      ++ by_leaf (front ++ leaf ∷ []) back (is ∙ sym (append_assoc front (leaf ∷ []) back)) i

  -- each leaf with those that the tree has above it is each with those behind it
  pub pairs_by_leaf : flat_map (pairs_near tree) leaves ≡ near_pairs leaves
  pairs_by_leaf = by_leaf [] leaves refl
