-- Each two leaves whose boxes meet tell all that each two connected nodes or edges do.
use Rattle.std.proofs.Common.{◌≡◌, Bool, true, false, All, List, [], ◌∷◌, ◌++◌, Option, None, Some, cond, filter, is_some, map, refl, sym, ap, ◌∙◌, subst}
use Rattle.std.specs.Prelude.{not, option_to_list}
use Rattle.std.specs.List.{flat_map}
use Rattle.std.specs.List.Sorted.{IsStrictlySortedBy}
use Rattle.std.specs.Option.{option_map_or}
use Rattle.std.proofs.lemmas.List.Concat.{flat_map-append}
use Rattle.std.proofs.lemmas.List.Elements.{All-append, All-filter, All-map, All-nil}
use Rattle.std.proofs.lemmas.List.Kept.{IsStrictlySortedBy-filter}
use Rattle.s57_types.specs.declared.name.RecName.{RecName}
use Rattle.s57_types.specs.declared.cell.Cell.{Cell}
use Rattle.cell_spec.specs.Names.{name_order}
use Rattle.cell_spec.specs.declared.key.Subject.{Subject}
use Rattle.cell_spec.specs.declared.key.Subject.TheVariants.{Pair}
use Rattle.geometry_spec.specs.Boxes.{are_disjoint}
use Rattle.geometry_spec.specs.declared.tile.Box4.{Box4}
use Rattle.finding_laws.specs.Pairs.{ApartPairsAreClean, are_apart, extent_of}
use Rattle.box_tree.specs.Leaves.{meets, names_meeting}
use Rattle.box_tree.specs.declared.leaf.Leaf.{Leaf}
use Rattle.cell_findings.specs.Judged.{pairs_among, subject_findings}
use Rattle.cell_findings.specs.Near.{leaf_names, leaf_with, leaves_in, near_pairs}
use Rattle.cell_findings.specs.Rows.{with_subject}
use Rattle.cell_findings.specs.declared.list.SubjectFinding.{SubjectFinding}
use Rattle.cell_findings.proofs.Gathering.{all_before, all_behind, all_of_map}

-- an extent has a point in common with a box
abbrev meets_extent : Box4 → Option Box4 → Bool
meets_extent around extent = option_map_or (λ other. not (are_disjoint around other)) extent false

named_if : (kept : Bool) (leaf : Leaf) (leaves : List Leaf)
    → leaf_names (cond kept (leaf ∷ leaves) leaves) ≡ cond kept (leaf.name ∷ leaf_names leaves) (leaf_names leaves)
named_if true leaf leaves = refl
named_if false leaf leaves = refl

module _ (c : Cell) where
  -- ---- leaves by their names
  abbrev is_near : Box4 → RecName → Bool
  is_near around n = meets_extent around (extent_of c n)

  near_by : (around : Box4) (n : RecName) (rest : List RecName) (extent : Option Box4) → names_meeting around (leaves_in c rest) ≡ filter (is_near around) rest
      → names_meeting around (map (leaf_with n) (option_to_list extent) ++ leaves_in c rest)
      ≡ cond (meets_extent around extent) (n ∷ filter (is_near around) rest) (filter (is_near around) rest)
  near_by around n rest None later = later
  near_by around n rest (Some other) later =
      named_if (meets around (leaf_with n other)) (leaf_with n other) (filter (meets around) (leaves_in c rest))
      ∙ ap (λ names. cond (not (are_disjoint around other)) (n ∷ names) names) later

  -- the names of the leaves whose boxes meet a box
  near_names : (around : Box4) (names : List RecName) → names_meeting around (leaves_in c names) ≡ filter (is_near around) names
  near_names around [] = refl
  near_names around (n ∷ names) = near_by around n names (extent_of c n) (near_names around names)

  placed_by : (n : RecName) (rest : List RecName) (extent : Option Box4) → leaf_names (leaves_in c rest) ≡ filter (λ m. is_some (extent_of c m)) rest
      → leaf_names (map (leaf_with n) (option_to_list extent) ++ leaves_in c rest)
      ≡ cond (is_some extent) (n ∷ filter (λ m. is_some (extent_of c m)) rest) (filter (λ m. is_some (extent_of c m)) rest)
  placed_by n rest None later = later
  placed_by n rest (Some around) later = ap (λ names. n ∷ names) later

  placed_names : (names : List RecName) → leaf_names (leaves_in c names) ≡ filter (λ n. is_some (extent_of c n)) names
  placed_names [] = refl
  placed_names (n ∷ names) = placed_by n names (extent_of c n) (placed_names names)

  -- leaves of ascending names ascend
  pub leaves_ascend : (names : List RecName) → IsStrictlySortedBy name_order names → IsStrictlySortedBy name_order (leaf_names (leaves_in c names))
  leaves_ascend names sorted =
      subst (IsStrictlySortedBy name_order) (sym (placed_names names))
      (IsStrictlySortedBy-filter name_order (λ n. is_some (extent_of c n)) names sorted)

  -- ---- what is known of each pair
  module _ (P : Subject → Type 0) where
    known_by : (n : RecName) (rest : List RecName) (extent : Option Box4) → All P (map (Pair n) rest) → All P (near_pairs (leaves_in c rest))
        → All P (near_pairs (map (leaf_with n) (option_to_list extent) ++ leaves_in c rest))
    known_by n rest None firsts later = later
    known_by n rest (Some around) firsts later =
        let names = names_meeting around (leaves_in c rest) in
        let near = All-filter (is_near around) (λ m. P (Pair n m)) rest (all_of_map P (Pair n) rest firsts) in
        All-append P (map (Pair n) names) (near_pairs (leaves_in c rest))
        (All-map P (Pair n) names (subst (All (λ m. P (Pair n m))) (sym (near_names around rest)) near)) later

    -- what is known of each two names is known of each two leaves whose boxes meet
    pub near_are_known : (names : List RecName) → All P (pairs_among names) → All P (near_pairs (leaves_in c names))
    near_are_known [] all = All-nil P
    near_are_known (n ∷ names) all =
        known_by n names (extent_of c n) (all_before P (map (Pair n) names) (pairs_among names) all)
        (near_are_known names (all_behind P (map (Pair n) names) (pairs_among names) all))

  -- ---- what is apart has no finding
  abbrev findings : Subject → List SubjectFinding
  findings = subject_findings c

  meets_none : (around : Box4) (extent : Option Box4) → meets_extent around extent ≡ false → are_apart (Some around) extent ≡ true
  meets_none around None e = refl
  meets_none around (Some other) e = yes_unless (are_disjoint around other) e
    where
      yes_unless : (b : Bool) → not b ≡ false → b ≡ true
      yes_unless true e = refl
      yes_unless false e = cc

  module _ (law : ApartPairsAreClean) where
    clean : (a b : RecName) → are_apart (extent_of c a) (extent_of c b) ≡ true → findings (Pair a b) ≡ []
    clean a b apart = ap (map (with_subject (Pair a b))) (law c a b apart)

    none_alone : (n : RecName) → extent_of c n ≡ None → (others : List RecName) → flat_map findings (map (Pair n) others) ≡ []
    none_alone n none [] = refl
    none_alone n none (m ∷ others) = λ i. clean n m (ap (λ extent. are_apart extent (extent_of c m)) none) i ++ none_alone n none others i

    one_by : (n m : RecName) (near : Bool) (rest all : List RecName) → (near ≡ false → findings (Pair n m) ≡ [])
        → flat_map findings (map (Pair n) rest) ≡ flat_map findings (map (Pair n) all)
        → flat_map findings (map (Pair n) (cond near (m ∷ rest) rest)) ≡ flat_map findings (map (Pair n) (m ∷ all))
    one_by n m true rest all none later = ap (λ found. findings (Pair n m) ++ found) later
    one_by n m false rest all none later = later ∙ (λ i. sym (none refl) i ++ flat_map findings (map (Pair n) all))

    near_tell : (n : RecName) (around : Box4) → extent_of c n ≡ Some around → (others : List RecName)
        → flat_map findings (map (Pair n) (filter (is_near around) others)) ≡ flat_map findings (map (Pair n) others)
    near_tell n around placed [] = refl
    near_tell n around placed (m ∷ others) =
        one_by n m (is_near around m) (filter (is_near around) others) others
        (λ e. clean n m (ap (λ extent. are_apart extent (extent_of c m)) placed ∙ meets_none around (extent_of c m) e))
        (near_tell n around placed others)

    all_by : (n : RecName) (rest : List RecName) (extent : Option Box4) → extent_of c n ≡ extent
        → flat_map findings (near_pairs (leaves_in c rest)) ≡ flat_map findings (pairs_among rest)
        → flat_map findings (near_pairs (map (leaf_with n) (option_to_list extent) ++ leaves_in c rest))
        ≡ flat_map findings (map (Pair n) rest) ++ flat_map findings (pairs_among rest)
    all_by n rest None placed later = later ∙ (λ i. sym (none_alone n placed rest) i ++ flat_map findings (pairs_among rest))
    all_by n rest (Some around) placed later =
        flat_map-append findings (map (Pair n) (names_meeting around (leaves_in c rest))) (near_pairs (leaves_in c rest))
        ∙ (λ i. (ap (λ names. flat_map findings (map (Pair n) names)) (near_names around rest) ∙ near_tell n around placed rest) i ++ later i)

    -- the findings of all pairs
    pub near_pairs_tell : (names : List RecName) → flat_map findings (near_pairs (leaves_in c names)) ≡ flat_map findings (pairs_among names)
    near_pairs_tell [] = refl
    near_pairs_tell (n ∷ names) =
        all_by n names (extent_of c n) refl (near_pairs_tell names)
        ∙ sym (flat_map-append findings (map (Pair n) names) (pairs_among names))
