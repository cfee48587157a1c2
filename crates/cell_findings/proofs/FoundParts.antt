-- Windows of parts that were found by names.
use Rattle.std.proofs.Common.{◌≡◌, ◌<◌, ◌++◌, ◌∙◌, ℕ, All, List, [], ◌∷◌, refl, subst, sym}
use Rattle.std.specs.List.{AllByRecursion, AllZip, flat_map}
use Rattle.std.proofs.lemmas.List.Concat.{flat_map-append}
use Rattle.std.proofs.lemmas.List.Elements.{All-from_recursion}
use Rattle.rayon.specs.Lists.{chunks_of}
use Rattle.rayon.proofs.ToStd.{chunks_of-concat}
use Rattle.s57_types.specs.declared.cell.Cell.{Cell}
use Rattle.s57_types.specs.declared.name.RecName.{RecName}
use Rattle.check_pairs.specs.Parts.{IsPart}
use Rattle.cell_findings.specs.Near.{leaves_at, leaves_in}
use Rattle.cell_findings.specs.Parts.{HaveParts, IsWindowOf, leaves_of_windows}
use Rattle.cell_findings.specs.declared.part_window.PartWindow.{PartWindow}
use Rattle.cell_findings.proofs.LeafPairs.{all_by_part}

-- what holds of all names holds of all in each part that they are cut into
pub cut_are : {X : Type 0} (P : X → Type 0) (size : ℕ) (xs : List X) → 0 < size → All P xs → All (All P) (chunks_of size xs)
cut_are P size xs some all = all_by_part P (λ part. part) (chunks_of size xs) (subst (All P) (sym (chunks_of-concat size xs some)) all)

module _ (c : Cell) where
  each_is : (cut : List (List RecName)) (windows : List PartWindow) → AllZip (IsWindowOf c) cut windows
      → AllByRecursion (λ (window : PartWindow). All (IsPart c) window.parts.items) windows
  each_is [] [] h = tt
  each_is [] (window ∷ windows) h = absurd h
  each_is (names ∷ cut) [] h = absurd h
  each_is (names ∷ cut) (window ∷ windows) h = (h.0.parts, each_is cut windows h.1)

  -- all are parts
  pub found_are : (cut : List (List RecName)) (windows : List PartWindow) → AllZip (IsWindowOf c) cut windows → HaveParts c windows
  found_are cut windows h = All-from_recursion (λ (window : PartWindow). All (IsPart c) window.parts.items) windows (each_is cut windows h)

  -- and their boxes stand in the order of the names
  pub found_placed : (cut : List (List RecName)) (windows : List PartWindow) → AllZip (IsWindowOf c) cut windows
      → leaves_of_windows windows ≡ leaves_in c (flat_map (λ names. names) cut)
  found_placed [] [] h = refl
  found_placed [] (window ∷ windows) h = absurd h
  found_placed (names ∷ cut) [] h = absurd h
  found_placed (names ∷ cut) (window ∷ windows) h =
      (λ i. h.0.leaves i ++ found_placed cut windows h.1 i) ∙ sym (flat_map-append (leaves_at c) names (flat_map (λ names. names) cut))
