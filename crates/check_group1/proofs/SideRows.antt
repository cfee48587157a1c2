-- The row of a side.
use Rattle.std.proofs.Common.{◌≡◌, ◌≤◌, List, [], ◌∷◌, ◌++◌, length, map, fold, sym, ap, ◌∙◌, append_assoc, arith}
use Rattle.std.specs.declared.cmp.Ordering.{Ordering}
use Rattle.std.specs.declared.cmp.Ordering.TheVariants.{Less, Equal, Greater}
use Rattle.std.specs.Ordering.{match_ordering}
use Rattle.s57_types.specs.declared.name.RecName.{RecName}
use Rattle.s57_types.specs.declared.cell.Cell.{Cell}
use Rattle.cell_spec.specs.declared.finding.Finding.{Finding}
use Rattle.cell_spec.specs.declared.key.Key.TheVariants.{Name, Refs}
use Rattle.cell_spec.specs.declared.key.Ref.{Ref}
use Rattle.cell_spec.specs.Lookup.{lookup_pointers}
use Rattle.cell_spec.specs.declared.key.Subject.TheVariants.{Side}
use Rattle.cell_spec.specs.Ascending.{put_in_order}
use Rattle.cell_spec.specs.Names.{key_order}
use Rattle.rule_spec.specs.Reads.{read_set}
use Rattle.std.proofs.lemmas.List.{append-nil}

-- ---- a read set has a key
module _ {X : Type 0} (order : X → X → Ordering) where
  put_by : (x y : X) (ys : List X) (found : Ordering) → 1 ≤ length (match_ordering found (x ∷ y ∷ ys) (y ∷ ys) (y ∷ put_in_order order x ys))
  put_by x y ys Less = omega arith
  put_by x y ys Equal = omega arith
  put_by x y ys Greater = omega arith

  some_put : (x : X) (ys : List X) → 1 ≤ length (put_in_order order x ys)
  some_put x [] = omega arith
  some_put x (y ∷ ys) = put_by x y ys (order x y)

  some_fold : (sorted xs : List X) → 1 ≤ length sorted → 1 ≤ length (fold (λ sorted x. put_in_order order x sorted) sorted xs)
  some_fold sorted [] h = h
  some_fold sorted (x ∷ xs) h = some_fold (put_in_order order x sorted) xs (some_put x sorted)

pub some_side_key : (c : Cell) (n : RecName) → 1 ≤ length (read_set c (Side n))
unfolding read_set
some_side_key c n = some_fold key_order (Name n ∷ []) (Refs n ∷ map (λ (r : Ref). Name r.from) (lookup_pointers c n)) (omega arith)

-- ---- four rules' findings appended one after the other
pub four_appended : (none first second third fourth a b c d : List Finding) → none ≡ [] → first ≡ none ++ a → second ≡ first ++ b
    → third ≡ second ++ c → fourth ≡ third ++ d
    → fourth ≡ a ++ (b ++ (c ++ (d ++ [])))
four_appended none first second third fourth a b c d start e f g h =
    let appended : fourth ≡ ((a ++ b) ++ c) ++ d = h ∙ ap (λ xs. xs ++ d) (g ∙ ap (λ xs. xs ++ c) (f ∙ ap (λ xs. xs ++ b) (e ∙ ap (λ xs. xs ++ a) start))) in
    appended ∙ ap (λ xs. ((a ++ b) ++ c) ++ xs) (sym (append-nil d)) ∙ simp append_assoc
