-- The identifiers that records bear: those that have a feature.
use Rattle.std.proofs.Common.{◌≡◌, ℕ, Bool, true, false, ◌&&◌, ◌||◌, List, [], ◌∷◌, map, filter, cond, length, refl, sym, ◌∙◌, arith}
use Rattle.std.specs.Prelude.{◌==◌, nat_lt, flat_map}
use Rattle.std.specs.List.{list_any}
use Rattle.std.proofs.lemmas.Bool.Decides.{nat_tests}
use Rattle.s57_types.specs.declared.name.Lnam.{Lnam}
use Rattle.s57_types.specs.declared.record.Rec.{Rec}
use Rattle.s57_types.specs.declared.record.Rec.TheVariants.{V, F, H}
use Rattle.s57_types.specs.declared.cell.Cell.{Cell}
use Rattle.cell_spec.specs.Lookup.{all_records, bears, identities_of, lookup_identity, name_of}
use Rattle.cell_spec.specs.Names.{identity_order, name_order, same_identity}
use Rattle.cell_spec.proofs.Ascending.{any-ascending, holds}
use Rattle.cell_spec.proofs.Orders.{exact_names, identities_tie}

-- a list has an item where one passes the test that each passes
some_is_any : {X : Type 0} (xs : List X) → nat_lt 0 (length xs) ≡ list_any (λ x. true) xs
some_is_any [] = refl
some_is_any (x ∷ xs) = grind (arith, nat_tests)

some_by : {X Y : Type 0} (f : X → Y) (b : Bool) (x : X) (xs : List X) (more : Bool) → list_any (λ y. true) (map f xs) ≡ more
    → list_any (λ y. true) (map f (cond b (x ∷ xs) xs)) ≡ (b || more)
some_by f true x xs more h = refl
some_by f false x xs more h = h

-- a filter has an item where one passes
some_filtered : {X Y : Type 0} (f : X → Y) (p : X → Bool) (xs : List X) → list_any (λ y. true) (map f (filter p xs)) ≡ list_any p xs
some_filtered f p [] = refl
some_filtered f p (x ∷ xs) = some_by f (p x) x (filter p xs) (list_any p xs) (some_filtered f p xs)

-- ---- identifiers that are one
equal_swap : (x y : ℕ) → (x == y) ≡ (y == x)
equal_swap x y = grind (arith, nat_tests)

swap : (l k : Lnam) → same_identity l k ≡ same_identity k l
swap l k = λ i. (equal_swap l.agen k.agen i && equal_swap l.fidn k.fidn i) && equal_swap l.fids k.fids i

-- a record bears an identifier where it is among those that they bear
borne : (l : Lnam) (rs : List Rec) → holds (identity_order) l (flat_map identities_of rs) ≡ list_any (bears l) rs
borne l [] = refl
borne l (V v ∷ rs) = borne l rs
borne l (H h ∷ rs) = borne l rs
borne l (F f ∷ rs) = λ i. (identities_tie l f.foid ∙ swap f.foid l) i || borne l rs i

-- features bear an identifier of the cell
pub borne_is : (c : Cell) (l : Lnam) → holds (identity_order) l (flat_map identities_of (all_records c)) ≡ nat_lt 0 (length (lookup_identity c l))
borne_is c l =
    let bearers = map name_of (filter (bears l) (all_records c)) in
    borne l (all_records c)
    ∙ sym (some_is_any (lookup_identity c l) ∙ any-ascending name_order exact_names (λ n. true) bearers ∙ some_filtered name_of (bears l) (all_records c))
