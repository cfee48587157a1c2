-- Names in order are keys in order, however they come.
use Rattle.std.proofs.Common.{◌≡◌, List, [], ◌∷◌, ◌++◌, map, fold, refl, sym, ap, ◌∙◌}
use Rattle.std.specs.List.Sorted.{IsPermutation}
use Rattle.std.specs.Ordering.{is_eq, match_ordering}
use Rattle.std.proofs.lemmas.List.Sorted.{IsPermutation-append_comm, list_any-IsPermutation}
use Rattle.std.specs.declared.cmp.Ordering.{Ordering}
use Rattle.std.specs.declared.cmp.Ordering.TheVariants.{Less, Equal, Greater}
use Rattle.s57_types.specs.declared.name.RecName.{RecName}
use Rattle.cell_spec.specs.declared.key.Key.{Key}
use Rattle.cell_spec.specs.declared.key.Key.TheVariants.{Name}
use Rattle.cell_spec.specs.Ascending.{ascending, put_in_order}
use Rattle.cell_spec.specs.Names.{key_order, name_order}
use Rattle.cell_spec.proofs.Ascending.{holds-ascending, same_when_sorted, sorted-ascending}
use Rattle.cell_spec.proofs.Orders.{exact_names, total_names}

put_by : (x y : RecName) (ys : List RecName) (found : Ordering) → map Name (put_in_order name_order x ys) ≡ put_in_order key_order (Name x) (map Name ys)
    → map Name (match_ordering found (x ∷ y ∷ ys) (y ∷ ys) (y ∷ put_in_order name_order x ys))
    ≡ match_ordering found (Name x ∷ Name y ∷ map Name ys) (Name y ∷ map Name ys) (Name y ∷ put_in_order key_order (Name x) (map Name ys))
put_by x y ys Less h = refl
put_by x y ys Equal h = refl
put_by x y ys Greater h = ap (λ (rest : List Key). Name y ∷ rest) h

put_name : (x : RecName) (ys : List RecName) → map Name (put_in_order name_order x ys) ≡ put_in_order key_order (Name x) (map Name ys)
put_name x [] = refl
put_name x (y ∷ ys) = put_by x y ys (name_order x y) (put_name x ys)

put_names : (sorted xs : List RecName)
    → map Name (fold (λ sorted x. put_in_order name_order x sorted) sorted xs)
    ≡ fold (λ sorted x. put_in_order key_order x sorted) (map Name sorted) (map Name xs)
put_names sorted [] = refl
put_names sorted (x ∷ xs) =
    put_names (put_in_order name_order x sorted) xs
    ∙ ap (λ held. fold (λ sorted x. put_in_order key_order x sorted) held (map Name xs)) (put_name x sorted)

-- the keys of names in order, each once, are the names' keys in order, each once
pub name_keys : (names : List RecName) → map Name (ascending name_order names) ≡ ascending key_order (map Name names)
name_keys names = put_names [] names

-- names that are moved among themselves are the same in order
pub moved_names : (given moved : List RecName) → IsPermutation given moved → ascending name_order moved ≡ ascending name_order given
moved_names given moved is =
    same_when_sorted name_order total_names exact_names (ascending name_order moved) (ascending name_order given)
    (sorted-ascending name_order total_names moved)
    (sorted-ascending name_order total_names given)
    (λ q. holds-ascending name_order exact_names q moved
    ∙ sym (list_any-IsPermutation (λ y. is_eq (name_order q y)) given moved is)
    ∙ sym (holds-ascending name_order exact_names q given))

-- names that come first may come last
pub turned_names : (first last : List RecName) → ascending key_order (map Name (first ++ last)) ≡ ascending key_order (map Name (last ++ first))
turned_names first last =
    sym (name_keys (first ++ last))
    ∙ ap (map Name) (moved_names (last ++ first) (first ++ last) (IsPermutation-append_comm last first))
    ∙ name_keys (last ++ first)
