-- The read set of two records has the keys of both.
use Rattle.std.proofs.Common.{◌≡◌, ◌≤◌, ◌||◌, Bool, true, false, Some, List, [], ◌∷◌, ◌++◌, ◌<◌, length, get_or, map, refl, sym, ap, ◌∙◌, arith}
use Rattle.std.specs.declared.cmp.Ordering.{Ordering}
use Rattle.std.specs.declared.cmp.Ordering.TheVariants.{Less, Equal, Greater}
use Rattle.std.specs.Ordering.{is_eq, is_lt}
use Rattle.std.specs.Prelude.{Option, option_and_then}
use Rattle.std.specs.Option.{option_map_or}
use Rattle.std.specs.List.{list_any}
use Rattle.std.proofs.lemmas.Cmp.{tied_itself}
use Rattle.std.proofs.lemmas.List.Folds.{list_any-append}
use Rattle.s57_types.specs.declared.name.RecName.{RecName}
use Rattle.s57_types.specs.declared.cell.Cell.{Cell}
use Rattle.s57_types.specs.declared.record.End.{End}
use Rattle.s57_types.specs.declared.record.Rec.{Rec}
use Rattle.s57_types.specs.declared.record.Rec.TheVariants.{V}
use Rattle.s57_types.specs.declared.record.Vector.{Vector}
use Rattle.cell_spec.specs.declared.key.Key.{Key}
use Rattle.cell_spec.specs.declared.key.Key.TheVariants.{Name}
use Rattle.cell_spec.specs.declared.key.Subject.TheVariants.{Pair}
use Rattle.cell_spec.specs.Ascending.{ascending}
use Rattle.cell_spec.specs.Lookup.{lookup_record}
use Rattle.cell_spec.specs.Names.{key_order, name_order}
use Rattle.cell_spec.proofs.Ascending.{holds, holds-ascending, same_when_sorted, sorted-ascending}
use Rattle.cell_spec.proofs.Orders.{exact_keys, total_keys}
use Rattle.rule_spec.specs.Findings.{is_below}
use Rattle.rule_spec.specs.Reads.{end_keys, end_keys_at, feature_keys, record_keys, read_set}
use Rattle.rule_spec.specs.Records.{feature_named, feature_of, is_edge_name}
use Rattle.check_pairs.proofs.Parts.{edge_is}

tied : (o : Ordering) (rest : Bool) → rest ≡ false → is_eq o || rest ≡ true → o ≡ Equal
tied Less rest e h = absurd (cc)
tied Equal rest e h = refl
tied Greater rest e h = absurd (cc)

-- a list that holds two different keys has two keys
two_held : (k j : Key) (keys : List Key) → (key_order k j ≡ Less) → holds key_order k keys ≡ true → holds key_order j keys ≡ true → 2 ≤ length keys
two_held k j [] less hk hj = absurd (cc)
two_held k j (y ∷ []) less hk hj =
    let first : k ≡ y = exact_keys k y (tied (key_order k y) false refl hk) in
    let second : j ≡ y = exact_keys j y (tied (key_order j y) false refl hj) in
    let same : key_order k k ≡ Less = ap (key_order k) (first ∙ sym second) ∙ less in
    let itself : key_order k k ≡ Equal = tied_itself total_keys k in
    absurd (cc)
two_held k j (y ∷ z ∷ keys) less hk hj = omega arith

holds_first : (k : Key) (rest : List Key) → holds key_order k (k ∷ rest) ≡ true
holds_first k rest = ap (λ o. is_eq o || holds key_order k rest) (tied_itself total_keys k)

or_right : (x y : Bool) → y ≡ true → x || y ≡ true
or_right true y h = refl
or_right false y h = h

less_from_test : (o : Ordering) → is_lt o ≡ true → o ≡ Less
less_from_test Less h = refl
less_from_test Equal h = absurd (cc)
less_from_test Greater h = absurd (cc)

-- a record's keys begin with its name
has_name : (c : Cell) (n : RecName) → holds key_order (Name n) (record_keys c n) ≡ true
has_name c n = holds_first (Name n) (end_keys_at c n ++ option_map_or (feature_keys c) (feature_named c n) [])

first_held : (k : Key) (xs ys : List Key) → holds key_order k xs ≡ true → holds key_order k (xs ++ ys) ≡ true
first_held k xs ys h = list_any-append (λ y. is_eq (key_order k y)) xs ys ∙ ap (λ t. t || holds key_order k ys) h

second_held : (k : Key) (xs ys : List Key) → holds key_order k ys ≡ true → holds key_order k (xs ++ ys) ≡ true
second_held k xs ys h = list_any-append (λ y. is_eq (key_order k y)) xs ys ∙ or_right (holds key_order k xs) (holds key_order k ys) h

names_below : (a b : RecName) → is_below a b ≡ true → key_order (Name a) (Name b) ≡ Less
names_below a b h = less_from_test (name_order a b) h

-- the read set of two records has at least two keys
pub two_keys : (c : Cell) (a b : RecName) → is_below a b ≡ true → 2 ≤ length (read_set c (Pair a b))
unfolding read_set
two_keys c a b h =
    let keys = record_keys c a ++ record_keys c b in
    two_held (Name a) (Name b) (ascending key_order keys) (names_below a b h)
    (holds-ascending key_order exact_keys (Name a) keys ∙ first_held (Name a) (record_keys c a) (record_keys c b) (has_name c a))
    (holds-ascending key_order exact_keys (Name b) keys ∙ second_held (Name b) (record_keys c a) (record_keys c b) (has_name c b))

-- what a record that isn't a feature's names beside what an edge's ends name
pub no_feature_keys : (c : Cell) (n : RecName) (v : Vector) → lookup_record c n ≡ Some (V v) → option_map_or (feature_keys c) (feature_named c n) [] ≡ []
no_feature_keys c n v is = ap (λ (found : Option Rec). option_map_or (feature_keys c) (option_and_then feature_of found) []) is

-- an edge's keys are its name and what its ends name
pub edge_keys : (c : Cell) (n : RecName) (v : Vector) → lookup_record c n ≡ Some (V v) → is_edge_name v.name ≡ true → record_keys c n ≡ Name n ∷ (end_keys v ++ [])
edge_keys c n v held edge =
    ap (λ (found : Option Vector). Name n ∷ (option_map_or end_keys found [] ++ option_map_or (feature_keys c) (feature_named c n) [])) (edge_is c n v held edge)
    ∙ ap (λ (keys : List Key). Name n ∷ (end_keys v ++ keys)) (no_feature_keys c n v held)

-- ---- what is held by few keys
or_last : (x : Bool) → (x || false) ≡ x
or_last true = refl
or_last false = refl

crossed : (x y p q : Bool) → ((x || y) || (p || q)) ≡ ((x || p) || (y || q))
crossed true y p q = refl
crossed false true true q = refl
crossed false true false q = refl
crossed false false p q = refl

two_by_two : (s t u v rest : Bool) → (s || (t || (u || (v || rest)))) ≡ ((s || ((t || u) || v)) || rest)
two_by_two true t u v rest = refl
two_by_two false true u v rest = refl
two_by_two false false true v rest = refl
two_by_two false false false v rest = refl

around : (s low high v : Bool) → (s || ((low || high) || v)) ≡ ((s || low) || (high || v))
around true low high v = refl
around false true high v = refl
around false false high v = refl

-- four that came of two and two by exchanges, and two more
pub six_held : (s t u v low high x y p q m n : Bool) → (s || low) ≡ (x || p) → (high || v) ≡ (y || q) → (t || u) ≡ (low || high)
    → (s || (t || (u || (v || (m || (n || false)))))) ≡ (((x || y) || (p || q)) || (m || n))
six_held s t u v low high x y p q m n lows highs middle =
    two_by_two s t u v (m || (n || false))
    ∙ ap (λ r. (s || ((t || u) || v)) || (m || r)) (or_last n)
    ∙ ap (λ r. (s || (r || v)) || (m || n)) middle
    ∙ ap (λ r. r || (m || n)) (around s low high v)
    ∙ ap (λ r. (r || (high || v)) || (m || n)) lows
    ∙ ap (λ r. ((x || p) || r) || (m || n)) highs
    ∙ ap (λ r. r || (m || n)) (crossed x p y q)

pub any_named : (g : Key → Bool) (names : List RecName) → list_any g (map Name names) ≡ list_any (λ n. g (Name n)) names
any_named g [] = refl
any_named g (n ∷ names) = ap (λ r. g (Name n) || r) (any_named g names)

-- two ends and a name
pub with_ends : (low high n x y : Bool) → (low || high) ≡ (x || y) → ((low || high) || n) ≡ (n || (x || (y || false)))
with_ends low high n x y same = ap (λ m. m || n) same ∙ last_first x y n
  where
    last_first : (x y n : Bool) → ((x || y) || n) ≡ (n || (x || (y || false)))
    last_first true y true = refl
    last_first true y false = refl
    last_first false true true = refl
    last_first false true false = refl
    last_first false false true = refl
    last_first false false false = refl

last_twice : (x y q : Bool) → ((x || y) || (q || q)) ≡ (x || (y || q))
last_twice true y q = refl
last_twice false true q = refl
last_twice false false true = refl
last_twice false false false = refl

-- the keys of two edges, and those of a node and what comes behind it
pub of_two_edges : (all x y p q first second : Bool) → all ≡ ((x || y) || (p || q)) → (x || p) ≡ first → (y || q) ≡ second → all ≡ (first || second)
of_two_edges all x y p q first second same one other = same ∙ crossed x y p q ∙ ap (λ m. m || (y || q)) one ∙ ap (λ m. first || m) other

pub of_node_first : (all x y q first second : Bool) → all ≡ ((x || y) || (q || q)) → x ≡ first → (y || q) ≡ second → all ≡ (first || second)
of_node_first all x y q first second same one other = same ∙ last_twice x y q ∙ ap (λ m. m || (y || q)) one ∙ ap (λ m. first || m) other

pub two_ends : (g : Key → Bool) (ends : List End) (d : End) → 2 ≤ length ends → length ends < 3
    → (g (Name (get_or ends 0 d).to) || (g (Name (get_or ends 1 d).to) || false)) ≡ list_any g (map (λ (e : End). Name e.to) ends ++ [])
two_ends g [] d low high = absurd (omega (arith, low))
two_ends g (x ∷ []) d low high = absurd (omega (arith, low))
two_ends g (x ∷ y ∷ []) d low high = refl
two_ends g (x ∷ y ∷ z ∷ ends) d low high = absurd (omega (arith, high))

-- keys that hold what the records' keys hold are the read set, once they ascend
pub is_read_set : (c : Cell) (a b : RecName) (keys : List Key)
    → ((g : Key → Bool) → list_any g keys ≡ (list_any g (record_keys c a) || list_any g (record_keys c b)))
    → ascending key_order keys ≡ read_set c (Pair a b)
unfolding read_set
is_read_set c a b keys held =
    let other = record_keys c a ++ record_keys c b in
    same_when_sorted key_order total_keys exact_keys (ascending key_order keys) (ascending key_order other)
    (sorted-ascending key_order total_keys keys) (sorted-ascending key_order total_keys other)
    (λ q. holds-ascending key_order exact_keys q keys
    ∙ held (λ k. is_eq (key_order q k))
    ∙ sym (list_any-append (λ k. is_eq (key_order q k)) (record_keys c a) (record_keys c b))
    ∙ sym (holds-ascending key_order exact_keys q other))
