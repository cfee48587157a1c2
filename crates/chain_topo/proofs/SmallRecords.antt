-- Small records can be written, and names that differ in their parts are distinct: for the cells of tests.
use Rattle.std.proofs.Common.{◌≡◌, ℕ, ◌+◌, ◌*◌, ◌-◌, ◌<◌, ◌≤◌, ◌&&◌, Bool, true, false, List, [], ◌∷◌, ◌++◌, length, take, map, fold, None, Some, refl, ap}
use Rattle.std.proofs.Common.{◌∙◌, arith}
use Rattle.std.specs.Prelude.{◌==◌, cond, not, nat_lt, ℤ, max, sum}
use Rattle.std.specs.List.{list_all, IsDistinct, AllByRecursion, All}
use Rattle.std.proofs.Math.Nat.{mul-le-mul}
use Rattle.std.proofs.lemmas.Bool.{and_parts}
use Rattle.std.proofs.lemmas.Bool.Decides.{nat_tests}
use Rattle.std.proofs.lemmas.Fmt.{length-decimal-le}
use Rattle.frame_spec.specs.WrittenRecord.{record_length, field_lengths, length_digits, position_digits}
use Rattle.s57_types.specs.declared.name.Kind.TheVariants.{Fe}
use Rattle.s57_types.specs.declared.name.RecName.{RecName}
use Rattle.s57_types.specs.declared.name.Lnam.{Lnam}
use Rattle.s57_types.specs.declared.record.End.{End}
use Rattle.s57_types.specs.declared.record.Spot.{Spot}
use Rattle.s57_types.specs.declared.record.Attr.{Attr}
use Rattle.s57_types.specs.declared.record.Partner.{Partner}
use Rattle.s57_types.specs.declared.record.Rec.{Rec}
use Rattle.s57_types.specs.declared.record.Rec.TheVariants.{V, F}
use Rattle.s57_types.specs.declared.cell.Cell.{Cell}
use Rattle.s57_types.specs.declared.fault.Unfit.TheVariants.{TooLong, BadText, BadName}
use Rattle.cell_spec.specs.Lookup.{all_records, name_of}
use Rattle.cell_spec.specs.Names.{name_parts, same_name}
use Rattle.chain_topo.specs.Readable.{IsReadable}
use Rattle.std.proofs.lemmas.List.{map-append, length-map}
use Rattle.std.proofs.lemmas.List.Elements.{All-append, All-weaker}
use Rattle.s57_types.specs.Fitness.{is_feature_kind, is_vector_kind, has_good_names, has_good_texts, unfitness}
use Rattle.s57_types.specs.RecordFields.{record_fields, written_length, length_limit}

-- a record that fits at every level
abbrev pub FitsAnywhere : Rec → Type 0
FitsAnywhere r = (nall : ℕ) → unfitness nall r ≡ None

fit_from_tests : (nall : ℕ) (rec : Rec) → has_good_names rec ≡ true → has_good_texts nall rec ≡ true
    → nat_lt length_limit (written_length nall rec) ≡ false → unfitness nall rec ≡ None
unfolding unfitness
fit_from_tests nall rec names texts short =
    ap (λ b. cond (not b) (Some BadName) (cond (not (has_good_texts nall rec)) (Some BadText)
    (cond (nat_lt length_limit (written_length nall rec)) (Some TooLong) None))) names
    ∙ ap (λ b. cond (not b) (Some BadText) (cond (nat_lt length_limit (written_length nall rec)) (Some TooLong) None)) texts
    ∙ ap (λ b. cond b (Some TooLong) None) short

-- few short fields
abbrev is_small : List ℕ → Bool
is_small lengths = nat_lt (fold max 0 lengths) 10000 && (nat_lt (sum (take (length lengths - 1) lengths)) 10000 &&
    (nat_lt (length lengths) 9 && nat_lt (sum lengths) 2000))

less_when : (a b : ℕ) → nat_lt a b ≡ true → a < b
less_when a b h = grind (arith, nat_tests)

not_less_when : (a b : ℕ) → b ≤ a → nat_lt a b ≡ false
not_less_when a b h = grind (arith, nat_tests)

-- a record of few short fields isn't too long
short_when_small : (lengths : List ℕ) → is_small lengths ≡ true → nat_lt length_limit (record_length lengths) ≡ false
short_when_small lengths small =
    let parts = and_parts (nat_lt (fold max 0 lengths) 10000) _ small in
    let greatest : fold max 0 lengths < 10000 = less_when _ _ parts.0 in
    let later = and_parts (nat_lt (sum (take (length lengths - 1) lengths)) 10000) _ parts.1 in
    let position : sum (take (length lengths - 1) lengths) < 10000 = less_when _ _ later.0 in
    let last = and_parts (nat_lt (length lengths) 9) _ later.1 in
    let count : length lengths < 9 = less_when _ _ last.0 in
    let total : sum lengths < 2000 = less_when _ _ last.1 in
    let length_digits_few : length_digits lengths ≤ 4 = length-decimal-le 4 (fold max 0 lengths) (omega arith) greatest (omega arith) in
    let position_digits_few : position_digits lengths ≤ 4 = length-decimal-le 4 (sum (take (length lengths - 1) lengths))
    (omega arith) position (omega arith) in
    let few : length lengths ≤ 8 = omega arith in
    let short : 4 + length_digits lengths + position_digits lengths ≤ 12 = omega arith in
    let entries : length lengths * (4 + length_digits lengths + position_digits lengths) ≤ 8 * 12 = mul-le-mul few short in
    not_less_when length_limit (record_length lengths) (omega arith)

short_by : (nall : ℕ) (rec : Rec) → is_small (field_lengths (record_fields nall 0 rec)) ≡ true → nat_lt length_limit (written_length nall rec) ≡ false
short_by nall rec small = short_when_small (field_lengths (record_fields nall 0 rec)) small

abbrev plain_vector : RecName → List End → List (ℤ × ℤ) → Rec
plain_vector name ends plane = V (record { name = name; rver = 1; attrs = []; ends = ends; plane = plane; deep = [] })

short_vector : (nall : ℕ) (name : RecName) (ends : List End) (plane : List (ℤ × ℤ)) → length ends ≤ 3 → length plane ≤ 2
    → nat_lt length_limit (written_length nall (plain_vector name ends plane)) ≡ false
short_vector nall name [] [] few_ends few = short_by nall (plain_vector name [] []) refl
short_vector nall name [] (p ∷ []) few_ends few = short_by nall (plain_vector name [] (p ∷ [])) refl
short_vector nall name [] (p ∷ q ∷ []) few_ends few = short_by nall (plain_vector name [] (p ∷ q ∷ [])) refl
short_vector nall name [] (p ∷ q ∷ r ∷ ps) few_ends few = absurd (omega arith)
short_vector nall name (d ∷ []) [] few_ends few = short_by nall (plain_vector name (d ∷ []) []) refl
short_vector nall name (d ∷ []) (p ∷ []) few_ends few = short_by nall (plain_vector name (d ∷ []) (p ∷ [])) refl
short_vector nall name (d ∷ []) (p ∷ q ∷ []) few_ends few = short_by nall (plain_vector name (d ∷ []) (p ∷ q ∷ [])) refl
short_vector nall name (d ∷ []) (p ∷ q ∷ r ∷ ps) few_ends few = absurd (omega arith)
short_vector nall name (d ∷ e ∷ []) [] few_ends few = short_by nall (plain_vector name (d ∷ e ∷ []) []) refl
short_vector nall name (d ∷ e ∷ []) (p ∷ []) few_ends few = short_by nall (plain_vector name (d ∷ e ∷ []) (p ∷ [])) refl
short_vector nall name (d ∷ e ∷ []) (p ∷ q ∷ []) few_ends few = short_by nall (plain_vector name (d ∷ e ∷ []) (p ∷ q ∷ [])) refl
short_vector nall name (d ∷ e ∷ []) (p ∷ q ∷ r ∷ ps) few_ends few = absurd (omega arith)
short_vector nall name (d ∷ e ∷ f ∷ []) [] few_ends few = short_by nall (plain_vector name (d ∷ e ∷ f ∷ []) []) refl
short_vector nall name (d ∷ e ∷ f ∷ []) (p ∷ []) few_ends few = short_by nall (plain_vector name (d ∷ e ∷ f ∷ []) (p ∷ [])) refl
short_vector nall name (d ∷ e ∷ f ∷ []) (p ∷ q ∷ []) few_ends few = short_by nall (plain_vector name (d ∷ e ∷ f ∷ []) (p ∷ q ∷ [])) refl
short_vector nall name (d ∷ e ∷ f ∷ []) (p ∷ q ∷ r ∷ ps) few_ends few = absurd (omega arith)
short_vector nall name (d ∷ e ∷ f ∷ g ∷ ends) plane few_ends few = absurd (omega arith)

-- a vector record with few pointers and points fits
pub vector-fits : (nall : ℕ) (name : RecName) (ends : List End) (plane : List (ℤ × ℤ)) → is_vector_kind name.kind ≡ true
    → list_all (λ (e : End). is_vector_kind e.to.kind) ends ≡ true
    → length ends ≤ 3 → length plane ≤ 2 → unfitness nall (plain_vector name ends plane) ≡ None
vector-fits nall name ends plane kind targets few_ends few =
    fit_from_tests nall (plain_vector name ends plane) (λ i. kind i && targets i) refl
    (short_vector nall name ends plane few_ends few)

pub vector-fits-with : (name : RecName) (attrs : List Attr) (ends : List End) (plane : List (ℤ × ℤ)) (deep : List (ℤ × ℤ × ℤ))
    (given_ends : List End) (given_plane : List (ℤ × ℤ)) → attrs ≡ [] → ends ≡ given_ends → plane ≡ given_plane → deep ≡ []
    → is_vector_kind name.kind ≡ true → list_all (λ (e : End). is_vector_kind e.to.kind) given_ends ≡ true → length given_ends ≤ 3 → length given_plane ≤ 2
    → (nall : ℕ) → unfitness nall (V (record { name = name; rver = 1; attrs = attrs; ends = ends; plane = plane; deep = deep })) ≡ None
vector-fits-with name attrs ends plane deep given_ends given_plane no_attrs same_ends same_plane no_deep kind targets few_ends few nall =
    (λ i. unfitness nall (V (record { name = name; rver = 1; attrs = no_attrs i; ends = same_ends i; plane = same_plane i; deep = no_deep i })))
    ∙ vector-fits nall name given_ends given_plane kind targets few_ends few

abbrev feature_with : RecName → Lnam → List Attr → List Attr → List Partner → List Spot → Rec
feature_with name foid attf natf partners places =
    F (record { name = name; prim = 3; grup = 1; objl = 42; rver = 1; foid = foid; attf = attf; natf = natf; partners = partners; places = places })

abbrev plain_feature : RecName → Lnam → List Spot → Rec
plain_feature name foid places = feature_with name foid [] [] [] places

short_feature : (nall : ℕ) (name : RecName) (foid : Lnam) (places : List Spot) → length places ≤ 4
    → nat_lt length_limit (written_length nall (plain_feature name foid places)) ≡ false
short_feature nall name foid [] few = short_by nall (plain_feature name foid []) refl
short_feature nall name foid (r ∷ []) few = short_by nall (plain_feature name foid (r ∷ [])) refl
short_feature nall name foid (r ∷ s ∷ []) few = short_by nall (plain_feature name foid (r ∷ s ∷ [])) refl
short_feature nall name foid (r ∷ s ∷ t ∷ []) few = short_by nall (plain_feature name foid (r ∷ s ∷ t ∷ [])) refl
short_feature nall name foid (r ∷ s ∷ t ∷ u ∷ []) few = short_by nall (plain_feature name foid (r ∷ s ∷ t ∷ u ∷ [])) refl
short_feature nall name foid (r ∷ s ∷ t ∷ u ∷ v ∷ places) few = absurd (omega arith)

-- a feature with few pointers fits
pub feature-fits : (nall : ℕ) (name : RecName) (foid : Lnam) (places : List Spot) → is_feature_kind name.kind ≡ true
    → list_all (λ (s : Spot). is_vector_kind s.to.kind) places ≡ true
    → length places ≤ 4 → unfitness nall (plain_feature name foid places) ≡ None
feature-fits nall name foid places kind targets few =
    fit_from_tests nall (plain_feature name foid places) (λ i. kind i && targets i) refl (short_feature nall name foid places few)

pub feature-fits-with : (name : RecName) (foid : Lnam) (attf natf : List Attr) (partners : List Partner) (places given : List Spot)
    → attf ≡ [] → natf ≡ [] → partners ≡ [] → places ≡ given
    → name.kind ≡ Fe → list_all (λ (s : Spot). is_vector_kind s.to.kind) given ≡ true → length given ≤ 4
    → (nall : ℕ) → unfitness nall (F (record {
      name = name;
      prim = 3;
      grup = 1;
      objl = 42;
      rver = 1;
      foid = foid;
      attf = attf;
      natf = natf;
      partners = partners;
      places = places;
    })) ≡ None
feature-fits-with name foid attf natf partners places given no_attf no_natf no_partners same kind targets few nall =
    (λ i. unfitness nall (feature_with name foid (no_attf i) (no_natf i) (no_partners i) (same i)))
    ∙ feature-fits nall name foid given (ap is_feature_kind kind) targets few

-- whether two lists of numbers differ
abbrev pub differ : List ℕ → List ℕ → Bool
differ (a ∷ b ∷ []) (c ∷ d ∷ []) = not ((a == c) && (b == d))
differ xs ys = false

abbrev pub all_differ : List (List ℕ) → Bool
all_differ [] = true
all_differ (xs ∷ rest) = list_all (differ xs) rest && all_differ rest

abbrev pub parts_of : Rec → List ℕ
parts_of r = name_parts (name_of r)

apart : (b : Bool) → not b ≡ true → b ≡ false
apart true h = cc
apart false h = refl

each_apart : (n : RecName) (rs : List Rec) → list_all (differ (name_parts n)) (map parts_of rs) ≡ true
    → AllByRecursion (λ m. same_name n m ≡ false) (map name_of rs)
each_apart n [] h = tt
each_apart n (r ∷ rs) h =
    let both = and_parts (not (same_name n (name_of r))) (list_all (differ (name_parts n)) (map parts_of rs)) h in
    (apart (same_name n (name_of r)) both.0, each_apart n rs both.1)

distinct_by_parts : (rs : List Rec) → all_differ (map parts_of rs) ≡ true → IsDistinct same_name (map name_of rs)
unfolding IsDistinct
distinct_by_parts [] h = tt
distinct_by_parts (r ∷ rs) h =
    let both = and_parts (list_all (differ (parts_of r)) (map parts_of rs)) (all_differ (map parts_of rs)) h in
    (each_apart (name_of r) rs both.0, distinct_by_parts rs both.1)

map_four : {X Y : Type 0} (f : X → Y) (a b c d : List X) → map f (a ++ b ++ c ++ d) ≡ map f a ++ map f b ++ map f c ++ map f d
map_four f a b c d = map-append f (a ++ b ++ c) d ∙ ap (λ z. z ++ map f d) (map-append f (a ++ b) c ∙ ap (λ z. z ++ map f c) (map-append f a b))

-- a cell of records that fit, whose names are these, can be looked into
pub readable-from_parts : (c : Cell) (vi vc ve fe : List (List ℕ)) → map parts_of c.vi ≡ vi → map parts_of c.vc ≡ vc → map parts_of c.ve ≡ ve
    → map parts_of c.fe ≡ fe
    → all_differ (vi ++ vc ++ ve ++ fe) ≡ true → length (vi ++ vc ++ ve ++ fe) ≤ 266240
    → All FitsAnywhere c.vi → All FitsAnywhere c.vc → All FitsAnywhere c.ve → All FitsAnywhere c.fe → IsReadable c
readable-from_parts c vi vc ve fe vi_is vc_is ve_is fe_is differs few f g h k =
    let parts : map parts_of (all_records c) ≡ vi ++ vc ++ ve ++ fe = map_four parts_of c.vi c.vc c.ve c.fe ∙ (λ i. vi_is i ++ vc_is i ++ ve_is i ++ fe_is i) in
    record {
      distinct = distinct_by_parts (all_records c) (ap all_differ parts ∙ differs);
      count = omega (arith, length-map (all_records c) parts_of, ap length parts);
      fit = All-weaker FitsAnywhere (λ r. unfitness c.head.nall r ≡ None) (λ r fits. fits c.head.nall) (all_records c)
          (All-append FitsAnywhere (c.vi ++ c.vc ++ c.ve) c.fe (All-append FitsAnywhere (c.vi ++ c.vc) c.ve (All-append FitsAnywhere c.vi c.vc f g) h) k);
    }
