-- Features numbered in a row have distinct names, and a cell of nothing else can be looked into.
use Rattle.std.proofs.Common.{◌≡◌, ℕ, ◌+◌, ◌<◌, ◌≤◌, ◌&&◌, Bool, true, false, List, [], ◌∷◌, ◌++◌, length, map, get_or, None, refl, sym, ap, subst, arith}
use Rattle.std.specs.Prelude.{◌==◌}
use Rattle.std.specs.List.{All, AllByRecursion, IsDistinct}
use Rattle.std.proofs.lemmas.Bool.Decides.{nat_tests}
use Rattle.std.proofs.lemmas.List.{map-append}
use Rattle.std.proofs.lemmas.List.Elements.{All-head, All-nil, All-tail, All-push, All-weaker}
use Rattle.s57_types.specs.declared.name.RecName.{RecName}
use Rattle.s57_types.specs.declared.record.Rec.{Rec}
use Rattle.s57_types.specs.declared.head.Head.{Head}
use Rattle.s57_types.specs.Fitness.{is_fit_head, unfitness}
use Rattle.s57_types.specs.declared.name.Kind.TheVariants.{Vi, Vc, Ve, Fe}
use Rattle.cell_spec.specs.Lookup.{name_of}
use Rattle.cell_spec.specs.Names.{kind_rank, name_parts, same_name}
use Rattle.cell_spec.specs.Writable.{AreOfKind, IsWritable}
use Rattle.chain_topo.proofs.SmallRecords.{FitsAnywhere}

pub no_features_distinct : IsDistinct same_name []
unfolding IsDistinct
no_features_distinct = tt

all_push : (P : RecName → Type 0) (ns : List RecName) (n : RecName) → AllByRecursion P ns → P n → AllByRecursion P (ns ++ n ∷ [])
all_push P [] n h p = (p, tt)
all_push P (m ∷ ns) n h p = (h.0, all_push P ns n h.1 p)

distinct_push : (ns : List RecName) (n : RecName) → IsDistinct same_name ns → AllByRecursion (λ m. same_name m n ≡ false) ns
    → IsDistinct same_name (ns ++ n ∷ [])
unfolding IsDistinct
distinct_push [] n h apart = (tt, tt)
distinct_push (m ∷ ns) n h apart = (all_push (λ k. same_name m k ≡ false) ns n h.0 apart.0, distinct_push ns n h.1 apart.1)

numbers_differ : (x y : ℕ) → x < y → (x == y) ≡ false
numbers_differ x y h = grind (arith, nat_tests)

not_both : (a b : Bool) → b ≡ false → (a && b) ≡ false
not_both true b h = h
not_both false b h = refl

fresh : (rs : List Rec) (n : RecName) → All (λ r. (name_of r).id < n.id) rs → AllByRecursion (λ m. same_name m n ≡ false) (map name_of rs)
fresh [] n h = tt
fresh (r ∷ rs) n h = (
  not_both (kind_rank (name_of r).kind == kind_rank n.kind) ((name_of r).id == n.id)
      (numbers_differ (name_of r).id n.id (All-head (λ r. (name_of r).id < n.id) r rs h)),
  fresh rs n (All-tail (λ r. (name_of r).id < n.id) r rs h),
)

number_of : (r : Rec) (i : ℕ) → name_parts (name_of r) ≡ 3 ∷ i ∷ [] → (name_of r).id ≡ i
number_of r i h = ap (λ parts. get_or parts 1 0) h

pub distinct_more : (rs : List Rec) (r : Rec) (i : ℕ) → IsDistinct same_name (map name_of rs) → All (λ r. (name_of r).id < i) rs
    → name_parts (name_of r) ≡ 3 ∷ i ∷ []
    → IsDistinct same_name (map name_of (rs ++ r ∷ []))
distinct_more rs r i distinct below named =
    let later : All (λ s. (name_of s).id < (name_of r).id) rs = subst (λ j. All (λ s. (name_of s).id < j) rs) (sym (number_of r i named)) below in
    subst (IsDistinct same_name) (sym (map-append name_of rs (r ∷ []))) (distinct_push (map name_of rs) (name_of r) distinct (fresh rs (name_of r) later))

pub below_more : (rs : List Rec) (r : Rec) (i : ℕ) → All (λ r. (name_of r).id < i) rs → name_parts (name_of r) ≡ 3 ∷ i ∷ []
    → All (λ r. (name_of r).id < i + 1) (rs ++ r ∷ [])
below_more rs r i below named =
    let last : (name_of r).id < i + 1 = omega (arith, number_of r i named) in
    All-push (λ s. (name_of s).id < i + 1) rs r (All-weaker (λ s. (name_of s).id < i) (λ s. (name_of s).id < i + 1) (λ s h. omega arith) rs below) last

pub kinds_more : (rs : List Rec) (r : Rec) → AreOfKind Fe rs → (name_of r).kind ≡ Fe → AreOfKind Fe (rs ++ r ∷ [])
kinds_more rs r kinds feature = All-push (λ s. (name_of s).kind ≡ Fe) rs r kinds feature

-- a cell of features alone
pub features-writable : (head : Head) (vi vc ve fe features : List Rec) → is_fit_head head ≡ true
    → vi ≡ [] → vc ≡ [] → ve ≡ [] → fe ≡ features → IsDistinct same_name (map name_of features)
    → AreOfKind Fe features → length features ≤ 262144 → All FitsAnywhere features → IsWritable (record { head = head; vi = vi; vc = vc; ve = ve; fe = fe })
features-writable head vi vc ve fe features head_fit no_vi no_vc no_ve same distinct kinds few fit =
    let all : (vi ++ vc ++ ve ++ fe) ≡ features = (λ i. no_vi i ++ no_vc i ++ no_ve i ++ same i) in
    record {
      head_fits = head_fit;
      isolated_nodes = subst (AreOfKind Vi) (sym no_vi) (All-nil (λ x. (name_of x).kind ≡ Vi));
      connected_nodes = subst (AreOfKind Vc) (sym no_vc) (All-nil (λ x. (name_of x).kind ≡ Vc));
      edges = subst (AreOfKind Ve) (sym no_ve) (All-nil (λ x. (name_of x).kind ≡ Ve));
      features = subst (AreOfKind Fe) (sym same) kinds;
      records_fit = subst (All (λ r. unfitness head.nall r ≡ None)) (sym all)
          (All-weaker FitsAnywhere (λ r. unfitness head.nall r ≡ None) (λ r fits. fits head.nall) features fit);
      names_distinct = subst (λ rs. IsDistinct same_name (map name_of rs)) (sym all) distinct;
      not_too_many = omega (arith, ap length all, few);
    }
