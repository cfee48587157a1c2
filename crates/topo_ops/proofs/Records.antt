-- What a cell of distinct names answers to the names of its records.
use Rattle.std.proofs.Common.{◌≡◌, inr, ℕ, Bool, true, false, Option, None, Some, cond, is_some, refl, sym, ap, ◌∙◌}
use Rattle.std.specs.Prelude.{not, option_and_then}
use Rattle.std.proofs.lemmas.Bool.{and_parts, both_ways as contradiction}
use Rattle.s57_types.specs.Fitness.{has_good_names, is_feature_kind, is_vector_kind, unfitness}
use Rattle.s57_types.specs.declared.fault.Unfit.{Unfit}
use Rattle.s57_types.specs.declared.fault.Unfit.TheVariants.{BadName}
use Rattle.s57_types.specs.declared.name.Kind.{Kind}
use Rattle.s57_types.specs.declared.name.Kind.TheVariants.{Vi, Vc, Ve, Fe, Head as HeadKind}
use Rattle.s57_types.specs.declared.name.RecName.{RecName}
use Rattle.s57_types.specs.declared.record.Feature.{Feature}
use Rattle.s57_types.specs.declared.record.Vector.{Vector}
use Rattle.s57_types.specs.declared.record.Rec.{Rec}
use Rattle.s57_types.specs.declared.record.Rec.TheVariants.{V, F, H}
use Rattle.s57_types.specs.declared.cell.Cell.{Cell}
use Rattle.cell_spec.specs.Lookup.{all_records, head_and_records, is_named, listed_record, lookup_record, name_of}
use Rattle.cell_spec.specs.Names.{is_of_kind, same_name}
use Rattle.cell_spec.specs.Writable.{HaveDistinctNames}
use Rattle.cell_spec.proofs.Orders.{one_when_same, same_from_either}
use Rattle.rule_spec.specs.Records.{feature_named, feature_of, vector_named, vector_of}
use Rattle.answer_laws.proofs.Among.{Among, found, found_only, one_of_name}
use Rattle.topo_ops.proofs.PlaceCounts.{same_self}

-- a record is found by its own name
pub finds_own : (c : Cell) → HaveDistinctNames (head_and_records c) → (r : Rec) → Among r (all_records c) → lookup_record c (name_of r) ≡ Some r
finds_own c names r at =
    found_only (is_named (name_of r)) (head_and_records c) r (inr at) (same_self (name_of r)) (λ s there passes.
    one_of_name same_name same_from_either name_of (head_and_records c) names s r there (inr at) (same_from_either (name_of s) (name_of r) ∙ passes))

-- what is found by a name has it
pub own_name : (c : Cell) (n : RecName) (r : Rec) → lookup_record c n ≡ Some r → n ≡ name_of r
own_name c n r is = one_when_same n (name_of r) (found (is_named n) (head_and_records c) r is).passes

-- a record that isn't the head stands in a list
pub record IsListed (c : Cell) (n : RecName) (r : Rec) : Type 0 where
  pub among : Among r (all_records c)
  pub listed : is_some (listed_record c n) ≡ true

listed_by : (c : Cell) (n : RecName) (r : Rec) (head : Bool) → cond head (Some (H c.head)) (listed_record c n) ≡ Some r → (H c.head ≡ r → ⊥) → IsListed c n r
listed_by c n r true is other = absurd (other cc)
listed_by c n r false is other = record { among = (found (is_named n) (all_records c) r is).among; listed = ap is_some is }

pub is_listed : (c : Cell) (n : RecName) (r : Rec) → lookup_record c n ≡ Some r → (H c.head ≡ r → ⊥) → IsListed c n r
is_listed c n r is other = listed_by c n r (is_named n (H c.head)) is other

-- ---- features
pub feature_found : (o : Option Rec) (f : Feature) → option_and_then feature_of o ≡ Some f → o ≡ Some (F f)
feature_found None f e = cc
feature_found (Some (V v)) f e = cc
feature_found (Some (F g)) f e = let same : g ≡ f = cc in ap (λ x. Some (F x)) same
feature_found (Some (H h)) f e = cc

pub record IsFeature (c : Cell) (n : RecName) (f : Feature) : Type 0 where
  pub found_is : lookup_record c n ≡ Some (F f)
  pub name_is : f.name ≡ n
  pub among : Among (F f) (all_records c)
  pub listed : is_some (listed_record c n) ≡ true

pub is_feature : (c : Cell) (n : RecName) (f : Feature) → feature_named c n ≡ Some f → IsFeature c n f
is_feature c n f e =
    let there = feature_found (lookup_record c n) f e in
    let stands = is_listed c n (F f) there (λ same. cc) in
    record { found_is = there; name_is = sym (own_name c n (F f) there); among = stands.among; listed = stands.listed }

pub named_feature : (c : Cell) → HaveDistinctNames (head_and_records c) → (f : Feature) → Among (F f) (all_records c) → feature_named c f.name ≡ Some f
named_feature c names f at = ap (option_and_then feature_of) (finds_own c names (F f) at)

-- ---- vectors
vector_by : (test : RecName → Bool) (c : Cell) (n : RecName) (v w : Vector) (b : Bool) → lookup_record c n ≡ Some (V v) → test v.name ≡ b
    → cond b (Some v) None ≡ Some w → (lookup_record c n ≡ Some (V w)) × (test n ≡ true)
vector_by test c n v w true is passes e =
    let same : v ≡ w = cc in (is ∙ ap (λ x. Some (V x)) same, ap test (own_name c n (V v) is) ∙ passes)
vector_by test c n v w false is passes e = cc

vector_found : (test : RecName → Bool) (c : Cell) (n : RecName) (w : Vector) (o : Option Rec) → lookup_record c n ≡ o
    → option_and_then (vector_of test) o ≡ Some w → (lookup_record c n ≡ Some (V w)) × (test n ≡ true)
vector_found test c n w None is e = cc
vector_found test c n w (Some (V v)) is e = vector_by test c n v w (test v.name) is refl e
vector_found test c n w (Some (F f)) is e = cc
vector_found test c n w (Some (H h)) is e = cc

pub record IsVector (test : RecName → Bool) (c : Cell) (n : RecName) (v : Vector) : Type 0 where
  pub found_is : lookup_record c n ≡ Some (V v)
  pub name_is : v.name ≡ n
  pub passes : test n ≡ true
  pub among : Among (V v) (all_records c)
  pub listed : is_some (listed_record c n) ≡ true

pub is_vector : (test : RecName → Bool) (c : Cell) (n : RecName) (v : Vector) → vector_named test c n ≡ Some v → IsVector test c n v
is_vector test c n v e =
    let there = vector_found test c n v (lookup_record c n) refl e in
    let stands = is_listed c n (V v) there.0 (λ same. cc) in
    record { found_is = there.0; name_is = sym (own_name c n (V v) there.0); passes = there.1; among = stands.among; listed = stands.listed }

-- a name that fails the test is that of no such vector
none_by : (test : RecName → Bool) (c : Cell) (n : RecName) → test n ≡ false → (o : Option Vector) → vector_named test c n ≡ o → o ≡ None
none_by test c n fails None is = refl
none_by test c n fails (Some v) is = absurd (contradiction (test n) fails (is_vector test c n v is).passes)

pub no_vector : (test : RecName → Bool) (c : Cell) (n : RecName) → test n ≡ false → vector_named test c n ≡ None
no_vector test c n fails = none_by test c n fails (vector_named test c n) refl

-- ---- kinds of records that can be written
good_by : (good : Bool) (rest : Option Unfit) → cond (not good) (Some BadName) rest ≡ None → good ≡ true
good_by true rest e = refl
good_by false rest e = cc

pub good_names : (nall : ℕ) (r : Rec) → unfitness nall r ≡ None → has_good_names r ≡ true
unfolding unfitness
good_names nall r fit = good_by (has_good_names r) _ fit

no_feature_kind : (k : Kind) → is_vector_kind k ≡ true → is_feature_kind k ≡ false
no_feature_kind Vi e = refl
no_feature_kind Vc e = refl
no_feature_kind Ve e = refl
no_feature_kind Fe e = cc
no_feature_kind HeadKind e = refl

kind_by : (k : Kind) (id : ℕ) → is_of_kind Fe (record { kind = k; id = id }) ≡ is_feature_kind k
kind_by Vi id = refl
kind_by Vc id = refl
kind_by Ve id = refl
kind_by Fe id = refl
kind_by HeadKind id = refl

pub feature_kind : (nall : ℕ) (f : Feature) → unfitness nall (F f) ≡ None → is_of_kind Fe f.name ≡ true
feature_kind nall f fit = kind_by f.name.kind f.name.id ∙ (and_parts (is_feature_kind f.name.kind) _ (good_names nall (F f) fit)).0

pub vector_kind : (nall : ℕ) (v : Vector) → unfitness nall (V v) ≡ None → is_of_kind Fe v.name ≡ false
vector_kind nall v fit =
    kind_by v.name.kind v.name.id ∙ no_feature_kind v.name.kind (and_parts (is_vector_kind v.name.kind) _ (good_names nall (V v) fit)).0

pub no_head : (nall : ℕ) (r : Rec) → unfitness nall r ≡ None → (c : Cell) → H c.head ≡ r → ⊥
no_head nall (V v) fit c same = cc
no_head nall (F f) fit c same = cc
no_head nall (H h) fit c same = let bad = good_names nall (H h) fit in cc
