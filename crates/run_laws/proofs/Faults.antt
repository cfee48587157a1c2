-- What the fault of form tells.
use Rattle.std.proofs.Common.{◌≡◌, ◌==◌, ℕ, zero, suc, ◌+◌, ◌-◌, ◌<◌, ◌≤◌, Bool, true, false, if◌then◌else◌, List, [], ◌∷◌, length, map, take}
use Rattle.std.proofs.Common.{Option, None, Some, refl, sym, ap, ◌∙◌, subst, arith, filter_map, option_map, option_and_then, nat_lt, add-zero, zero-add}
use Rattle.std.specs.Prelude.{slice_get, Contains}
use Rattle.std.specs.List.{cons_option, range_with_len}
use Rattle.std.proofs.lemmas.Bool.{eqb-false, eqb-true, ltb-false, ltb-true, both_ways as contradiction}
use Rattle.s57_types.specs.declared.fault.Unfit.{Unfit as WhyUnfit}
use Rattle.s57_types.specs.declared.name.RecName.{RecName}
use Rattle.cell_spec.specs.Edits.{name_of_edit}
use Rattle.cell_spec.specs.Names.{same_name}
use Rattle.cell_spec.specs.declared.edit.Edit.{Edit}
use Rattle.cell_spec.proofs.Orders.{one_when_same}
use Rattle.answer_laws.proofs.Among.{Among, among_map, any_passes, mapped, passing}
use Rattle.edit_sets.specs.FormFault.{edit_fault, edit_limit, fault_at, first_edit_fault, form_fault, guard_limit, has_edit_of, unfitness_of_edit}
use Rattle.edit_sets.specs.declared.fault.FormFault.{FormFault}
use Rattle.edit_sets.specs.declared.fault.FormFault.TheVariants.{Empty, TooMany, Twice, Unfit, TooManyGuards}
use Rattle.run_laws.specs.Faults.{AreSome, IsGood, IsReached, ShowsFault}
use Rattle.run_laws.proofs.Contests.{among_contained, contained_among, itself}

-- ---- the first place that has a fault
record IsFirstPlace {X : Type 0} (h : ℕ → Option X) (a n : ℕ) (x : X) : Type 0 where
  place : ℕ
  within : place < n
  gives : h (a + place) ≡ Some x
  before : (k : ℕ) → k < place → h (a + k) ≡ None

place_behind : {X : Type 0} (h : ℕ → Option X) (a n : ℕ) (x : X) → h a ≡ None → IsFirstPlace h (a + 1) n x → IsFirstPlace h a (suc n) x
place_behind h a n x none later =
    let within = later.within in record {
      place = suc later.place;
      within = omega (arith, within);
      gives = (let e : a + suc later.place ≡ a + 1 + later.place = omega arith in ap h e) ∙ later.gives;
      before = by_place;
    }
  where
    by_place : (k : ℕ) → k < suc later.place → h (a + k) ≡ None
    by_place zero below = ap h (add-zero a) ∙ none
    by_place (suc k) below = (let e : a + suc k ≡ a + 1 + k = omega arith in ap h e) ∙ later.before k (omega (arith, below))

with_place : {X : Type 0} (h : ℕ → Option X) (a n : ℕ) (x : X) (o : Option X) (others : List X) → h a ≡ o → slice_get (cons_option o others) 0 ≡ Some x
    → (slice_get others 0 ≡ Some x → IsFirstPlace h (a + 1) n x) → IsFirstPlace h a (suc n) x
with_place h a n x None others none is later = place_behind h a n x none (later is)
with_place h a n x (Some y) others some is later = record {
  place = 0;
  within = omega arith;
  gives = ap h (add-zero a) ∙ (some ∙ is);
  before = λ k below. absurd (omega (arith, below));
}

first_place : {X : Type 0} (h : ℕ → Option X) (a n : ℕ) (x : X) → slice_get (filter_map h (range_with_len a n)) 0 ≡ Some x → IsFirstPlace h a n x
first_place h a zero x e = cc
first_place h a (suc n) x e = with_place h a n x (h a) (filter_map h (range_with_len (a + 1) n)) refl e (first_place h (a + 1) n x)

-- ---- the names before an edit
name_there : (earlier : List Edit) (name : RecName) → has_edit_of name earlier ≡ true → Contains (map name_of_edit earlier) name
name_there earlier name e =
    let hit = passing (λ edit. same_name (name_of_edit edit) name) earlier e in
    contained_among (map name_of_edit earlier) name (subst (λ m. Among m (map name_of_edit earlier))
    (one_when_same (name_of_edit hit.item) name hit.passes) (among_map name_of_edit hit.item earlier hit.among))

no_name_there : (earlier : List Edit) (name : RecName) → has_edit_of name earlier ≡ false → ¬ Contains (map name_of_edit earlier) name
no_name_there earlier name e at =
    let from = mapped name_of_edit name earlier (among_contained (map name_of_edit earlier) name at) in
    contradiction (has_edit_of name earlier) e
    (any_passes (λ edit. same_name (name_of_edit edit) name) from.item earlier from.among (ap (λ m. same_name m name) from.gives ∙ itself name))

module _ (nall : ℕ) (edits : List Edit) (guards : List RecName) where
  there_is : (k : ℕ) (es : List Edit) → k < length es → (edit : Edit) × (slice_get es k ≡ Some edit)
  there_is k [] below = absurd (omega (arith, below))
  there_is zero (e ∷ es) below = (e, refl)
  there_is (suc k) (e ∷ es) below = there_is k es (omega (arith, below))

  -- a place without a fault
  good_there : (k : ℕ) (edit : Edit) → slice_get edits k ≡ Some edit → fault_at nall edits k ≡ None → IsGood nall (take k edits) edit
  good_there k edit there none =
      by (has_edit_of (name_of_edit edit) (take k edits)) (unfitness_of_edit nall edit) refl refl
      (ap (option_and_then (edit_fault nall (take k edits) (k + 1))) (sym there) ∙ none)
    where
      by : (b : Bool) (o : Option WhyUnfit) → has_edit_of (name_of_edit edit) (take k edits) ≡ b → unfitness_of_edit nall edit ≡ o
          → (if b then Some (Twice (k + 1)) else option_map (λ why. Unfit (k + 1) why) o) ≡ None → IsGood nall (take k edits) edit
      by true o named fit e = cc
      by false None named fit e = record { new = no_name_there (take k edits) (name_of_edit edit) named; fit = fit }
      by false (Some why) named fit e = cc

  -- the fault of a place that is reached
  fault_there : (k : ℕ) (edit : Edit) (fault : FormFault) → IsReached nall edits guards (k + 1) edit → slice_get edits k ≡ Some edit
      → fault_at nall edits k ≡ Some fault → ShowsFault nall edits guards fault
  fault_there k edit fault reached there is =
      by (has_edit_of (name_of_edit edit) (take k edits)) (unfitness_of_edit nall edit) refl refl
      (ap (option_and_then (edit_fault nall (take k edits) (k + 1))) (sym there) ∙ is)
    where
      back : k ≡ k + 1 - 1
      back = omega arith

      by : (b : Bool) (o : Option WhyUnfit) → has_edit_of (name_of_edit edit) (take k edits) ≡ b → unfitness_of_edit nall edit ≡ o
          → (if b then Some (Twice (k + 1)) else option_map (λ why. Unfit (k + 1) why) o) ≡ Some fault → ShowsFault nall edits guards fault
      by true o named fit e = subst (ShowsFault nall edits guards) (let same : Twice (k + 1) ≡ fault = cc in same) (record {
        edit = edit;
        reached = reached;
        again = subst (λ j. Contains (map name_of_edit (take j edits)) (name_of_edit edit)) back (name_there (take k edits) (name_of_edit edit) named);
      })
      by false None named fit e = cc
      by false (Some why) named fit e = subst (ShowsFault nall edits guards) (let same : Unfit (k + 1) why ≡ fault = cc in same) (record {
        edit = edit;
        reached = reached;
        new = subst (λ j. ¬ Contains (map name_of_edit (take j edits)) (name_of_edit edit)) back (no_name_there (take k edits) (name_of_edit edit) named);
        unfit = fit;
      })

  first_fault : AreSome edits → length guards ≤ guard_limit → (fault : FormFault) → first_edit_fault nall edits ≡ Some fault
      → ShowsFault nall edits guards fault
  first_fault some few fault is =
      let first = first_place (fault_at nall edits) 0 (length edits) fault is in
      let at = there_is first.place edits first.within in
      fault_there first.place at.0 fault (record {
        some = some;
        guards_bounded = few;
        from_one = omega arith;
        there = (let back : first.place + 1 - 1 ≡ first.place = omega arith in ap (slice_get edits) back) ∙ at.1;
        before = λ earlier other low below there.
            good_there (earlier - 1) other there (ap (fault_at nall edits) (sym (zero-add (earlier - 1)))
            ∙ first.before (earlier - 1) (omega (arith, low, below)));
      }) at.1 (ap (fault_at nall edits) (sym (zero-add first.place)) ∙ first.gives)

  pub fault_told : (fault : FormFault) → form_fault nall edits guards ≡ Some fault → ShowsFault nall edits guards fault
  unfolding form_fault
  fault_told fault is = by_none (length edits == 0) refl is
    where
      later : Option FormFault
      later = if nat_lt guard_limit (length guards) then Some (TooManyGuards (length guards)) else first_edit_fault nall edits

      by_guards : AreSome edits → (b : Bool) → nat_lt guard_limit (length guards) ≡ b
          → (if b then Some (TooManyGuards (length guards)) else first_edit_fault nall edits) ≡ Some fault → ShowsFault nall edits guards fault
      by_guards some true over e = subst (ShowsFault nall edits guards) (let same : TooManyGuards (length guards) ≡ fault = cc in same)
          (record { some = some; count_is = refl; over = ltb-true guard_limit (length guards) over })
      by_guards some false few e = first_fault some (ltb-false guard_limit (length guards) few) fault e

      by_edits : 0 < length edits → (b : Bool) → nat_lt edit_limit (length edits) ≡ b
          → (if b then Some (TooMany (length edits)) else later) ≡ Some fault → ShowsFault nall edits guards fault
      by_edits some true over e = subst (ShowsFault nall edits guards) (let same : TooMany (length edits) ≡ fault = cc in same)
          (refl, ltb-true edit_limit (length edits) over)
      by_edits some false few e =
          by_guards (record { some = some; bounded = ltb-false edit_limit (length edits) few }) (nat_lt guard_limit (length guards)) refl e

      by_none : (b : Bool) → (length edits == 0) ≡ b
          → (if b then Some Empty else (if nat_lt edit_limit (length edits) then Some (TooMany (length edits)) else later)) ≡ Some fault
          → ShowsFault nall edits guards fault
      by_none true none e = subst (ShowsFault nall edits guards) (let same : Empty ≡ fault = cc in same) (eqb-true (length edits) 0 none)
      by_none false some e = by_edits (let no = eqb-false (length edits) 0 some in omega (arith, no)) (nat_lt edit_limit (length edits)) refl e
