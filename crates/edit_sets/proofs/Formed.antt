-- A list of edits without a fault is formed.
use Rattle.std.proofs.Common.{◌≡◌, ℕ, ◌+◌, ◌<◌, ◌==◌, Bool, true, false, List, Option, Some, None, length, take, get_or, refl, sym, subst, ◌∙◌, ap, arith}
use Rattle.std.proofs.Common.{nat_lt, option_map, option_and_then, if◌then◌else◌, zero-add}
use Rattle.std.specs.List.{list_any}
use Rattle.std.specs.Option.{option_or}
use Rattle.std.specs.Prelude.{Result, Ok, Err, MatchResult}
use Rattle.std.specs.Result.{IsErrAnd}
use Rattle.std.proofs.lemmas.Bool.{eqb-false, ltb-false}
use Rattle.std.proofs.lemmas.List.{get_or-take, length-take-le}
use Rattle.std.proofs.lemmas.Option.{slice_get-get_or}
use Rattle.std.proofs.lemmas.List.Folds.{list_any_at}
use Rattle.cell_spec.specs.Edits.{name_of_edit}
use Rattle.cell_spec.specs.Names.{same_name}
use Rattle.s57_types.specs.declared.name.RecName.{RecName}
use Rattle.cell_spec.specs.declared.edit.Edit.{Edit}
use Rattle.edit_sets.specs.declared.fault.FormFault.{FormFault}
use Rattle.edit_sets.specs.declared.fault.FormFault.TheVariants.{Empty, TooMany, TooManyGuards, Twice, Unfit}
use Rattle.edit_sets.specs.Counts.{count_fault}
use Rattle.edit_sets.specs.FormFault.{edit_limit, guard_limit, form_fault, first_edit_fault, fault_at, edit_fault, unfitness_of_edit, has_edit_of}
use Rattle.edit_sets.specs.FormFault.{GuardedEdits, IsFormed, IsFormRefusal, IsSetOf}
use Rattle.edit_sets.specs.Places.{IsEditRefusal}
use Rattle.edit_sets.specs.declared.fault.FormRefusal.{FormRefusal}
use Rattle.edit_sets.specs.declared.fault.FormRefusal.TheVariants.{Fault, NoMemory}
use Rattle.edit_sets.proofs.FirstFaults.{each_none}

-- a choice that is none takes its second way
record IsSecond {X : Type 0} (b : Bool) (rest : Option X) : Type 0 where
  test : b ≡ false
  none : rest ≡ None

second : {X : Type 0} (b : Bool) (x : X) (rest : Option X) → (if b then Some x else rest) ≡ None → IsSecond b rest
second true x rest h = absurd (cc)
second false x rest h = record { test = refl; none = h }

map_none : {X Y : Type 0} (f : X → Y) (o : Option X) → option_map f o ≡ None → o ≡ None
map_none f None h = refl
map_none f (Some x) h = absurd (cc)

none_of : {X : Type 0} (p : X → Bool) (xs : List X) (k : ℕ) (d : X) → list_any p xs ≡ false → k < length xs → (b : Bool) → p (get_or xs k d) ≡ b → b ≡ false
none_of p xs k d none within true here = absurd (let some = list_any_at p xs k d within here in cc)
none_of p xs k d none within false here = refl

record IsGoodPlace (nall : ℕ) (edits : List Edit) (k : ℕ) (edit : Edit) : Type 0 where
  new_name : has_edit_of (name_of_edit edit) (take k edits) ≡ false
  fit : unfitness_of_edit nall edit ≡ None

good_place : (nall : ℕ) (edits : List Edit) → first_edit_fault nall edits ≡ None → (k : ℕ) (d : Edit) → k < length edits
    → IsGoodPlace nall edits k (get_or edits k d)
good_place nall edits none k d within =
    let edit = get_or edits k d in
    let at_k : fault_at nall edits k ≡ None = ap (fault_at nall edits) (sym (zero-add k)) ∙ each_none (fault_at nall edits) 0 (length edits) none k within in
    let here : edit_fault nall (take k edits) (k + 1) edit ≡ None =
    ap (option_and_then (edit_fault nall (take k edits) (k + 1))) (sym (slice_get-get_or edits k d within)) ∙ at_k in
    let by_name = second (has_edit_of (name_of_edit edit) (take k edits)) (Twice (k + 1))
    (option_map (λ why. Unfit (k + 1) why) (unfitness_of_edit nall edit)) here in
    record { new_name = by_name.test; fit = map_none (λ why. Unfit (k + 1) why) (unfitness_of_edit nall edit) by_name.none }

pub formed : (nall : ℕ) (edits : List Edit) (guards : List RecName) → form_fault nall edits guards ≡ None → IsFormed nall edits guards
unfolding form_fault
formed nall edits guards h =
    let many_guards = if nat_lt 4096 (length guards) then Some (TooManyGuards (length guards)) else first_edit_fault nall edits in
    let some = second (length edits == 0) Empty (if nat_lt 4096 (length edits) then Some (TooMany (length edits)) else many_guards) h in
    let bounded = second (nat_lt 4096 (length edits)) (TooMany (length edits)) many_guards some.none in
    let guards_bounded = second (nat_lt 4096 (length guards)) (TooManyGuards (length guards)) (first_edit_fault nall edits) bounded.none in
    record {
      some = let not_none = eqb-false (length edits) 0 some.test in omega (arith, not_none);
      bounded = ltb-false 4096 (length edits) bounded.test;
      guards_bounded = ltb-false 4096 (length guards) guards_bounded.test;
      distinct = λ i j d before within.
          let earlier = take j edits in
          let name = name_of_edit (get_or edits j d) in
          ap (λ e. same_name (name_of_edit e) name) (sym (get_or-take j edits i d before))
          ∙ none_of (λ e. same_name (name_of_edit e) name) earlier i d (good_place nall edits guards_bounded.none j d within).new_name
          (omega (arith, length-take-le j edits (omega arith))) _ refl;
      fit = λ k d within. (good_place nall edits guards_bounded.none k d within).fit;
    }

-- the fault of the numbers goes before that of an edit
pub counted_first : (nall : ℕ) (edits : List Edit) (guards : List RecName) → form_fault nall edits guards ≡ option_or
    (count_fault (length edits) (length guards)) (first_edit_fault nall edits)
unfolding form_fault
counted_first nall edits guards = by (length edits == 0) (nat_lt edit_limit (length edits)) (nat_lt guard_limit (length guards))
  where
    first : Option FormFault
    first = first_edit_fault nall edits

    by : (none many much : Bool) → (if none then Some Empty else
        (if many then Some (TooMany (length edits)) else (if much then Some (TooManyGuards (length guards)) else first)))
        ≡ option_or (if none then Some Empty else (if many then Some (TooMany (length edits)) else
        (if much then Some (TooManyGuards (length guards)) else None))) first
    by true many much = refl
    by false true much = refl
    by false false true = refl
    by false false false = refl

-- what is wrong with the edit at a place is what is wrong there
pub edit_fault_there : (nall : ℕ) (edits : List Edit) (k : ℕ) (edit : Edit) (earlier : List Edit) (found : Option FormFault)
    → k < length edits → edit ≡ get_or edits k edit → earlier ≡ take k edits
    → found ≡ edit_fault nall earlier (k + 1) edit → fault_at nall edits k ≡ found
edit_fault_there nall edits k edit earlier found within here before is =
    ap (option_and_then (edit_fault nall (take k edits) (k + 1))) (slice_get-get_or edits k edit within ∙ ap Some (sym here))
    ∙ ap (λ es. edit_fault nall es (k + 1) edit) (sym before) ∙ sym is

-- a refusal of the edits is one of the whole, where the numbers are right
whole_refusal : (nall : ℕ) (edits : List Edit) (guards : List RecName) (refusal : FormRefusal)
    → count_fault (length edits) (length guards) ≡ None → IsEditRefusal nall edits refusal → IsFormRefusal nall edits guards refusal
whole_refusal nall edits guards (Fault fault) counted is = counted_first nall edits guards
    ∙ ap (λ first. option_or first (first_edit_fault nall edits)) counted ∙ is
whole_refusal nall edits guards NoMemory counted is = tt

pub refused : (nall : ℕ) (edits : List Edit) (guards : List RecName) (refusal : FormRefusal) (result : Result GuardedEdits FormRefusal)
    → count_fault (length edits) (length guards) ≡ None → IsEditRefusal nall edits refusal
    → IsErrAnd result (λ told. told ≡ refusal) → MatchResult result (IsSetOf nall edits guards) (IsFormRefusal nall edits guards)
refused nall edits guards refusal (Ok set) counted is told = absurd told
refused nall edits guards refusal (Err other) counted is told =
    subst (IsFormRefusal nall edits guards) (sym told) (whole_refusal nall edits guards refusal counted is)

pub no_fault : (nall : ℕ) (edits : List Edit) (guards : List RecName) → count_fault (length edits) (length guards) ≡ None
    → first_edit_fault nall edits ≡ None → form_fault nall edits guards ≡ None
no_fault nall edits guards counted none = counted_first nall edits guards ∙ ap (λ first. option_or first (first_edit_fault nall edits)) counted ∙ none
