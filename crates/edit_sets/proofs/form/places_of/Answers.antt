use Rattle.std.proofs.Common.{◌≡◌, ℕ, ◌+◌, ◌++◌, [], ◌∷◌, None, Option, length, take, take_all, below_more, refl, sym, ap, subst, ◌∙◌, arith}
use Rattle.std.proofs.Common.{zero-add}
use Rattle.std.proofs.lemmas.List.{length-take-le, take_more}
use Rattle.edit_sets.specs.FormFault.{edit_fault, fault_at}
use Rattle.edit_sets.specs.Places.{ArePlaces}
use Rattle.edit_sets.proofs.FirstFaults.{first_at, none_at}
use Rattle.edit_sets.proofs.Formed.{edit_fault_there}
use Rattle.edit_sets.proofs.NotedPlaces.{names_rise, own_name}
use Rattle.edit_sets.proofs.form.places_of.Goals as goal

pub edit_fault-requires-clause-rise : goal.edit_fault-requires-clause-rise
edit_fault-requires-clause-rise c = names_rise c.args.edits.now c.loop-k.places.names c.loop-k.invariant.0

pub edit_fault-requires-clause-among : goal.edit_fault-requires-clause-among
edit_fault-requires-clause-among c = own_name c.args.edits.now c.loop-k.places.names c.loop-k.k _ c.loop-k.invariant.0 c.loop-k-test.true c.index-edits-k.is

pub loop-k-preserved : goal.loop-k-preserved
loop-k-preserved c =
    let edits = c.args.edits.now in
    let k = c.loop-k.k in
    let counted = length-take-le k edits (omega (arith, c.loop-k-test.true)) in
    let noted = c.in_default.ensures.noted (take k edits) c.loop-k.invariant.1 counted in
    let more : take k edits ++ (c.index-edits-k.result ∷ []) ≡ take (k + 1) edits =
    ap (λ edit. take k edits ++ (edit ∷ [])) c.index-edits-k.is ∙ sym (take_more edits k c.index-edits-k.result c.loop-k-test.true) in
    let none : fault_at c.args.nall edits k ≡ None =
    edit_fault_there c.args.nall edits k c.index-edits-k.result (take k edits) c.edit_fault.result c.loop-k-test.true c.index-edits-k.is refl
    (c.edit_fault.ensures.fault (take k edits) c.loop-k.invariant.1 counted) ∙ c.in_default.is in (
      c.edit_fault.ensures.names ∙ c.loop-k.invariant.0,
      subst (λ earlier. ArePlaces earlier c.edit_fault.new.places.names c.edit_fault.new.places.places.items) more noted,
      below_more _ _ c.loop-k.invariant.2 none,
    )

pub returns-in-Some : goal.returns-in-Some
returns-in-Some c =
    let edits = c.args.edits.now in
    let k = c.loop-k.k in
    let counted = length-take-le k edits (omega (arith, c.loop-k-test.true)) in
    let faults : ℕ → Option _ = fault_at c.args.nall edits in
    let here = edit_fault_there c.args.nall edits k c.index-edits-k.result (take k edits) c.edit_fault.result c.loop-k-test.true c.index-edits-k.is refl
    (c.edit_fault.ensures.fault (take k edits) c.loop-k.invariant.1 counted) ∙ c.in-Some.is in
    first_at faults 0 (length edits) k c.in-Some.fault c.loop-k-test.true (λ j below. ap faults (zero-add j) ∙ c.loop-k.invariant.2 j below)
    (ap faults (zero-add k) ∙ here)

pub returns : goal.returns
returns c =
    let edits = c.args.edits.now in
    let past = c.loop-k-test.false in
    let faults : ℕ → Option _ = fault_at c.args.nall edits in
    record {
      none = none_at faults 0 (length edits) (λ j below. ap faults (zero-add j) ∙ c.loop-k.invariant.2 j (omega (arith, past, below)));
      places_are = record {
        names_are = c.loop-k.invariant.0;
        places_are = subst (λ earlier. ArePlaces earlier c.loop-k.places.names c.loop-k.places.places.items)
            (take_all c.loop-k.k edits (omega (arith, past))) c.loop-k.invariant.1;
      };
    }
