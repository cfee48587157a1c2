use Rattle.std.proofs.Common.{ℕ, Option, refl, subst, sym, ap, ◌∙◌}
use Rattle.std.specs.Prelude.{MatchOption}
use Rattle.std.specs.BTreeMap.{BTreeMap}
use Rattle.std.specs.List.{IsDistinct}
use Rattle.std.specs.List.Sorted.{IsStrictlySortedBy}
use Rattle.cell_spec.specs.declared.key.Subject.{Subject}
use Rattle.cell_spec.specs.Names.{key_order, same_subject}
use Rattle.cell_spec.proofs.Ascending.{holds-ascending, sorted-ascending}
use Rattle.cell_spec.proofs.Orders.{exact_keys, total_keys}
use Rattle.cell_bench.specs.Ready.{ArePlaces, is_in, subjects_of}
use Rattle.cell_bench.proofs.ready.ReadyRows.make.Goals as goal
use Rattle.cell_bench.proofs.ready.ReadyRows.make.Goals.{then-stand_for, else-stand_for+in_ok-places_of}

pub places_of-requires : goal.places_of-requires
places_of-requires c =
    subst (IsStrictlySortedBy key_order) (sym (c.as_slice-else-stand_for.ensures ∙ c.in_ok-ordered.ensures))
    (sorted-ascending key_order total_keys c.args.stale.now)

pub invariant_of-result : goal.invariant_of-result
invariant_of-result c =
    let rows = c.args.rows.now in
    let stale = c.args.stale.now in
    let by_cases : Option (BTreeMap Subject ℕ) → Type 0 = λ places. MatchOption places (IsDistinct same_subject (subjects_of rows)) (ArePlaces stale rows rows) in
    record {
      sorted = subst (IsStrictlySortedBy key_order) (sym c.in_ok-ordered.ensures) (sorted-ascending key_order total_keys stale);
      same = λ k. ap (λ keys. is_in keys k) c.in_ok-ordered.ensures ∙ holds-ascending key_order exact_keys k stale;
      by = elim c.if-stand_for.branch [
        | then-stand_for w ↦
            subst by_cases (sym w.places-is) (subst (IsDistinct same_subject)
            (sym (ap subjects_of (sym c.as_slice.ensures) ∙ w.if-stand_for.ensures refl)) c.requires)
        | else-stand_for+in_ok-places_of w ↦
            subst by_cases (sym w.places-is)
            (w.in_ok-places_of.ensures stale (λ k. ap (λ keys. is_in keys k) (w.as_slice-else-stand_for.ensures ∙ c.in_ok-ordered.ensures)
            ∙ holds-ascending key_order exact_keys k stale))
      ];
    }
