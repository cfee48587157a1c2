use Rattle.std.proofs.Common.{◌≡◌, None, Option, Some, List, subst, sym, ap, ◌∙◌, true≢false}
use Rattle.std.specs.declared.cmp.Ordering.{Ordering}
use Rattle.std.proofs.lemmas.Option.{none-some, same_Some}
use Rattle.cell_spec.specs.declared.key.Key.{Key}
use Rattle.cell_spec.specs.declared.key.Subject.{Subject}
use Rattle.cell_spec.proofs.Orders.{exact_keys}
use Rattle.row_spec.specs.Rows.{value_of}
use Rattle.depend_map.proofs.map.has_row.Goals as goal

pub are_same-requires : goal.are_same-requires
are_same-requires c = record { exact = λ a b e. exact_keys a b (sym (c.orders_are_by_parts.ensures.keys a b) ∙ e) }

pub returns-in-Some : goal.returns-in-Some
returns-in-Some c =
    let keys : List Key = c.args.keys.now in
    let old : List Key = c.in-Some.old.now in
    let has = subst (λ (order : Subject → Subject → Ordering). Some old ≡ value_of order c.args.reads.now c.args.subject.now)
    (λ i a b. c.orders_are_by_parts.ensures.subjects a b i) c.in-Some.ensures in
    let first = c.as_slice.ensures ∙ c.deref.ensures in (
      λ same. sym has ∙ ap Some (sym first ∙ c.are_same.ensures.0 same ∙ c.as_slice-in-Some.ensures),
      λ is. c.are_same.ensures.1
          (first ∙ same_Some old keys (has ∙ is) ∙ sym c.as_slice-in-Some.ensures),
    )

pub returns-in-None : goal.returns-in-None
returns-in-None c =
    let keys : List Key = c.args.keys.now in
    let none : Option (List Key) = None in
    let has = subst (λ (order : Subject → Subject → Ordering). none ≡ value_of order c.args.reads.now c.args.subject.now)
    (λ i a b. c.orders_are_by_parts.ensures.subjects a b i) c.in-None.ensures in
    (λ e. absurd (true≢false (sym e)), λ is. absurd (none-some keys (has ∙ is)))
