use Rattle.std.proofs.Common.{sym, ap, subst, ◌∙◌}
use Rattle.cell_spec.specs.Lookup.{lookup_identity, lookup_pointers}
use Rattle.cell_spec.specs.Writable.{IsWritable}
use Rattle.record_store.proofs.store.RecordStore.load.Goals as goal

pub invariant_of-result : goal.invariant_of-result
invariant_of-result c = record {
  writable = subst IsWritable (sym c.in_ok-records.ensures) c.requires;
  pointers_are = λ n. c.in_ok-answers.ensures.pointers_are n ∙ ap (λ cell. lookup_pointers cell n) (sym c.in_ok-records.ensures);
  bearers_are = λ l. c.in_ok-answers.ensures.bearers_are l ∙ ap (λ cell. lookup_identity cell l) (sym c.in_ok-records.ensures);
}
