use Rattle.std.proofs.Common.{subst, sym, ap, ◌∙◌}
use Rattle.std.specs.List.{list_any}
use Rattle.std.specs.declared.cmp.Ordering.{Ordering}
use Rattle.cell_spec.specs.declared.key.Key.{Key}
use Rattle.cell_spec.specs.declared.key.Subject.{Subject}
use Rattle.cell_spec.specs.Names.{subject_order}
use Rattle.row_spec.specs.Rows.{IsAscending}
use Rattle.depend_map.specs.Changes.{kept_of}
use Rattle.depend_map.specs.Readers.{is_reader, reader_rows, same_pair}
use Rattle.depend_map.proofs.Changed.{any_pair, kept_ascend}
use Rattle.depend_map.proofs.map.DependMap.from_rows.Goals as goal

pub from_ascending-requires : goal.from_ascending-requires
from_ascending-requires c =
    subst (λ (order : Subject → Subject → Ordering). IsAscending order c.in_ok-shared_rows.field-0.items)
    (λ i a b. sym (c.orders_are_by_parts.ensures.subjects a b) i)
    (subst (IsAscending subject_order) (sym c.in_ok-shared_rows.ensures) (kept_ascend c.args.rows.items c.requires))

pub invariant_of-result : goal.invariant_of-result
invariant_of-result c = record {
  exact = λ k s.
      c.in_ok-readers.ensures k s
      ∙ ap (list_any (λ (row : (Key × Subject) × Unit {0}). same_pair row.0.0 row.0.1 k s)) (c.in_ok-pairs_of.ensures
      ∙ ap (λ rows. reader_rows (kept_of rows)) c.deref.ensures.value)
      ∙ any_pair k s (kept_of c.args.rows.items) (kept_ascend c.args.rows.items c.requires)
      ∙ ap (λ rows. is_reader rows k s) (sym (c.in_ok-reads.ensures ∙ c.in_ok-shared_rows.ensures));
}
