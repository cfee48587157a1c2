use Rattle.std.proofs.Common.{◌≡◌, Equal, subst, sym, ap, ◌∙◌}
use Rattle.std.specs.Ordering.{ordering_then}
use Rattle.std.specs.declared.cmp.Ordering.{Ordering}
use Rattle.cell_spec.specs.Ascending.{ascending}
use Rattle.cell_spec.specs.declared.key.Key.{Key}
use Rattle.cell_spec.specs.declared.key.Subject.{Subject}
use Rattle.cell_spec.specs.Names.{key_order, subject_order}
use Rattle.cell_spec.proofs.Ascending.{any-ascending, sorted-ascending}
use Rattle.row_spec.specs.Rows.{IsAscending}
use Rattle.row_spec.proofs.Pairs.{exact_rows, has-rows, row_order, rows_ascend, total_rows}
use Rattle.depend_map.specs.Readers.{has_pair, reader_order, same_pair}
use Rattle.depend_map.proofs.Pairs.{exact_readers, total_readers}
use Rattle.depend_map.proofs.set.set_of.Goals as goal

-- a row of the set: a key, a subject that reads it, and no value
abbrev Row : Type 0
Row = (Key × Subject) × Unit {0}

pub distinct_by_keys-requires : goal.distinct_by_keys-requires
distinct_by_keys-requires c = record {
  exact = subst (λ (order : Row → Row → Ordering). (a b : Row) → order a b ≡ Equal → a ≡ b)
      (λ i a b. sym (λ j. ordering_then (ordering_then (c.orders_are_by_parts.ensures.keys a.0.0 b.0.0 j)
      (c.orders_are_by_parts.ensures.subjects a.0.1 b.0.1 j)) Equal) i)
      (exact_rows reader_order exact_readers);
}

pub from_ascending-requires : goal.from_ascending-requires
from_ascending-requires c =
    let those = subst (λ (order : Row → Row → Ordering). c.in_ok-rows.rows.items ≡ ascending order c.args.rows.items)
    (λ i a b. ordering_then (ordering_then (c.orders_are_by_parts.ensures.keys a.0.0 b.0.0 i) (c.orders_are_by_parts.ensures.subjects a.0.1 b.0.1 i)) Equal)
    c.in_ok-rows.ensures in
    let rises = subst (IsAscending reader_order) (sym those) (rows_ascend reader_order (ascending (row_order reader_order) c.args.rows.items)
    (sorted-ascending (row_order reader_order) (total_rows reader_order total_readers) c.args.rows.items)) in
    subst (λ (order : Key × Subject → Key × Subject → Ordering). IsAscending order c.in_ok-rows.rows.items)
    (λ i a b. sym (λ j. ordering_then (c.orders_are_by_parts.ensures.keys a.0 b.0 j) (c.orders_are_by_parts.ensures.subjects a.1 b.1 j)) i) rises

pub returns : goal.returns
returns c = λ k s.
    let those = subst (λ (order : Row → Row → Ordering). c.in_ok-rows.rows.items ≡ ascending order c.args.rows.items)
    (λ i a b. ordering_then (ordering_then (c.orders_are_by_parts.ensures.keys a.0.0 b.0.0 i) (c.orders_are_by_parts.ensures.subjects a.0.1 b.0.1 i)) Equal)
    c.in_ok-rows.ensures in
    ap (λ rows. has_pair rows k s) (c.in_ok-set.ensures ∙ those)
    ∙ has-rows key_order subject_order (ascending (row_order reader_order) c.args.rows.items) k s
    ∙ any-ascending (row_order reader_order) (exact_rows reader_order exact_readers) (λ row. same_pair row.0.0 row.0.1 k s) c.args.rows.items
