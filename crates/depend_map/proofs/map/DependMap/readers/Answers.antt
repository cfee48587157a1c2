use Rattle.std.proofs.Common.{◌≡◌, drop, subst, ap, ◌∙◌}
use Rattle.std.specs.Ordering.{ordering_then}
use Rattle.std.specs.declared.cmp.Ordering.{Ordering}
use Rattle.cell_spec.specs.declared.key.Key.{Key}
use Rattle.cell_spec.specs.declared.key.Subject.{Subject}
use Rattle.row_spec.specs.Rows.{IsAscending, lower_bound}
use Rattle.finding_laws.specs.Tables.{readers_in}
use Rattle.depend_map.specs.Readers.{subjects_under}
use Rattle.depend_map.proofs.Range.{least, range_is_readers}
use Rattle.depend_map.proofs.map.DependMap.readers.Goals as goal

pub returns : goal.returns
returns c =
    let rows = c.self.inside.reads in
    let pairs = c.self.inside.readers in
    let k = c.args.key in
    let kept = subst (λ (order : Subject → Subject → Ordering). IsAscending order rows)
    (λ i a b. c.orders_are_by_parts.ensures.subjects a b i) c.len-kept.ensures.ascending in
    let both = subst (λ (order : Key × Subject → Key × Subject → Ordering). IsAscending order pairs ×
    (c.rows_from.result ≡ drop (lower_bound order pairs (k, least)) pairs))
    (λ i a b. ordering_then (c.orders_are_by_parts.ensures.keys a.0 b.0 i) (c.orders_are_by_parts.ensures.subjects a.1 b.1 i))
    (c.len-pairs.ensures.ascending, c.rows_from.ensures) in
    c.from.ensures ∙ ap (subjects_under k) both.1 ∙ range_is_readers rows pairs k kept both.0 c.self.invariant
    ∙ ap (λ those. readers_in those k) c.self.view_is
