use Rattle.std.proofs.Common.{◌≡◌, OnOk, subst, ap, ◌∙◌}
use Rattle.std.proofs.lemmas.Result.{on_ok_weaker}
use Rattle.std.specs.Ordering.{ordering_then}
use Rattle.std.specs.declared.cmp.Ordering.{Ordering}
use Rattle.cell_spec.specs.declared.key.Key.{Key}
use Rattle.cell_spec.specs.declared.key.Subject.{Subject}
use Rattle.cell_spec.specs.Names.{key_order, subject_order}
use Rattle.cell_spec.proofs.Orders.{total_keys}
use Rattle.cell_spec.proofs.SubjectOrder.{total_subjects}
use Rattle.row_spec.specs.Rows.{IsAscending, without_key}
use Rattle.row_spec.proofs.Pairs.{has-take}
use Rattle.depend_map.specs.Readers.{has_pair}
use Rattle.depend_map.proofs.set.take.Goals as goal

pub returns : goal.returns
returns c =
    let both = subst (λ (order : Key × Subject → Key × Subject → Ordering). OnOk c.take.result
    (c.take.new.self ≡ without_key order c.args.readers.now (c.args.key, c.args.subject)) × IsAscending order c.args.readers.now)
    (λ i a b. ordering_then (c.orders_are_by_parts.ensures.keys a.0 b.0 i) (c.orders_are_by_parts.ensures.subjects a.1 b.1 i))
    (c.take.ensures.ok, c.len-count.ensures.ascending) in
    on_ok_weaker c.take.result (λ is k s. ap (λ pairs. has_pair pairs k s) is ∙
    has-take key_order subject_order total_keys total_subjects c.args.readers.now c.args.key c.args.subject k s both.1) both.0
