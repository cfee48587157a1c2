use Rattle.std.proofs.Common.{◌≡◌, subst, sym}
use Rattle.std.specs.declared.cmp.Ordering.{Ordering}
use Rattle.cell_spec.specs.declared.key.Subject.{Subject}
use Rattle.cell_spec.specs.Names.{subject_order}
use Rattle.row_spec.specs.Rows.{IsAscending, with_row}
use Rattle.depend_map.proofs.Changed.{with_same}
use Rattle.depend_map.proofs.map.DependMap.keeps.Goals as goal

pub returns : goal.returns
returns c = λ has.
    let rows = c.self.inside.reads in
    let ascending = subst (λ (order : Subject → Subject → Ordering). IsAscending order rows)
    (λ i a b. c.orders_are_by_parts.ensures.subjects a b i) c.len-count.ensures.ascending in
    subst (λ those. those ≡ with_row subject_order those c.args.subject.now c.args.keys.now) c.self.view_is
    (sym (with_same rows c.args.subject.now c.args.keys.now ascending (c.has_row.ensures.0 has)))
