use Rattle.std.proofs.Common.{◌+◌, arith, ap, ◌∙◌}
use Rattle.row_spec.proofs.Joined.{rows_before-all}
use Rattle.shared_table.specs.Pieces.{blocks_of}
use Rattle.shared_table.proofs.Parts.{count_next}
use Rattle.shared_table.proofs.layer.Layer.rows_before.Goals as goal

pub overflow_add-count : goal.overflow_add-count
overflow_add-count g c =
    let next = count_next c.args.self.now c.deref.result.now c.args.place c.loop-entry.entry-index c.loop-entry.count c.entry-item.result
    (c.deref.ensures.value ∙ c.self.view_is) c.loop-entry-test.true c.entry-item.is c.loop-entry.invariant in
    let most = rows_before-all (blocks_of c.args.self.now) (c.loop-entry.entry-index + 1) in
    omega (arith, next, most, c.len-count.ensures, c.len-total.ensures.len, c.len-total.type_inv)

pub loop-entry-preserved : goal.loop-entry-preserved
loop-entry-preserved g c =
    let next = count_next c.args.self.now c.deref.result.now c.args.place c.loop-entry.entry-index c.loop-entry.count c.entry-item.result
    (c.deref.ensures.value ∙ c.self.view_is) c.loop-entry-test.true c.entry-item.is c.loop-entry.invariant in
    ap (λ n. c.loop-entry.count + n) c.len-count.ensures ∙ next
