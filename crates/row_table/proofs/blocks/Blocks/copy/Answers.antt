use Rattle.std.proofs.Common.{arith, ap, take_all, length}
use Rattle.std.proofs.lemmas.List.{length-map}
use Rattle.std.proofs.lemmas.List.Elements.{all_zip_more, same_from_all_zip, length_all_zip, All-nil}
use Rattle.row_spec.specs.Blocks.{AreRunCopies, IsEmptyRun}
use Rattle.row_table.proofs.Copies.{joined-copies, filled-copies, starts-copies}
use Rattle.row_table.proofs.blocks.Blocks.copy.Goals as goal

pub loop-run-preserved : goal.loop-run-preserved
loop-run-preserved g c =
    rw (c.in_ok-push.ensures.items) (all_zip_more (AreRunCopies g.V.Clone.is_clone) c.deref-run-items.result.now c.loop-run.runs.items
    c.loop-run.run-index c.run-item.result _ c.loop-run-test.true c.run-item.is c.loop-run.invariant
    (record { rows = c.in_ok-copy.ensures.rows; room = c.in_ok-copy.ensures.room }))

pub invariant_of-result : goal.invariant_of-result
invariant_of-result g c =
    let copied = rw (
      take_all c.loop-run.run-index c.deref-run-items.result.now c.loop-run-test.false,
      c.deref-run-items.ensures.value,
    ) at c.loop-run.invariant in
    let count = length_all_zip _ _ _ copied in
    let len = c.in_ok-to_vec.ensures.len in (
      filled-copies g.V.Clone.is_clone _ _ copied c.self.invariant.0,
      rw (c.in_ok-with_capacity.ensures.items) (All-nil IsEmptyRun),
      rw (same_from_all_zip _ _ _ c.in_ok-to_vec.ensures.ok (λ x y same. same), c.as_slice.ensures.value)
          (starts-copies g.V.Clone.is_clone _ _ _ copied c.self.invariant.2),
      (
        omega (arith, c.in_ok-with_capacity.ensures.len),
        omega (
          arith,
          count,
          len,
          ap length c.as_slice.ensures.value,
          c.self.invariant.2.count,
          length-map c.self.inside.runs.items (λ run. run.rows),
          c.in_ok-with_capacity.ensures.len,
        ),
        omega (arith, count, c.in_ok-with_capacity.ensures.len, c.in_ok-with_capacity.ensures.capacity, c.len.ensures),
      ),
    )

pub returns : goal.returns
returns g c =
    let copied = rw (
      take_all c.loop-run.run-index c.deref-run-items.result.now c.loop-run-test.false,
      c.deref-run-items.ensures.value,
    ) at c.loop-run.invariant in
    rw (← c.self.view_is) (joined-copies g.V.Clone.is_clone _ _ copied)
