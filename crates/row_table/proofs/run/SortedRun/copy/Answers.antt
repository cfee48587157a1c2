use Rattle.std.proofs.Common.{arith, refl, take_all}
use Rattle.std.proofs.lemmas.List.{take_more}
use Rattle.std.proofs.lemmas.List.Elements.{AllZip-push}
use Rattle.row_table.proofs.Copies.{IsAscending-copies}
use Rattle.row_table.proofs.run.SortedRun.copy.Goals as goal

-- one more row, its key as it is and a clone of its value
pub loop-key-preserved : goal.loop-key-preserved
loop-key-preserved g c =
    let row = c.loop-key-item.result in
    record {
      copied = rw (take_more c.deref-key-items.result.now c.loop-key.key-index row c.loop-key-test.true, ← c.loop-key-item.is, c.in_ok-push.ensures.items)
          (AllZip-push _ _ _ _ _ c.loop-key.invariant.copied (refl, c.in_ok-clone.ensures.cases));
      room = omega (arith, c.loop-key.invariant.room, c.in_ok-push.ensures.capacity);
    }

pub invariant_of-result : goal.invariant_of-result
invariant_of-result g c =
    IsAscending-copies g.V.Clone.is_clone g.K.Ord.cmp _ _ c.loop-key.invariant.copied
    (rw (take_all c.loop-key.key-index c.deref-key-items.result.now c.loop-key-test.false, c.deref-key-items.ensures.value) c.self.invariant)
