use Rattle.std.proofs.Common.{arith, ap, ◌∙◌, ◌≡◌, ◌<◌, ◌+◌, length, get_or, set, length-take, length-drop, Some, add-one, suc}
use Rattle.std.proofs.lemmas.Grind.{get_or_default_zero}
use Rattle.std.proofs.lemmas.List.Elements.{All-pop}
use Rattle.row_spec.specs.Blocks.{rows_of, block_at, IsEmptyRun}
use Rattle.row_spec.proofs.Joined.{rows_before-all, rows_before-suc, insert-set}
use Rattle.row_table.proofs.Starts.{starts_halved}
use Rattle.row_spec.proofs.Runs.{block_at-rows_of, filled_at, filled_set, filled_insert, rows_of-set, rows_of-insert}
use Rattle.row_table.proofs.blocks.Blocks.halve.Goals as goal

-- the upper half begins before all rows end
pub overflow_add-start : goal.overflow_add-start
overflow_add-start g c =
    let in_blocks : c.args.place < length (rows_of c.self.inside.runs.items) = rw (← c.self.view_is) at c.requires.place in
    let full : length (block_at (rows_of c.self.inside.runs.items) c.args.place) ≡ 256 = rw (← c.self.view_is) at c.requires.full in
    let at = block_at-rows_of c.self.inside.runs.items c.args.place in_blocks c.index_mut.result.now c.index_mut.ensures.value in
    let start : c.index.result.now ≡ get_or c.self.inside.starts.items c.args.place 0 =
    c.index.ensures ∙ get_or_default_zero c.self.inside.starts.items c.args.place c.index.result.now
    (omega (arith, c.self.invariant.2.count, in_blocks)) in
    omega (
      arith,
      start,
      full,
      c.self.invariant.2.start c.args.place in_blocks,
      rows_before-suc (rows_of c.self.inside.runs.items) c.args.place in_blocks,
      rows_before-all (rows_of c.self.inside.runs.items) (suc c.args.place),
      c.self.invariant.2.fits,
    )

pub invariant_of-self : goal.invariant_of-self
invariant_of-self g c =
    let in_blocks : c.args.place < length (rows_of c.self.inside.runs.items) = rw (← c.self.view_is) at c.requires.place in
    let full : length (block_at (rows_of c.self.inside.runs.items) c.args.place) ≡ 256 = rw (← c.self.view_is) at c.requires.full in
    let at = block_at-rows_of c.self.inside.runs.items c.args.place in_blocks c.index_mut.result.now c.index_mut.ensures.value in
    let was = filled_at c.self.inside.runs.items c.args.place in_blocks c.index_mut.result.now c.index_mut.ensures.value c.self.invariant.0 in
    let free = All-pop IsEmptyRun _ _ (Some c.take_last-upper.result) c.take_last-upper.ensures.items c.self.invariant.1 in
    let start : c.index.result.now ≡ get_or c.self.inside.starts.items c.args.place 0 =
    c.index.ensures ∙ get_or_default_zero c.self.inside.starts.items c.args.place c.index.result.now
    (omega (arith, c.self.invariant.2.count, in_blocks)) in
    let len : length c.index_mut.result.now.rows ≡ 256 = omega (arith, full, ap length at) in
    let lower_len : length c.split.new.self.rows ≡ 128 = omega (arith, ap length c.split.ensures.rows, length-take 128 c.index_mut.result.now.rows, len) in
    let upper_len : length c.split.new.upper.rows ≡ 128 = omega (arith, ap length c.split.ensures.upper, length-drop 128 c.index_mut.result.now.rows, len) in (
      rw (c.insert_within.ensures.items) (filled_insert (set c.self.inside.runs.items c.args.place c.split.new.self)
          (c.args.place + 1) c.split.new.upper (filled_set _ _ _ c.self.invariant.0 (omega (arith, lower_len)) (omega (arith, lower_len))
          (omega (arith, was.room, c.split.ensures.room))) (omega (arith, upper_len)) (omega (arith, upper_len))
          (omega (arith, free.1.room, c.split.ensures.upper_room))),
      free.0,
      rw (
        c.insert_within.ensures.items,
        rows_of-insert (set c.self.inside.runs.items c.args.place c.split.new.self)
            (c.args.place + 1) c.split.new.upper,
        rows_of-set c.self.inside.runs.items c.args.place c.split.new.self,
        c.split.ensures.rows,
        c.split.ensures.upper,
        ← at,
        add-one,
        insert-set,
        c.insert_within-2.ensures.items,
        start,
      )
          (starts_halved _ c.self.inside.starts.items c.self.inside.starts.items _ c.self.invariant.2 in_blocks full),
      (
        omega (arith, c.insert_within.ensures.len, c.insert_within.ensures.capacity, c.take_last-upper.ensures.len, c.self.invariant.3.0),
        omega (arith, c.insert_within.ensures.len, c.insert_within-2.ensures.capacity, c.take_last-upper.ensures.len, c.self.invariant.3.1),
        omega (arith, c.insert_within.ensures.len, c.take_last-upper.ensures.capacity, c.take_last-upper.ensures.len, c.self.invariant.3.2),
      ),
    )

pub returns-clause-blocks : goal.returns-clause-blocks
returns-clause-blocks g c =
    let in_blocks : c.args.place < length (rows_of c.self.inside.runs.items) = rw (← c.self.view_is) at c.requires.place in
    let at = block_at-rows_of c.self.inside.runs.items c.args.place in_blocks c.index_mut.result.now c.index_mut.ensures.value in
    rw (
      c.insert_within.ensures.items,
      rows_of-insert (set c.self.inside.runs.items c.args.place c.split.new.self)
          (c.args.place + 1) c.split.new.upper,
      rows_of-set c.self.inside.runs.items c.args.place c.split.new.self,
      ← c.self.view_is,
      c.split.ensures.rows,
      c.split.ensures.upper,
      ← at,
      add-one,
    ) (insert-set (rows_of c.self.inside.runs.items) c.args.place _ _ in_blocks)
