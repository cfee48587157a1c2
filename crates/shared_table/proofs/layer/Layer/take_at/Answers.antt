use Rattle.std.proofs.Common.{◌<◌, length, arith, ap}
use Rattle.row_spec.proofs.Runs.{nil_from_length}
use Rattle.row_spec.proofs.Joined.{remove-set}
use Rattle.shared_table.proofs.Parts.{length-blocks, part_rows, take_rows, take_parts, gone_rows, gone_parts, length-block, length-changed, length-gone}
use Rattle.shared_table.proofs.Parts.{length-less}
use Rattle.shared_table.proofs.layer.Layer.take_at.Goals as goal

pub overflow_sub-self : goal.overflow_sub-self
overflow_sub-self g c =
    let found = rw (← c.self.view_is) at c.requires in
    let old = part_rows c.self.inside.entries.items c.args.place c.index_mut-entry.result.now
    (omega (arith, found.in_range, length-blocks c.self.inside.entries.items)) c.index_mut-entry.ensures.value in
    omega (arith, length-block c.self.inside.entries.items c.args.place found.in_range, c.len-before.ensures, ap length old, c.self.invariant.1)

pub overflow_add-self : goal.overflow_add-self
overflow_add-self g c =
    let found = rw (← c.self.view_is) at c.requires in
    let old = part_rows c.self.inside.entries.items c.args.place c.index_mut-entry.result.now
    (omega (arith, found.in_range, length-blocks c.self.inside.entries.items)) c.index_mut-entry.ensures.value in
    let fewer = length-less g.K.Ord.cmp g.met.K.Ord.total c.index_mut-entry.result.now.1 c.args.key.now in
    omega (
      arith,
      length-block c.self.inside.entries.items c.args.place found.in_range,
      fewer,
      ap length c.in_ok-take.ensures.ok,
      c.len-before.ensures,
      c.len-left.ensures,
      ap length old,
      c.self.invariant.1,
    )

-- rows are left
pub invariant_of-self-else-left-eq0 : goal.invariant_of-self-else-left-eq0
invariant_of-self-else-left-eq0 g c =
    let found = rw (← c.self.view_is) at c.requires in
    let old = part_rows c.self.inside.entries.items c.args.place c.index_mut-entry.result.now
    (omega (arith, found.in_range, length-blocks c.self.inside.entries.items)) c.index_mut-entry.ensures.value in
    let counted = length-changed c.self.inside.entries.items c.args.place c.take.new.self found.in_range in
    let most = length-block c.self.inside.entries.items c.args.place found.in_range in
    let some : 0 < length c.take.new.self.1 = omega (arith, c.if-left-eq0.false, c.len-left.ensures) in (
      take_parts g.K.Ord.cmp c.self.inside.entries.items c.args.key.now c.args.place found c.take.new.self.0 c.take.new.self.1 c.self.invariant.0
          (c.take.ensures.begins some) (rw (← old) c.in_ok-take.ensures.ok),
      omega (arith, counted, most, c.len-before.ensures, c.len-left.ensures, ap length old, c.self.invariant.1),
    )

pub returns-else-left-eq0-clause-ok : goal.returns-else-left-eq0-clause-ok
returns-else-left-eq0-clause-ok g c =
    let found = rw (← c.self.view_is) at c.requires in
    let old = part_rows c.self.inside.entries.items c.args.place c.index_mut-entry.result.now
    (omega (arith, found.in_range, length-blocks c.self.inside.entries.items)) c.index_mut-entry.ensures.value in
    let some : 0 < length c.take.new.self.1 = omega (arith, c.if-left-eq0.false, c.len-left.ensures) in
    rw (← c.self.view_is) (take_rows g.K.Ord.cmp c.self.inside.entries.items c.args.key.now c.args.place found c.take.new.self.0
    c.take.new.self.1 (c.take.ensures.begins some) (rw (← old) c.in_ok-take.ensures.ok))

-- none is left
pub invariant_of-self-then-left-eq0 : goal.invariant_of-self-then-left-eq0
invariant_of-self-then-left-eq0 g c =
    let found = rw (← c.self.view_is) at c.requires in
    let old = part_rows c.self.inside.entries.items c.args.place c.index_mut-entry.result.now
    (omega (arith, found.in_range, length-blocks c.self.inside.entries.items)) c.index_mut-entry.ensures.value in
    let none = nil_from_length c.take.new.self.1 (omega (arith, c.if-left-eq0.true, c.len-left.ensures)) in
    let counted = length-gone c.self.inside.entries.items c.args.place found.in_range in
    rw (c.remove-gone.ensures.items, remove-set c.self.inside.entries.items c.args.place c.take.new.self) (
      gone_parts g.K.Ord.cmp c.self.inside.entries.items c.args.key.now c.args.place found c.take.new.self.0 c.take.new.self.1
          c.self.invariant.0 none (rw (← old) c.in_ok-take.ensures.ok),
      omega (arith, counted, c.if-left-eq0.true, c.len-before.ensures, ap length old, c.self.invariant.1),
    )

pub returns-then-left-eq0-clause-ok : goal.returns-then-left-eq0-clause-ok
returns-then-left-eq0-clause-ok g c =
    let found = rw (← c.self.view_is) at c.requires in
    let old = part_rows c.self.inside.entries.items c.args.place c.index_mut-entry.result.now
    (omega (arith, found.in_range, length-blocks c.self.inside.entries.items)) c.index_mut-entry.ensures.value in
    let none = nil_from_length c.take.new.self.1 (omega (arith, c.if-left-eq0.true, c.len-left.ensures)) in
    rw (← c.self.view_is, c.remove-gone.ensures.items, remove-set c.self.inside.entries.items c.args.place c.take.new.self)
    (gone_rows g.K.Ord.cmp c.self.inside.entries.items c.args.key.now c.args.place found c.take.new.self.0 c.take.new.self.1 none
    (rw (← old) c.in_ok-take.ensures.ok))
