use Rattle.std.proofs.Common.{length, arith, ap}
use Rattle.shared_table.proofs.Parts.{length-blocks, part_rows, put_rows, put_parts, put_fits, length-block, length-changed}
use Rattle.shared_table.proofs.layer.Layer.put_at.Goals as goal

pub overflow_sub-self : goal.overflow_sub-self
overflow_sub-self g c =
    let found = rw (← c.self.view_is) at c.requires.block in
    let old = part_rows c.self.inside.entries.items c.args.place c.index_mut-entry.result.now
    (omega (arith, found.in_range, length-blocks c.self.inside.entries.items)) c.index_mut-entry.ensures.value in
    omega (arith, length-block c.self.inside.entries.items c.args.place found.in_range, c.len-before.ensures, ap length old, c.self.invariant.1)

pub overflow_add-self : goal.overflow_add-self
overflow_add-self g c =
    let found = rw (← c.self.view_is) at c.requires.block in
    let old = part_rows c.self.inside.entries.items c.args.place c.index_mut-entry.result.now
    (omega (arith, found.in_range, length-blocks c.self.inside.entries.items)) c.index_mut-entry.ensures.value in
    let fits = put_fits g.K.Ord.cmp c.self.inside.entries.items c.args.key c.args.place found c.put.new.self.0 c.put.new.self.1
    c.args.value g.met.K.Ord.total c.self.invariant.0 (rw (← old) c.in_ok-put.ensures.ok) in
    let counted = length-changed c.self.inside.entries.items c.args.place c.put.new.self found.in_range in
    let room = rw (← c.self.view_is) at c.requires.fits in
    omega (arith, fits, counted, room, c.len-before.ensures, c.len-after.ensures, ap length old, c.self.invariant.1)

pub invariant_of-self-2 : goal.invariant_of-self-2
invariant_of-self-2 g c =
    let found = rw (← c.self.view_is) at c.requires.block in
    let old = part_rows c.self.inside.entries.items c.args.place c.index_mut-entry.result.now
    (omega (arith, found.in_range, length-blocks c.self.inside.entries.items)) c.index_mut-entry.ensures.value in
    let counted = length-changed c.self.inside.entries.items c.args.place c.put.new.self found.in_range in
    let most = length-block c.self.inside.entries.items c.args.place found.in_range in (
      put_parts g.K.Ord.cmp c.self.inside.entries.items c.args.key c.args.place found c.put.new.self.0 c.put.new.self.1 c.args.value
          g.met.K.Ord.total c.self.invariant.0 c.put.ensures.begins (rw (← old) c.in_ok-put.ensures.ok),
      omega (arith, counted, most, c.len-before.ensures, c.len-after.ensures, ap length old, c.self.invariant.1),
    )

pub returns-clause-ok : goal.returns-clause-ok
returns-clause-ok g c =
    let found = rw (← c.self.view_is) at c.requires.block in
    let old = part_rows c.self.inside.entries.items c.args.place c.index_mut-entry.result.now
    (omega (arith, found.in_range, length-blocks c.self.inside.entries.items)) c.index_mut-entry.ensures.value in
    rw (← c.self.view_is) (put_rows g.K.Ord.cmp c.self.inside.entries.items c.args.key c.args.place found c.put.new.self.0
    c.put.new.self.1 c.args.value (rw (← old) c.in_ok-put.ensures.ok))
