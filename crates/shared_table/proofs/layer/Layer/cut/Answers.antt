use Rattle.std.proofs.Common.{◌<◌, length, arith, ◌∙◌, sym, ap}
use Rattle.shared_table.proofs.Parts.{cut_in_two_rows, cut_in_two_parts}
use Rattle.shared_table.proofs.layer.Layer.cut.Goals as goal

pub index-requires : goal.index-requires
index-requires g c = omega (arith, rw (← c.self.view_is) at c.requires, c.self.inside.entries.ok.0)

pub overflow_add-place : goal.overflow_add-place
overflow_add-place g c = omega (arith, rw (← c.self.view_is) at c.requires, c.self.inside.entries.ok.0, c.self.inside.entries.ok.1)

pub insert-requires : goal.insert-requires
insert-requires g c = omega (arith, rw (← c.self.view_is) at c.requires, c.self.inside.entries.ok.0)

pub invariant_of-self-in-Some : goal.invariant_of-self-in-Some
invariant_of-self-in-Some g c =
    let lt : c.args.place < length c.self.inside.entries.items = rw (← c.self.view_is) at c.requires in
    let start = rw (c.in-Some.is) at c.in_ok-lower.ensures.start in
    let halves = rw (c.in-Some.is) at c.in_ok-lower.ensures.parts in
    rw (c.in-Ok.ensures.items) (
      cut_in_two_parts g.K.Ord.cmp c.self.inside.entries.items c.args.place c.index.result.now c.in-Some.lower c.in-Some.upper
          lt c.index.ensures start halves c.self.invariant.0,
      c.self.invariant.1 ∙ sym (ap length (cut_in_two_rows g.K.Ord.cmp c.self.inside.entries.items c.args.place c.index.result.now
          c.in-Some.lower c.in-Some.upper lt c.index.ensures start halves)),
    )

pub returns-in-Some-clause-rows : goal.returns-in-Some-clause-rows
returns-in-Some-clause-rows g c =
    let lt : c.args.place < length c.self.inside.entries.items = rw (← c.self.view_is) at c.requires in
    let start = rw (c.in-Some.is) at c.in_ok-lower.ensures.start in
    let halves = rw (c.in-Some.is) at c.in_ok-lower.ensures.parts in
    rw (← c.self.view_is, c.in-Ok.ensures.items) (cut_in_two_rows g.K.Ord.cmp c.self.inside.entries.items c.args.place c.index.result.now
    c.in-Some.lower c.in-Some.upper lt c.index.ensures start halves)
