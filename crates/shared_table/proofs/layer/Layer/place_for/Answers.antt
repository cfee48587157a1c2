use Rattle.std.proofs.Common.{◌≡◌, ◌-◌, ap, ◌∙◌, subst, true, is_lt, length, length-drop, arith}
use Rattle.row_spec.specs.Blocks.{IsBlockFor}
use Rattle.shared_table.specs.Pieces.{blocks_of}
use Rattle.shared_table.proofs.Counted.{holds_there}
use Rattle.shared_table.proofs.Parts.{behind_first, place_counted, rest_from}
use Rattle.shared_table.proofs.layer.Layer.place_for.Goals as goal

-- the next piece starts above the key
pub returns-then-is_lt : goal.returns-then-is_lt
returns-then-is_lt g c =
    let next = behind_first c.self.inside.entries.items c.deref.result.now c.loop-place.place c.entry-item.result c.deref.ensures.value
    c.loop-place-test.true c.entry-item.is in
    let above : is_lt (g.K.Ord.cmp c.args.key.now c.entry-item.result.0) ≡ true = rw (← c.key.ensures, ← c.cmp.ensures, ← c.is_lt.ensures) c.if-is_lt.true in
    rw (← c.self.view_is) (place_counted g.K.Ord.cmp g.met.K.Ord.total c.args.key.now c.self.inside.entries.items c.loop-place.place
    c.self.invariant.0 (omega (arith, next.0)) c.loop-place.invariant
    (λ lt. holds_there (λ part. is_lt (g.K.Ord.cmp c.args.key.now part.0) ≡ true) c.self.inside.entries.items _ c.entry-item.result
    lt next.1 above))

-- the last piece starts by the key
pub returns : goal.returns
returns g c =
    let some = rw (← c.self.view_is) at c.requires in
    let rest = ap length (rest_from c.deref.result.now 1) ∙ length-drop 1 c.deref.result.now in
    let same = ap length c.deref.ensures.value in
    let last : c.loop-place.place ≡ c.len.result - 1 = omega (
      arith,
      rest,
      same,
      some,
      c.loop-place-test.false,
      c.loop-place.auto.place-end,
      c.len.ensures,
      c.deref.ensures.len,
    ) in
    rw (← c.self.view_is) (subst (IsBlockFor g.K.Ord.cmp (blocks_of c.self.inside.entries.items) c.args.key.now) last
    (place_counted g.K.Ord.cmp g.met.K.Ord.total c.args.key.now c.self.inside.entries.items c.loop-place.place c.self.invariant.0
    (omega (arith, rest, same, some, c.loop-place.auto.place-end)) c.loop-place.invariant
    (λ lt. absurd (omega (arith, rest, same, lt, c.loop-place-test.false)))))
