use Rattle.std.proofs.Common.{◌≡◌, ◌<◌, add-one, is_lt, true, false, length, arith}
use Rattle.shared_table.proofs.Counted.{holds_there}
use Rattle.shared_table.proofs.Parts.{place_counted}
use Rattle.shared_table.proofs.layer.Layer.is_place_for.Goals as goal

-- no piece is behind it
pub returns-then-next-len : goal.returns-then-next-len
returns-then-next-len g c _ =
    let lt : c.args.place < length c.self.inside.entries.items = omega (arith, c.if-place-len.false, c.len.ensures) in
    let by : is_lt (g.K.Ord.cmp c.args.key.now c.index.result.now.0) ≡ false = rw (← c.key.ensures, ← c.cmp.ensures, ← c.is_lt.ensures) c.if-is_lt.false in
    rw (← c.self.view_is) (place_counted g.K.Ord.cmp g.met.K.Ord.total c.args.key.now c.self.inside.entries.items c.args.place c.self.invariant.0 lt
    (λ _. holds_there (λ part. is_lt (g.K.Ord.cmp c.args.key.now part.0) ≡ false) c.self.inside.entries.items _ c.index.result.now lt c.index.ensures by)
    (λ next. absurd (omega (arith, next, c.if-next-len.true, c.len-2.ensures))))

-- the next piece starts above the key
pub returns-else-next-len : goal.returns-else-next-len
returns-else-next-len g c is =
    let lt : c.args.place < length c.self.inside.entries.items = omega (arith, c.if-place-len.false, c.len.ensures) in
    let by : is_lt (g.K.Ord.cmp c.args.key.now c.index.result.now.0) ≡ false = rw (← c.key.ensures, ← c.cmp.ensures, ← c.is_lt.ensures) c.if-is_lt.false in
    let above : is_lt (g.K.Ord.cmp c.args.key.now c.index-else-next-len.result.now.0) ≡ true =
    rw (← c.key-else-next-len.ensures, ← c.cmp-else-next-len.ensures, ← c.is_lt-else-next-len.ensures) is in
    rw (← c.self.view_is) (place_counted g.K.Ord.cmp g.met.K.Ord.total c.args.key.now c.self.inside.entries.items c.args.place c.self.invariant.0 lt
    (λ _. holds_there (λ part. is_lt (g.K.Ord.cmp c.args.key.now part.0) ≡ false) c.self.inside.entries.items _ c.index.result.now lt c.index.ensures by)
    (λ next. holds_there (λ part. is_lt (g.K.Ord.cmp c.args.key.now part.0) ≡ true) c.self.inside.entries.items _ c.index-else-next-len.result.now
    next (rw (add-one c.args.place) at c.index-else-next-len.ensures) above))
