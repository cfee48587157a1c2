use Rattle.std.proofs.Common.{◌≡◌, ◌&&◌, ◌||◌, Bool, true, false, not, cond, is_eq, Ordering, Less, Equal, Greater, true≢false, refl, sym, ap, take_all, ◌∙◌}
use Rattle.std.proofs.lemmas.Result.{on_ok_weaker}
use Rattle.pair_set.specs.Pairs.{has_pair, is_among, is_lost}
use Rattle.pair_set.proofs.set.PairSet.replace.Goals as goal

tied : (o : Ordering) → is_eq o ≡ true → o ≡ Equal
tied Less e = absurd (true≢false (sym e))
tied Equal e = refl
tied Greater e = absurd (true≢false (sym e))

-- a pair of the second stands there when its first is among the new ones, and another one as before
replaced : (same old new was : Bool) → (same ≡ true → was ≡ old) → ((same && new) || (not (same && (old && not new)) && was)) ≡ cond same new was
replaced false old new was is = refl
replaced true old true was is = refl
replaced true false false was is = is refl
replaced true true false was is = refl

pub returns-clause-ok : goal.returns-clause-ok
returns-clause-ok g c =
    let among = is_among g.A.Ord.cmp in
    let gone = is_lost g.A.Ord.cmp in
    on_ok_weaker c.put_gained.result (λ put a b.
    let same = is_eq (g.B.Ord.cmp c.args.second b) in
    let was = has_pair g.A.Ord.cmp g.B.Ord.cmp c.args.self.now a b in
    let lost = c.loop-first.invariant a b
    ∙ ap (λ those. not (same && gone those c.args.new.now a) && was) (take_all c.loop-first.first-index c.args.old.now c.loop-first-test.false) in
    put a b
    ∙ ap (λ there. (same && among c.args.new.now a) || there) lost
    ∙ replaced same (among c.args.old.now a) (among c.args.new.now a) was
    (λ e. ap (has_pair g.A.Ord.cmp g.B.Ord.cmp c.args.self.now a) (sym (c.requires.exact_seconds c.args.second b (tied (g.B.Ord.cmp c.args.second b) e)))
    ∙ c.requires.old a))
    c.put_gained.ensures.ok
