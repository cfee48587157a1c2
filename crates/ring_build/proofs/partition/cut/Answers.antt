use Rattle.std.proofs.Common.{◌≡◌, ◌+◌, ◌∷◌, [], ◌++◌, Some, length, drop, sym, ap, subst, ◌∙◌, append_assoc, length-drop, arith, rules}
use Rattle.rule_spec.specs.Loops.{loop_length, loop_lengths}
use Rattle.ring_build.specs.declared.ring.RingCut.TheVariants.{OpenAt, Whole}
use Rattle.ring_build.specs.Partition.{blocks_after, IsOnlyCut, cut_of}
use Rattle.ring_build.proofs.Cutting.{lengths_step, lengths_sum, open_at, whole_at}
use Rattle.ring_build.proofs.partition.cut.Goals as goal
use Rattle.ring_build.proofs.partition.cut.Goals.{After-drop-loops-inside, After-loop-rest}

pub loop-rest-preserved : goal.loop-rest-preserved
loop-rest-preserved c =
    let n = c.in-Some.n in
    let done = c.loop-rest.done in
    let rest = c.loop-rest.rest.now in
    let found : loop_length rest ≡ Some n = sym c.loop_length.ensures.value ∙ c.in-Some.is in
    let back = c.split_at.ensures.back in
    let pushed = c.in_ok-push.ensures.ok in
    record {
      placed = (λ i. pushed i ++ blocks_after (done + n) (loop_lengths (back i)))
          ∙ append_assoc c.loop-rest.loops (record { from = done + 1; to = done + n } ∷ []) (blocks_after (done + n) (loop_lengths (drop n rest)))
          ∙ ap (λ z. c.loop-rest.loops ++ blocks_after done z) (sym (lengths_step rest n found))
          ∙ c.loop-rest.invariant.placed;
      counted = omega (arith, c.loop-rest.invariant.counted, lengths_sum rest c.split_at.result.1.now n found back);
      left = omega (arith, c.loop-rest.invariant.left, c.in-Some.ensures.within, ap length back, length-drop n rest);
    }

-- what the two returns give
is_open : (c : After-drop-loops-inside) → OpenAt (c.loop-rest.done + 1) ≡ cut_of c.args.ends.now
is_open c = open_at c.args.ends.now c.loop-rest.rest.now c.loop-rest.done (sym c.loop_length.ensures.value ∙ c.in_default.is)
    c.loop-rest.invariant.counted c.loop-rest.invariant.left (search rules)

is_whole : (c : After-loop-rest) → Whole c.loop-rest.loops ≡ cut_of c.args.ends.now
is_whole c = whole_at c.args.ends.now c.loop-rest.rest.now c.loop-rest.loops c.loop-rest.done
    (search rules) c.loop-rest.invariant.placed c.loop-rest.invariant.counted c.loop-rest.invariant.left

pub returns-in_default-clause-exact : goal.returns-in_default-clause-exact
returns-in_default-clause-exact c = subst (IsOnlyCut c.args.ends.now) (sym (is_open c)) (c.computed_cut_is_only.ensures c.args.ends.now)

pub returns-in_default-clause-computed : goal.returns-in_default-clause-computed
returns-in_default-clause-computed c = is_open c

pub returns-clause-exact : goal.returns-clause-exact
returns-clause-exact c = subst (IsOnlyCut c.args.ends.now) (sym (is_whole c)) (c.computed_cut_is_only.ensures c.args.ends.now)

pub returns-clause-computed : goal.returns-clause-computed
returns-clause-computed c = is_whole c
