use Rattle.std.proofs.Common.{rules, get_or}
use Rattle.s57_types.specs.declared.name.Kind.TheVariants.{Vi}
use Rattle.rule_spec.specs.Loops.{Arc}
use Rattle.ring_build.proofs.FrontLoop.{front_loop_of, returns_here, returns_further}
use Rattle.ring_build.proofs.partition.loop_length.Goals as goal

pub loop-k-init : goal.loop-k-init
loop-k-init c = front_loop_of c.args.ends.now _ c.in-len1-up.len_at_least

-- what an access past the end would give
abbrev none : Arc
none = (record { kind = Vi; id = 0 }, record { kind = Vi; id = 0 })

pub returns-then-eq-clause-value : goal.returns-then-eq-clause-value
returns-then-eq-clause-value c =
    let start = (get_or c.args.ends.now 0 none).0 in
    returns_here start c.loop-k.node c.args.ends.now c.loop-k.k none _ c.loop-k.invariant c.loop-k-test.true (search rules) (search rules)

pub loop-k-preserved : goal.loop-k-preserved
loop-k-preserved c = returns_further _ c.loop-k.node c.args.ends.now c.loop-k.k _ _ c.loop-k.invariant c.loop-k-test.true (search rules) (search rules)
