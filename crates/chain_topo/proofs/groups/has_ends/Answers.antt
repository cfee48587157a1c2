use Rattle.chain_topo.proofs.Parts.{span-from_ends}
use Rattle.chain_topo.proofs.groups.has_ends.Goals as goal

pub returns-then-begins_at : goal.returns-then-begins_at
returns-then-begins_at g c = λ ends.
    span-from_ends g.K.Ord.cmp c.args.key.now g.met.K.Ord.total c.args.keys.now c.args.from c.args.to c.requires.sorted c.requires.from c.requires.to
    (c.begins_at.ensures.before c.if-begins_at.true) (c.begins_at.ensures.there c.if-begins_at.true) (c.ends_at.ensures.before ends)
    (c.ends_at.ensures.there ends)
