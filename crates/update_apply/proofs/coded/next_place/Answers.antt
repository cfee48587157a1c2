use Rattle.update_apply.proofs.CodedAttributes.{next_found}
use Rattle.update_apply.proofs.coded.next_place.Goals as goal

pub returns : goal.returns
returns c =
    next_found c.args.places.now c.args.code c.range.result c.next.new.self c.next.result c.copied.result (c.range.ensures.in_range tt)
    c.next.ensures.steps c.copied.ensures
