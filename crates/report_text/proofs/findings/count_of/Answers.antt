use Rattle.std.proofs.Common.{◌∙◌, inl, length, ap, arith}
use Rattle.cell_spec.specs.Edits.{list_of_kind}
use Rattle.report_text.proofs.Counted.{of_kind}
use Rattle.report_text.proofs.findings.count_of.Goals as goal

pub count-requires-clause-fits : goal.count-requires-clause-fits
count-requires-clause-fits c =
    let walked = ap length (c.walk.ensures ∙ ap (list_of_kind c.args.kind) c.store.ensures) in
    let few = c.known.ensures.writable.not_too_many in
    let some = of_kind c.args.kind c.args.bench.now in
    inl (omega (arith, walked, few, some))
