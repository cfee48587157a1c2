use Rattle.std.proofs.Common.{◌∙◌, ap}
use Rattle.std.specs.List.{flat_map}
use Rattle.cell_findings.proofs.AllFindings.{all_of_parts}
use Rattle.cell_findings.proofs.threads.find_all_in_threads.Goals as goal

pub returns-in-Ok : goal.returns-in-Ok
returns-in-Ok g c =
    all_of_parts c.args.cell.now c.requires.writable c.args.limit (flat_map (λ part. part) c.deref.result.now)
    (ap (flat_map (λ part. part)) c.deref.ensures.value ∙ c.in-Ok.ensures) c.joined.result c.joined.ensures
