use Rattle.std.proofs.Common.{◌∙◌}
use Rattle.cell_findings.proofs.search.Search.push_side.Goals as goal

pub returns : goal.returns
returns c = rw (← (c.deref.ensures.value ∙ c.in_ok-found.ensures)) c.push_found.ensures
