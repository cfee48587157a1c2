use Rattle.std.proofs.Common.{◌∙◌}
use Rattle.cell_findings.proofs.search.Search.push_identity.Goals as goal

pub returns : goal.returns
returns c = rw (← (c.as_slice.ensures ∙ c.in_ok-found.ensures)) c.push_found.ensures
