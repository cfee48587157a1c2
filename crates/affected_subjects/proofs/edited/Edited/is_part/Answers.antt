use Rattle.std.proofs.Common.{is_some, sym, ap, ◌∙◌}
use Rattle.affected_subjects.proofs.Vectors.{copied_some, part_is}
use Rattle.affected_subjects.proofs.edited.Edited.is_part.Goals as goal

pub returns : goal.returns
returns c = c.is_some.ensures ∙ copied_some c.vector.result ∙ ap is_some c.vector.ensures ∙ sym (part_is c.args.self.now c.args.name)
