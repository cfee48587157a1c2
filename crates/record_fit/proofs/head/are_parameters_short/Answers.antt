use Rattle.std.proofs.Common.{◌∙◌}
use Rattle.s57_types.specs.RecordFields.{dspm_of_head}
use Rattle.record_fit.proofs.HeadLengths.{parameters_are_short}
use Rattle.record_fit.proofs.head.are_parameters_short.Goals as goal

pub returns : goal.returns
returns c = c.is_within_limit.ensures ∙ parameters_are_short (dspm_of_head c.args.head.now) c.parameters_length.result c.parameters_length.ensures
