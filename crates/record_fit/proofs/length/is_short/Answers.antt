use Rattle.std.proofs.Common.{◌∙◌, sym, ap, leb}
use Rattle.s57_types.specs.RecordFields.{written_length, length_limit}
use Rattle.record_fit.proofs.length.is_short.Goals as goal

pub returns-in-V : goal.returns-in-V
returns-in-V c = c.is_vector_short.ensures c.args.nall ∙ ap (λ rec. leb (written_length c.args.nall rec) length_limit) (sym c.in-V.is)
