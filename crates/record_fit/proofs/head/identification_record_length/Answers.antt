use Rattle.std.proofs.Common.{◌∙◌, ◌∷◌, [], refl}
use Rattle.s57_types.specs.RecordFields.{dsid_of_head, dssi_of_head}
use Rattle.record_fit.proofs.HeadLengths.{identification_is_counted}
use Rattle.record_fit.proofs.head.identification_record_length.Goals as goal

pub returns : goal.returns
returns c = c.record_length.ensures ∙ identification_is_counted (dsid_of_head c.args.head.now)
    (dssi_of_head c.args.head.now (0 ∷ 0 ∷ 0 ∷ 0 ∷ 0 ∷ 0 ∷ 0 ∷ 0 ∷ [])) c.identification_length.result refl c.identification_length.ensures
