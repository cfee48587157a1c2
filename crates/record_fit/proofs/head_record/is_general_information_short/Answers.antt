use Rattle.std.proofs.Common.{◌≡◌, ◌∙◌, length, arith}
use Rattle.record_fit.proofs.HeadLengths.{identification_is_short}
use Rattle.record_fit.proofs.head_record.is_general_information_short.Goals as goal

pub returns : goal.returns
returns c =
    let eight : length c.args.dssi.counts ≡ 8 = omega arith in
    c.is_within_limit.ensures ∙ identification_is_short c.args.dsid.now c.args.dssi c.dsid_length.result eight c.dsid_length.ensures
