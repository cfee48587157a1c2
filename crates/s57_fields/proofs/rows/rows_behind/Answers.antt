use Rattle.std.proofs.Common.{◌≡◌, ◌∙◌, ap, length}
use Rattle.std.proofs.lemmas.List.{length-take-le}
use Rattle.s57_fields.proofs.rows.rows_behind.Goals as goal

pub other_rows-requires-clause-walk : goal.other_rows-requires-clause-walk
other_rows-requires-clause-walk g c =
    let kept = c.of_vec.ensures ∙ c.truncate.ensures.items in
    let size : length c.of_vec.result ≡ c.args.count = ap length kept ∙ length-take-le c.args.count c.args.rows.items c.requires.written in
    rw (size, kept, c.split_at.ensures.back) c.requires.walk
