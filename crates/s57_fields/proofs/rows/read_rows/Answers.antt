use Rattle.std.proofs.Common.{sym}
use Rattle.s57_fields.proofs.JudgedRows.{field_content-body}
use Rattle.s57_fields.proofs.rows.read_rows.Goals as goal

pub returns : goal.returns
returns g c =
    rw (field_content-body (g.R.FieldRow.layout c.args.level) c.args.level c.args.bytes.now c.in-Some.body.now (sym c.in-Some.ensures)) c.other_rows.ensures
