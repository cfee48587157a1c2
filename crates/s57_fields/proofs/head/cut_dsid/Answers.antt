use Rattle.std.proofs.Common.{◌∙◌}
use Rattle.field_spec.specs.Cutting.{whole, before_terminator}
use Rattle.s57_fields.specs.HeadSubfields.{dsid_name_forms, dsid_date_forms, dsid_product_forms}
use Rattle.s57_fields.proofs.Groups.{groups_of_body}
use Rattle.s57_fields.proofs.head.cut_dsid.Goals as goal

pub returns : goal.returns
returns c = c.cut_dsid_groups.ensures ∙ groups_of_body dsid_name_forms dsid_date_forms dsid_product_forms whole (before_terminator c.args.bytes.now)
