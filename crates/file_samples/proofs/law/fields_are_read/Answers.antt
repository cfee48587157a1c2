use Rattle.std.proofs.Common.{refl}
use Rattle.field_spec.specs.Contents.{dsid_content, dssi_content, dspm_content, frid_content, foid_content, attribute_content, partner_content}
use Rattle.field_spec.specs.Contents.{place_content, vrid_content, end_content, plane_content, deep_content}
use Rattle.file_samples.proofs.law.fields_are_read.Goals as goal

pub returns : goal.returns
unfolding dsid_content dssi_content dspm_content frid_content foid_content attribute_content partner_content place_content
    vrid_content end_content plane_content deep_content
returns c = record { wide = refl; wide_written = refl; texts = refl; rows = (refl, refl); rows_written = refl; faults = refl }
