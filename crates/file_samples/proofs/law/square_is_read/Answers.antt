use Rattle.std.proofs.Common.{refl}
use Rattle.std.specs.Fmt.{digits}
use Rattle.frame_spec.specs.WrittenRecord.{written_record}
use Rattle.frame_spec.specs.FrameDecision.{frame_at, is_leader, is_entry, is_directory}
use Rattle.field_spec.specs.Contents.{dsid_content, dssi_content, dspm_content, frid_content, foid_content, attribute_content, partner_content}
use Rattle.field_spec.specs.Contents.{place_content, vrid_content, end_content, plane_content, deep_content}
use Rattle.file_spec.specs.FileRecords.{records_from, records_after}
use Rattle.file_spec.specs.RecordReading.{fields_fault}
use Rattle.file_spec.specs.DecodedCell.{decoded_records, general_information, geographic_reference, with_following, record_behind}
use Rattle.file_spec.specs.EncodedCell.{encoded_cell}
use Rattle.file_samples.proofs.law.square_is_read.Goals as goal

pub returns : goal.returns
unfolding digits written_record frame_at is_leader is_entry is_directory dsid_content dssi_content dspm_content frid_content
    foid_content attribute_content partner_content place_content vrid_content end_content plane_content deep_content records_from
    records_after fields_fault decoded_records general_information geographic_reference with_following record_behind encoded_cell
returns c = record { whole = refl; wide_node = (refl, refl); cuts = refl; changed = refl; repeated = refl }
