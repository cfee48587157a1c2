use Rattle.field_spec.proofs.DecidedFields.{number_decided as number, dsid_decided as dsid, dssi_decided as dssi, dspm_decided as dspm}
use Rattle.field_spec.proofs.DecidedFields.{frid_decided as frid, foid_decided as foid, vrid_decided as vrid}
use Rattle.field_spec.proofs.law.values_are_decided.Goals as goal

pub returns : goal.returns
returns c =
    record { number = number; dsid = dsid; dssi = dssi; dspm = dspm; frid = frid; foid = foid; vrid = vrid }
