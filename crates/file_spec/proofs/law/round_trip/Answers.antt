use Rattle.file_spec.proofs.RoundTrip.{round_trip_from}
use Rattle.file_spec.proofs.law.round_trip.Goals as goal

pub returns : goal.returns
returns c = let one = c.rows_read_back.ensures in round_trip_from (record {
  dsid = one.dsid;
  dssi = one.dssi;
  dspm = one.dspm;
  frid = one.frid;
  foid = one.foid;
  vrid = one.vrid;
  attributes = c.repeating_rows_read_back.ensures.attributes;
  partners = c.repeating_rows_read_back.ensures.partners;
  places = c.repeating_rows_read_back.ensures.places;
  ends = c.repeating_rows_read_back.ensures.ends;
  plane = c.repeating_rows_read_back.ensures.plane;
  deep = c.repeating_rows_read_back.ensures.deep;
})
