use Rattle.picture_places.proofs.Scales.{all_in_frame, corners_meet, east_right, north_up}
use Rattle.picture_places.proofs.law.north_is_up.Goals as goal

pub returns : goal.returns
returns c = record { north = north_up; east = east_right; frame = all_in_frame; corners = corners_meet }
