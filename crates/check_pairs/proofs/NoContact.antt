-- Segments without a common point have no illegal contact.
use Rattle.std.proofs.Common.{List, ap}
use Rattle.geometry_spec.specs.Points.{Point}
use Rattle.rule_spec.specs.Contacts.{have_illegal_contact, is_illegal}
use Rattle.line_boxes.proofs.ApartLines.{NeedsMeeting}

pub contact_needs_meeting : (places : List Point) → NeedsMeeting (have_illegal_contact places)
contact_needs_meeting places a b apart = ap (is_illegal places a.1 b.1) apart
