use Rattle.std.proofs.Common.{◌≡◌, sym, subst}
use Rattle.geometry_spec.specs.Segments.{SegmentMeeting}
use Rattle.geometry_spec.specs.declared.segment.MeetCase.TheVariants.{Apart}
use Rattle.geometry_spec.specs.Signs.{meeting_of}
use Rattle.geometry_spec.proofs.MeetingCases.{meeting_is}
use Rattle.geometry_spec.proofs.DisjointBoxes.{apart_by_boxes}
use Rattle.geo_exact.proofs.ContactTests.{disjoint_found}
use Rattle.geo_exact.proofs.contact.meeting.Goals as goal

pub returns-then-are_disjoint-clause-computed : goal.returns-then-are_disjoint-clause-computed
returns-then-are_disjoint-clause-computed c = sym (apart_by_boxes c.args.p c.args.q c.args.r c.args.s
    (disjoint_found c.args.p c.args.q c.args.r c.args.s _ _ _ c.box_of.ensures c.box_of-2.ensures c.are_disjoint.ensures c.if-are_disjoint.true))

pub returns-then-are_disjoint-clause-exact : goal.returns-then-are_disjoint-clause-exact
returns-then-are_disjoint-clause-exact c =
    let apart : meeting_of c.args.p c.args.q c.args.r c.args.s ≡ Apart =
    apart_by_boxes c.args.p c.args.q c.args.r c.args.s (disjoint_found c.args.p c.args.q c.args.r c.args.s _ _ _ c.box_of.ensures
    c.box_of-2.ensures c.are_disjoint.ensures c.if-are_disjoint.true) in
    subst (SegmentMeeting c.args.p c.args.q c.args.r c.args.s) apart (meeting_is c.args.p c.args.q c.args.r c.args.s)

pub returns-clause-exact : goal.returns-clause-exact
returns-clause-exact c = subst (SegmentMeeting c.args.p c.args.q c.args.r c.args.s) (sym c.meeting_by_sides.ensures)
    (meeting_is c.args.p c.args.q c.args.r c.args.s)
