use Rattle.std.proofs.Common.{List, find, sym, ◌∙◌}
use Rattle.std.specs.List.{enumerate_from}
use Rattle.rule_spec.specs.declared.line.EdgeLine.{EdgeLine}
use Rattle.rule_spec.specs.Contacts.{have_illegal_contact}
use Rattle.rule_spec.specs.EdgePoints.{segments_of}
use Rattle.rule_spec.specs.Vectors.{Numbered, each_with_each}
use Rattle.line_boxes.proofs.ApartLines.{none_by_boxes, none_first, none_second}
use Rattle.check_pairs.proofs.NoContact.{contact_needs_meeting}
use Rattle.check_pairs.proofs.contact.first_contact_at.Goals as goal

abbrev numbered : EdgeLine → List Numbered
numbered line = enumerate_from 1 (segments_of line.points)

pub returns-in_default : goal.returns-in_default
returns-in_default c = sym (none_first (have_illegal_contact c.args.places.now) (numbered c.args.first.now) (numbered c.args.second.now)
    (sym c.in_default.ensures))

pub returns-in_default-around : goal.returns-in_default-around
returns-in_default-around c = sym (none_second (have_illegal_contact c.args.places.now) (numbered c.args.first.now) (numbered c.args.second.now)
    (sym c.in_default-around.ensures))

pub returns-then-are_disjoint : goal.returns-then-are_disjoint
returns-then-are_disjoint c =
    sym (none_by_boxes (have_illegal_contact c.args.places.now) (contact_needs_meeting c.args.places.now) c.in-Some.first_box
    c.in-Some-around.second_box (numbered c.args.first.now) (numbered c.args.second.now)
    (sym c.in-Some.ensures) (sym c.in-Some-around.ensures) (sym c.are_disjoint.ensures ∙ c.if-are_disjoint.true))

pub returns : goal.returns
returns c =
    c.first_contact_by_rows.ensures
    ∙ (λ i. find (have_illegal_contact c.args.places.now) (each_with_each (c.segments.ensures i) (c.segments-2.ensures i)))
