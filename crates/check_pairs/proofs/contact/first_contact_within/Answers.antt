use Rattle.std.proofs.Common.{sym, ◌∙◌, ap}
use Rattle.geometry_spec.specs.Boxes.{are_disjoint}
use Rattle.rule_spec.specs.Contacts.{have_illegal_contact}
use Rattle.line_boxes.proofs.ApartLines.{none_by_box}
use Rattle.check_pairs.proofs.NoContact.{contact_needs_meeting}
use Rattle.check_pairs.proofs.contact.first_contact_within.Goals as goal

pub returns-then-are_disjoint : goal.returns-then-are_disjoint
returns-then-are_disjoint c =
    sym (none_by_box (have_illegal_contact c.args.places.now) (contact_needs_meeting c.args.places.now) c.args.a c.args.around c.args.line.now c.requires
    (ap (λ x. are_disjoint x c.args.around) (sym c.box_of_segment.ensures) ∙ sym c.are_disjoint.ensures ∙ c.if-are_disjoint.true))
