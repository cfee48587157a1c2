use Rattle.std.proofs.Common.{◌≡◌, drop, find, map}
use Rattle.rule_spec.specs.Contacts.{have_illegal_contact}
use Rattle.check_pairs.proofs.contact.first_contact_among.Given as goal

abbrev pub invariant-loop-b : goal.invariant-loop-b
invariant-loop-b l = find (have_illegal_contact l.places) (map (λ b. (l.a, b)) (drop l.b-index l.line)) ≡ find (have_illegal_contact l.places)
    (map (λ b. (l.a, b)) l.line)
