use Rattle.std.proofs.Common.{◌≡◌, drop, find}
use Rattle.rule_spec.specs.Contacts.{have_illegal_contact}
use Rattle.rule_spec.specs.Vectors.{each_with_each}
use Rattle.check_pairs.proofs.contact.first_contact_by_rows.Given as goal

abbrev pub invariant-loop-a : goal.invariant-loop-a
invariant-loop-a l = find (have_illegal_contact l.places) (each_with_each (drop l.a-index l.first) l.second) ≡ find
    (have_illegal_contact l.places) (each_with_each l.first l.second)
