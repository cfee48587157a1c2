use Rattle.std.proofs.Common.{◌≡◌, drop}
use Rattle.rule_spec.specs.Contacts.{meet_at_one_of}
use Rattle.check_pairs.proofs.contact.meet_at_one_of.Given as goal

abbrev pub invariant-loop-w : goal.invariant-loop-w
invariant-loop-w l = meet_at_one_of (drop l.w-index l.places) l.s l.t ≡ meet_at_one_of l.places l.s l.t
