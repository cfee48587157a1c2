use Rattle.std.proofs.Common.{◌≡◌, true, refl, subst, sym}
use Rattle.std.specs.List.{list_all}
use Rattle.rule_spec.specs.Findings.{is_subject}
use Rattle.affected_subjects.specs.NewPairs.{set_out}
use Rattle.affected_subjects.proofs.Known.{found_known}
use Rattle.affected_subjects.proofs.reach.both_rounds.Goals as goal

pub returns-clause-known : goal.returns-clause-known
returns-clause-known c = λ covers stay.
    subst (λ pairs. list_all (is_subject c.args.edited.now) pairs ≡ true) (sym c.in_ok-pairs.ensures)
    (found_known c.args.edited.now c.args.tiles.now c.in_ok-noted.noted.plan covers (c.in_ok-noted.ensures.mates stay) c.as_slice-2.result.now set_out refl)
