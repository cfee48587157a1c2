use Rattle.std.proofs.Common.{sym, ◌∙◌}
use Rattle.rule_spec.specs.Contacts.{have_illegal_contact}
use Rattle.check_words.proofs.Appends.{row_hit, row_missed}
use Rattle.check_pairs.proofs.contact.first_contact_by_rows.Goals as goal

pub returns-in-Some : goal.returns-in-Some
returns-in-Some c = sym (row_hit (have_illegal_contact c.args.places.now) c.args.first.now c.args.second.now c.loop-a.a-index
    _ c.in-Some.pair c.loop-a-test.true (sym c.in-Some.ensures)) ∙ c.loop-a.invariant

pub loop-a-preserved : goal.loop-a-preserved
loop-a-preserved c = sym (row_missed (have_illegal_contact c.args.places.now) c.args.first.now c.args.second.now c.loop-a.a-index
    _ c.loop-a-test.true (sym c.in_default.ensures)) ∙ c.loop-a.invariant
