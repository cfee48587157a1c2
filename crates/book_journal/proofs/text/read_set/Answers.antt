use Rattle.std.proofs.Common.{[], subst}
use Rattle.edit_sets.specs.FormFault.{IsFormRefusal}
use Rattle.edit_sets.specs.declared.fault.FormRefusal.{FormRefusal}
use Rattle.book_journal.proofs.Texts.{faulty_read, no_set_read, set_read}
use Rattle.book_journal.proofs.text.read_set.Goals as goal

pub returns-in_default : goal.returns-in_default
returns-in_default c = no_set_read c.args.level c.args.text.now c.in_ok-edits.field-0 c.in_ok-edits.ensures c.in_default.not-Some

pub returns-in-Ok : goal.returns-in-Ok
returns-in-Ok c =
    set_read c.args.level c.args.text.now c.in-Some.edits.items c.in-Ok.set (rw c.in-Some.is at c.in_ok-edits.ensures)
    (rw c.deref.ensures.value at c.in-Ok.ensures)

pub returns-in-Err-Fault : goal.returns-in-Err-Fault
returns-in-Err-Fault c =
    let refusal = subst (λ (why : FormRefusal). IsFormRefusal c.args.level c.deref.result.now [] why) c.in-Err-Fault.field-0-is c.in-Err-Fault.ensures in
    faulty_read c.args.level c.args.text.now c.in-Some.edits.items c.in-Err-Fault.field-0-0 (rw c.in-Some.is at c.in_ok-edits.ensures)
    (rw c.deref.ensures.value at refusal)
