use Rattle.book_journal.proofs.Texts.{no_script_read, script_read}
use Rattle.book_journal.proofs.text.script_of.Goals as goal

pub returns-in-Ok : goal.returns-in-Ok
returns-in-Ok c = script_read c.args.text.now c.in-Ok.script c.in-Ok.ensures

pub returns-in-Err-Fault : goal.returns-in-Err-Fault
returns-in-Err-Fault c = no_script_read c.args.text.now _ (rw c.in-Err-Fault.field-0-is at c.in-Err-Fault.ensures)
