use Rattle.std.proofs.Common.{[], subst, arith}
use Rattle.edit_sets.specs.FormFault.{IsFormRefusal}
use Rattle.update_apply.proofs.Whole.{few_edits, no_form_fault, set_is}
use Rattle.update_apply.proofs.file.set_of.Goals as goal

pub make-requires-clause-edits_are_counted : goal.make-requires-clause-edits_are_counted
make-requires-clause-edits_are_counted c =
    let readable = c.writable_cells_are_readable.ensures c.args.cell.now c.requires.writable in
    let few = few_edits c.args.cell.now c.args.bytes.now c.requires.writable readable c.args.edits.now c.requires.edits in
    omega (arith, few)

pub unreachable-requires : goal.unreachable-requires
unreachable-requires c =
    let readable = c.writable_cells_are_readable.ensures c.args.cell.now c.requires.writable in
    no_form_fault c.args.cell.now c.args.bytes.now c.requires.writable readable c.args.edits.now _ c.requires.edits
    (subst (IsFormRefusal c.args.cell.now.head.nall c.args.edits.now []) c.in-Err-Fault.field-0-is c.in-Err-Fault.ensures)

pub returns-in-Ok : goal.returns-in-Ok
returns-in-Ok c =
    let readable = c.writable_cells_are_readable.ensures c.args.cell.now c.requires.writable in
    set_is c.args.cell.now c.args.bytes.now c.requires.writable readable c.args.edits.now c.in-Ok.set c.requires.edits c.in-Ok.ensures
