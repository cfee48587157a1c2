use Rattle.std.proofs.Common.{Ok, sym, ap, ◌∙◌}
use Rattle.cell_spec.specs.declared.edit.Edit.TheVariants.{Add}
use Rattle.file_spec.specs.RecordFaults.{◌>>◌, demand}
use Rattle.file_spec.specs.declared.fault.RecordFault.TheVariants.{TooLong}
use Rattle.update_spec.specs.UpdateRecords.{is_short}
use Rattle.update_spec.specs.declared.fault.UpdateFault.TheVariants.{Record}
use Rattle.update_apply.proofs.LongRecords.{passed_test, same_length, short_is}
use Rattle.update_apply.proofs.case.Case.addition.Goals as goal

pub returns-in-Some : goal.returns-in-Some
returns-in-Some c whole kept = let cell = c.args.self.now.look.now in
    ap (λ b. demand b (Record TooLong) >> Ok (Add whole)) (sym (same_length cell.head.nall c.args.rec whole kept))
    ∙ ap (λ d. d >> Ok (Add whole)) (sym c.in-Some.ensures)

pub returns-in-None : goal.returns-in-None
returns-in-None c whole kept = let cell = c.args.self.now.look.now in
    ap (λ b. demand b (Record TooLong) >> Ok (Add whole)) (sym (same_length cell.head.nall c.args.rec whole kept))
    ∙ ap (λ d. d >> Ok (Add whole)) (sym c.in-None.ensures)
    ∙ ap (λ r. Ok (Add r)) (sym (short_is cell.head.nall c.args.rec whole kept (passed_test (is_short cell c.args.rec) (Record TooLong) c.in-None.ensures)))
