use Rattle.std.proofs.Common.{Some, sym, ap}
use Rattle.std.proofs.lemmas.Result.{IfOk-weaker}
use Rattle.cell_spec.specs.declared.edit.Edit.TheVariants.{Add}
use Rattle.record_store.proofs.records.Records.added.Goals as goal

pub with_record-requires : goal.with_record-requires
with_record-requires c = record { edit = Add c.args.rec; is = record { finds = c.requires; leaves = ap Some (sym c.in_ok-make.ensures) } }

pub returns : goal.returns
returns c =
    IfOk-weaker c.with_record.result _ _ (λ records is. is (Add c.args.rec) (record { finds = c.requires; leaves = ap Some (sym c.in_ok-make.ensures) }))
    c.with_record.ensures
