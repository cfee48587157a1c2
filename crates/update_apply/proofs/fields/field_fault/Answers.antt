use Rattle.std.proofs.Common.{◌≡◌, ◌+◌, Option, drop, take, sym, ap, ◌∙◌}
use Rattle.std.specs.Option.{option_or}
use Rattle.frame_spec.specs.RecordFrame.{Field}
use Rattle.file_spec.specs.RecordReading.{field_fault}
use Rattle.file_spec.specs.declared.fault.RecordFault.{RecordFault}
use Rattle.update_spec.specs.UpdateFields.{update_fields_fault}
use Rattle.update_apply.proofs.FieldWalk.{common_step, control_step, fault_step, if_ok}
use Rattle.update_apply.proofs.fields.field_fault.Goals as goal

pub returns-in-Some : goal.returns-in-Some
returns-in-Some c = let fields = c.args.frame.now.fields in let k = c.args.k in
    let f : Field = record { tag = c.field.result.0; bytes = c.field.result.1.now } in
    fault_step c.args.nall c.args.kind fields k f c.field.ensures
    ∙ ap (λ x. option_or x (update_fields_fault c.args.nall c.args.kind (take (k + 1) fields) (drop (k + 1) fields)))
    (control_step c.args.nall c.args.kind (take k fields) f c.in-Some.tag (sym (c.in-Some.ensures f.bytes)) ∙ sym (c.control_fault.ensures f.tag))

pub returns-in-None : goal.returns-in-None
returns-in-None c = let fields = c.args.frame.now.fields in let k = c.args.k in
    let f : Field = record { tag = c.field.result.0; bytes = c.field.result.1.now } in
    let nall = c.args.nall in let kind = c.args.kind in
    let rest = update_fields_fault nall kind (take (k + 1) fields) (drop (k + 1) fields) in
    if_ok (λ (fault : Option RecordFault). fault ≡ field_fault nall kind (take k fields) f)
    (λ (fault : Option RecordFault). update_fields_fault nall kind (take k fields) (drop k fields) ≡ option_or fault rest)
    c.common_fault.result c.common_fault.ensures (λ fault is.
    fault_step nall kind fields k f c.field.ensures
    ∙ ap (λ x. option_or x rest) (common_step nall kind (take k fields) f (sym (c.in-None.ensures f.bytes)) ∙ sym is))
