use Rattle.std.proofs.Common.{◌≡◌, ◌∙◌, ◌++◌, ◌∷◌, [], List, map, ap}
use Rattle.frame_spec.specs.RecordFrame.{Field}
use Rattle.file_spec.specs.DescriptiveRecord.{control_field, description_field, descriptions}
use Rattle.frame_write.specs.OutFields.{fields_of}
use Rattle.frame_write.specs.declared.field.OutField.{OutField}
use Rattle.cell_write.proofs.description.descriptive_fields.Goals as goal

pub returns : goal.returns
returns c =
    let first : fields_of c.push.new.self.items ≡ control_field ∷ [] =
    ap fields_of (c.in_ok-push.ensures.items ∙ ap (λ (x : List OutField). x ++ (c.in_ok-control_field.field-0 ∷ [])) c.new-fields.ensures.items)
    ∙ ap (λ (x : Field). x ∷ []) c.in_ok-control_field.ensures in
    c.in_ok-push_descriptions.ensures ∙ ap (λ (x : List Field). x ++ map description_field (descriptions c.args.aall c.args.nall)) first
