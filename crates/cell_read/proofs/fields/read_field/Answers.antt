use Rattle.std.proofs.Common.{◌≡◌, ◌+◌, ◌∷◌, [], ◌++◌, take, sym, ap, ◌∙◌}
use Rattle.std.specs.Option.{option_map}
use Rattle.frame_spec.specs.RecordFrame.{Field}
use Rattle.file_spec.specs.RecordFaults.{of_field}
use Rattle.file_spec.specs.RecordReading.{fault_of_content}
use Rattle.file_spec.specs.declared.fault.RecordFault.TheVariants.{ForeignTag, RepeatedField}
use Rattle.cell_read.specs.ValuesOf.{values_of, fault_from}
use Rattle.cell_read.proofs.FieldSteps.{take_at, tag_is, foreign, repeated, content, fault_here, fault_after, ok_then, fault_then}
use Rattle.cell_read.proofs.KeptSteps.{kept_more}
use Rattle.cell_read.proofs.ValueSteps.{values_more, with_all}
use Rattle.cell_read.proofs.fields.read_field.Goals as goal

pub returns-in_default-clause-fault : goal.returns-in_default-clause-fault
returns-in_default-clause-fault c = let fields = c.args.frame.now.fields in let k = c.args.k in
    let field : Field = record { tag = c.field.result.0; bytes = c.field.result.1.now } in
    fault_here c.args.nall c.args.kind fields k field ForeignTag c.field.ensures
    (foreign c.args.nall c.args.kind (take k fields) field (sym (c.in_default.ensures field.bytes)))

pub returns-then-stands_twice-clause-fault : goal.returns-then-stands_twice-clause-fault
returns-then-stands_twice-clause-fault c = let fields = c.args.frame.now.fields in let k = c.args.k in
    let field : Field = record { tag = c.field.result.0; bytes = c.field.result.1.now } in
    fault_here c.args.nall c.args.kind fields k field RepeatedField c.field.ensures
    (repeated c.args.nall c.args.kind (take k fields) field c.in-Some.tag (sym (c.in-Some.ensures field.bytes)) (sym c.if-stands_twice.ensures))

pub returns-clause-values : goal.returns-clause-values
returns-clause-values c = let fields = c.args.frame.now.fields in let k = c.args.k in let nall = c.args.nall in let tag = c.in-Some.tag in
    let field : Field = record { tag = c.field.result.0; bytes = c.field.result.1.now } in
    let more : values_of nall (take (k + 1) fields) ≡ with_all nall tag field.bytes (values_of nall (take k fields)) =
    ap (values_of nall) (take_at fields k field c.field.ensures
    ∙ ap (λ name. take k fields ++ (record { tag = name; bytes = field.bytes } ∷ [])) (tag_is c.args.kind field tag (sym (c.in-Some.ensures field.bytes))))
    ∙ values_more nall (take k fields) field.bytes tag (sym c.if-stands_twice.ensures) in
    ok_then c.read_content.result c.read_content.ensures.values (λ is.
    rw (is, more) (kept_more nall tag field.bytes c.args.values.now (values_of nall (take k fields)) c.requires.values))

pub returns-clause-good : goal.returns-clause-good
returns-clause-good c = let fields = c.args.frame.now.fields in let k = c.args.k in let nall = c.args.nall in let tag = c.in-Some.tag in
    let field : Field = record { tag = c.field.result.0; bytes = c.field.result.1.now } in
    ok_then c.read_content.result c.read_content.ensures.good (λ none.
    fault_after nall c.args.kind fields k field c.field.ensures
    (content nall c.args.kind (take k fields) field tag (sym (c.in-Some.ensures field.bytes)) (sym c.if-stands_twice.ensures) ∙ ap (option_map of_field) none))

pub returns-clause-fault : goal.returns-clause-fault
returns-clause-fault c = let fields = c.args.frame.now.fields in let k = c.args.k in let nall = c.args.nall in let tag = c.in-Some.tag in
    let field : Field = record { tag = c.field.result.0; bytes = c.field.result.1.now } in
    fault_then c.read_content.result (fault_of_content nall tag field.bytes)
    (fault_from nall c.args.kind fields k) c.read_content.ensures.fault (λ fault is.
    fault_here nall c.args.kind fields k field fault c.field.ensures
    (content nall c.args.kind (take k fields) field tag (sym (c.in-Some.ensures field.bytes)) (sym c.if-stands_twice.ensures) ∙ is))
