use Rattle.std.proofs.Common.{◌<◌, sym, ap, ◌∙◌, arith}
use Rattle.std.specs.List.{list_any}
use Rattle.s57_types.specs.RecordFields.{identification_length}
use Rattle.cell_spec.specs.Edits.{head_after, is_head_edit}
use Rattle.cell_bench.proofs.Refused.{head_judged, head_stays, small_count}
use Rattle.cell_bench.proofs.records.head_refusal.Goals as goal

pub returns-then-not-has_head_edit : goal.returns-then-not-has_head_edit
returns-then-not-has_head_edit c =
    let edits = c.args.set.now.edits in
    head_stays (head_after edits c.args.head.now) edits (ap (list_any is_head_edit) (sym c.edits.ensures) ∙ sym c.has_head_edit.ensures
    ∙ c.if-not-has_head_edit.true)

pub returns : goal.returns
returns c =
    let edits = c.args.set.now.edits in
    let small : c.in_ok-bytes.bytes < 4294967296 = omega arith in
    c.then_some.ensures
    ∙ head_judged (head_after edits c.args.head.now) edits c.in_ok-bytes.bytes
    (ap (list_any is_head_edit) (sym c.edits.ensures) ∙ sym c.has_head_edit.ensures ∙ c.if-not-has_head_edit.false)
    (small_count (identification_length c.in_ok-edited.edited) c.in_ok-bytes.bytes (c.in_ok-bytes.ensures.same ∙ c.identification_record_length.ensures) small
    ∙ ap identification_length c.in_ok-edited.ensures)
