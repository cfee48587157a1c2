use Rattle.std.proofs.Common.{◌∙◌, sym, ap}
use Rattle.s57_types.specs.Subfield.{is_plain, wide_text_of}
use Rattle.record_fit.proofs.PlainTexts.{wide_text_at_control, wide_text_behind, wide_text_of_no_unit}
use Rattle.record_fit.proofs.text.is_wide_text_plain.Goals as goal

pub returns-then-is_control_unit : goal.returns-then-is_control_unit
returns-then-is_control_unit c =
    sym (wide_text_at_control c.loop-rest.rest.now c.loop-rest-test.true (sym c.is_control_unit.ensures ∙ c.if-is_control_unit.true)) ∙ c.loop-rest.invariant

pub loop-rest-preserved : goal.loop-rest-preserved
loop-rest-preserved c =
    ap (λ t. is_plain (wide_text_of t)) c.split_at.ensures.back
    ∙ wide_text_behind c.loop-rest.rest.now c.loop-rest-test.true (sym c.is_control_unit.ensures ∙ c.if-is_control_unit.false)
    ∙ c.loop-rest.invariant

pub returns : goal.returns
returns c = c.is_empty.ensures ∙ sym (wide_text_of_no_unit c.loop-rest.rest.now c.loop-rest-test.false) ∙ c.loop-rest.invariant
