use Rattle.std.proofs.Common.{◌++◌, ◌∷◌, [], codes, sym}
use Rattle.text_spec.specs.EditLine.{attribute_item, deep_item, end_item, partner_item, place_item, plane_item}
use Rattle.script_text.specs.Widths.{IsAttributeOfWidth, IsEndOfWidth, IsPartnerOfWidth, IsPlaceOfWidth, IsPointOfWidth, IsSoundingOfWidth}
use Rattle.script_text.proofs.ItemWords.{none, cut_none, cut_step_if, cut_end_if}
use Rattle.script_text.proofs.items.items_of.Goals as goal

pub loop-rest-init : goal.loop-rest-init
loop-rest-init c = (
  [],
  cut_none c.args.text.now,
  record {
    attrs = none 97 (attribute_item (codes "a")) IsAttributeOfWidth _ c.make.ensures;
    natf = none 110 (attribute_item (codes "n")) IsAttributeOfWidth _ c.make-2.ensures;
    ends = none 101 end_item IsEndOfWidth _ c.make-3.ensures;
    plane = none 112 plane_item IsPointOfWidth _ c.make-4.ensures;
    deep = none 100 deep_item IsSoundingOfWidth _ c.make-5.ensures;
    partners = none 102 partner_item IsPartnerOfWidth _ c.make-6.ensures;
    places = none 115 place_item IsPlaceOfWidth _ c.make-7.ensures;
  },
)

pub loop-rest-preserved : goal.loop-rest-preserved
loop-rest-preserved c = let at = c.loop-rest in let words = at.invariant.0 in (
  words ++ c.next_part.result.0.now ∷ [],
  cut_step_if _ _ _ _ words at.invariant.1 (sym c.loop-rest-test.ensures) c.next_part.ensures.part,
  c.in_ok-take_item.ensures words at.invariant.2,
)

pub returns : goal.returns
returns c = let i = c.loop-rest.invariant in record { words = i.0; are = cut_end_if _ _ _ i.1 (sym c.loop-rest-test.ensures); items_are = i.2 }
