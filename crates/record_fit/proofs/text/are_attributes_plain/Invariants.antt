use Rattle.std.proofs.Common.{◌≡◌, true, take}
use Rattle.std.specs.List.{list_all}
use Rattle.s57_types.specs.Subfield.{is_plain}
use Rattle.s57_types.specs.FieldRows.{level_text}
use Rattle.record_fit.proofs.text.are_attributes_plain.Given as goal

abbrev pub invariant-loop-attr : goal.invariant-loop-attr
invariant-loop-attr l = list_all (λ a. is_plain (level_text l.level a.value)) (take l.attr-index l.attrs) ≡ true
