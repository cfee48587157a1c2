use Rattle.std.proofs.Common.{◌≡◌, length}
use Rattle.s57_types.specs.Subfield.{is_plain, wide_text_of}
use Rattle.record_fit.proofs.text.is_wide_text_plain.Given as goal

abbrev pub invariant-loop-rest : goal.invariant-loop-rest
invariant-loop-rest l = is_plain (wide_text_of l.rest) ≡ is_plain (wide_text_of l.text)

abbrev pub decreases-loop-rest : goal.decreases-loop-rest
decreases-loop-rest l = length l.rest
