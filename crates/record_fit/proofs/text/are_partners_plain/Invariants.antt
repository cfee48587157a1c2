use Rattle.std.proofs.Common.{◌≡◌, true, take}
use Rattle.std.specs.List.{list_all}
use Rattle.s57_types.specs.Subfield.{is_plain, text_of}
use Rattle.record_fit.proofs.text.are_partners_plain.Given as goal

abbrev pub invariant-loop-partner : goal.invariant-loop-partner
invariant-loop-partner l = list_all (λ p. is_plain (text_of p.comt)) (take l.partner-index l.partners) ≡ true
