use Rattle.std.proofs.Common.{◌≡◌, ◌++◌, ◌+◌, [], length, map}
use Rattle.std.specs.Option.{option_map_or}
use Rattle.text_spec.specs.OrderLine.{pieces}
use Rattle.order_text.proofs.items.cut_pieces.Given as goal

abbrev pub invariant-loop-rest : goal.invariant-loop-rest
invariant-loop-rest l = map (λ piece. piece.now) l.found.items ++ option_map_or (λ rest. pieces rest.now) l.rest [] ≡ pieces l.text

abbrev pub decreases-loop-rest : goal.decreases-loop-rest
decreases-loop-rest l = option_map_or (λ rest. length rest.now + 1) l.rest 0
