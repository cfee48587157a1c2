use Rattle.std.proofs.Common.{ℕ, List, length}
use Rattle.script_text.specs.Items.{AreItems}
use Rattle.script_text.proofs.ItemWords.{IsCutTo}
use Rattle.script_text.proofs.items.items_of.Given as goal

abbrev pub invariant-loop-rest : goal.invariant-loop-rest
invariant-loop-rest l = (words : List (List ℕ)) × IsCutTo l.text l.rest words × AreItems words l.items

abbrev pub decreases-loop-rest : goal.decreases-loop-rest
decreases-loop-rest l = length l.rest
