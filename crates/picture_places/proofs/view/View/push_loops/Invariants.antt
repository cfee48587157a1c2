use Rattle.std.proofs.Common.{◌≡◌, ◌++◌, drop, map}
use Rattle.ring_build.specs.Partition.{length_of_block}
use Rattle.rule_spec.specs.Loops.{blocks_of}
use Rattle.picture_places.specs.Areas.{loop_stroke}
use Rattle.picture_places.proofs.view.View.push_loops.Given as goal

abbrev pub invariant-loop-block : goal.invariant-loop-block
invariant-loop-block l = l.strokes ++ map (loop_stroke l.self.around) (blocks_of (map length_of_block (drop l.block-index l.blocks)) l.rest) ≡
    l.fn.strokes ++ map (loop_stroke l.self.around) (blocks_of (map length_of_block l.blocks) l.fn.lines)
