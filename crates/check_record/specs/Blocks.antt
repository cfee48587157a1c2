-- Segments of a line in blocks, each with the box around it. This project's own.
use Rattle.std.specs.Prelude.{◌≡◌, List, Some, flat_map}
use Rattle.line_boxes.specs.LineBoxes.{line_box}
use Rattle.rule_spec.specs.Vectors.{Numbered}
use Rattle.check_record.specs.declared.blocks.Block.{Block}

-- a block's box is the one around its segments
abbrev pub IsBoxed : Block → Type 0
IsBoxed block = line_box block.segments.now ≡ Some block.around

-- the segments of blocks, one block after the other
abbrev pub segments_in : List Block → List Numbered
segments_in blocks = flat_map (λ (block : Block). block.segments.now) blocks
