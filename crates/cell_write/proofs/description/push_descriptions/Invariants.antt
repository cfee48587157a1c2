use Rattle.std.proofs.Common.{◌≡◌, ◌++◌, map, take}
use Rattle.cell_write.specs.Described.{described_field}
use Rattle.frame_write.specs.OutFields.{fields_of}
use Rattle.cell_write.proofs.description.push_descriptions.Given as goal

abbrev pub invariant-loop-description : goal.invariant-loop-description
invariant-loop-description l = fields_of l.fields.items ≡ fields_of l.initial.fields.items ++ map (described_field l.aall l.nall)
    (take l.description-index l.descriptions)
