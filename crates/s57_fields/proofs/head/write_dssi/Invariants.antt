use Rattle.std.proofs.Common.{◌≡◌, ◌∷◌, map, take}
use Rattle.s57_types.specs.Subfield.{unsigned_of}
use Rattle.s57_fields.specs.Spelling.{row_of}
use Rattle.s57_fields.proofs.head.write_dssi.Given as goal

abbrev pub invariant-loop-count : goal.invariant-loop-count
invariant-loop-count l = row_of l.row.items
    ≡ unsigned_of 1 l.value.dstr ∷ unsigned_of 1 l.value.aall ∷ unsigned_of 1 l.value.nall ∷ map (unsigned_of 4) (take l.count-index l.count-items)
