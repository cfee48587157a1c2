use Rattle.std.proofs.Common.{List}
use Rattle.std.specs.List.{All}
use Rattle.s57_types.specs.declared.cell.Cell.{Cell}
use Rattle.s57_types.specs.declared.record.Spot.{Spot}
use Rattle.cell_spec.specs.declared.key.Key.{Key}
use Rattle.check_area.specs.Lines.{AsksForLine}
use Rattle.check_area.proofs.Places.{IsSoFar}
use Rattle.check_area.proofs.area.parts_of.Given as goal

abbrev pub invariant-loop-k : goal.invariant-loop-k
invariant-loop-k g l = (c : Cell) (keys : List Key) → g.N.Near.tells l.near c keys → All (λ (s : Spot). AsksForLine c keys s.to) l.places
    → IsSoFar c l.known l.parts.items l.k l.places
