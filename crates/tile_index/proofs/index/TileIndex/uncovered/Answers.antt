use Rattle.std.proofs.Common.{sym, ◌∙◌}
use Rattle.tile_index.proofs.InPlace.{none_taken}
use Rattle.tile_index.proofs.index.TileIndex.uncovered.Goals as goal

pub returns-clause-index : goal.returns-clause-index
returns-clause-index c = sym (none_taken c.args.self c.args.name (sym c.has.ensures ∙ c.if-has.false))
