use Rattle.std.proofs.Common.{◌∙◌, [], ap, map, subst, sym}
use Rattle.std.specs.List.{flat_map}
use Rattle.std.specs.List.Sorted.{IsStrictlySortedBy}
use Rattle.cell_spec.specs.Names.{name_order}
use Rattle.finding_laws.specs.Tables.{IsCoveringsOf}
use Rattle.tile_index.specs.declared.change.TileChange.{TileChange}
use Rattle.tile_index.specs.Changes.{after_changes}
use Rattle.cell_findings.specs.Points.{changes_at}
use Rattle.cell_findings.proofs.Coverings.{changes_ascend, coverings_put}
use Rattle.cell_findings.proofs.tiles.tiles_of.Goals as goal

pub from_changes-requires : goal.from_changes-requires
from_changes-requires g c =
    let cell = g.B.Look.cell c.args.look.now in
    subst (λ changes. IsStrictlySortedBy name_order (map (λ (change : TileChange). change.name) changes))
    (sym (c.in_ok-changes.ensures.changes ∙ ap (flat_map (changes_at cell)) c.requires)) (changes_ascend cell)

pub returns-clause-tiles : goal.returns-clause-tiles
returns-clause-tiles g c =
    let cell = g.B.Look.cell c.args.look.now in
    subst (IsCoveringsOf cell)
    (sym (c.in_ok-tiles.ensures ∙ ap (after_changes []) (c.in_ok-changes.ensures.changes ∙ ap (flat_map (changes_at cell)) c.requires)))
    (coverings_put c.changes_set_their_names.ensures cell)
