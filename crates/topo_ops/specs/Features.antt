-- The features that point to edges, and what becomes of them where their spatial pointers (FSPT, S-57 Part 3, 7.6.8) change.
use Rattle.std.specs.Prelude.{◌+◌, List, map, filter_map, flat_map}
use Rattle.s57_types.specs.declared.name.RecName.{RecName}
use Rattle.s57_types.specs.declared.record.Feature.{Feature}
use Rattle.s57_types.specs.declared.record.Spot.{Spot}
use Rattle.s57_types.specs.declared.record.Rec.TheVariants.{F}
use Rattle.s57_types.specs.declared.cell.Cell.{Cell}
use Rattle.cell_spec.specs.declared.edit.Edit.{Edit}
use Rattle.cell_spec.specs.declared.edit.Edit.TheVariants.{Set}
use Rattle.cell_spec.specs.declared.key.Ref.{Ref}
use Rattle.cell_spec.specs.Ascending.{ascending}
use Rattle.cell_spec.specs.Lookup.{lookup_pointers}
use Rattle.cell_spec.specs.Names.{name_order}
use Rattle.rule_spec.specs.Records.{feature_named}

-- the names of the records that point to some names, ascending, each once
abbrev pub names_pointing : Cell → List RecName → List RecName
names_pointing c names = ascending name_order (map (λ (r : Ref). r.from) (flat_map (lookup_pointers c) names))

-- the features that point to some names, ascending by name
unfoldable pub features_at : Cell → List RecName → List Feature
features_at c names = filter_map (feature_named c) (names_pointing c names)

-- a feature with other spatial pointers, one version on
abbrev pub feature_with : List Spot → Feature → Feature
feature_with places f = record f { rver = f.rver + 1; places = places }

-- a feature's replacement, whose spatial pointers are changed
abbrev pub feature_edit : (List Spot → List Spot) → Feature → Edit
feature_edit change f = Set (F (feature_with (change f.places) f))
