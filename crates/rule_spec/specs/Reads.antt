-- The keys that the findings about a subject depend on. This project's own rule.
use Rattle.std.specs.Prelude.{◌==◌, List, [], ◌∷◌, ◌++◌, map, flat_map, if◌then◌else◌}
use Rattle.std.specs.Option.{option_map_or}
use Rattle.s57_types.specs.declared.name.RecName.{RecName}
use Rattle.s57_types.specs.declared.record.End.{End}
use Rattle.s57_types.specs.declared.record.Feature.{Feature}
use Rattle.s57_types.specs.declared.record.Partner.{Partner}
use Rattle.s57_types.specs.declared.record.Spot.{Spot}
use Rattle.s57_types.specs.declared.record.Vector.{Vector}
use Rattle.s57_types.specs.declared.cell.Cell.{Cell}
use Rattle.s57_types.specs.Heads.{head_name}
use Rattle.cell_spec.specs.declared.key.Key.{Key}
use Rattle.cell_spec.specs.declared.key.Key.TheVariants.{Name, Refs, Foid}
use Rattle.cell_spec.specs.declared.key.Ref.{Ref}
use Rattle.cell_spec.specs.declared.key.Subject.{Subject}
use Rattle.cell_spec.specs.declared.key.Subject.TheVariants.{Rec, Side, Pair, Ident}
use Rattle.cell_spec.specs.Ascending.{ascending}
use Rattle.cell_spec.specs.Lookup.{lookup_pointers}
use Rattle.cell_spec.specs.Names.{key_order}
use Rattle.rule_spec.specs.Records.{edge_named, feature_named}

-- the records that an edge's ends name
abbrev pub end_keys : Vector → List Key
end_keys e = map (λ (end : End). Name end.to) e.ends

-- the records that the ends of an edge of the cell name
abbrev pub end_keys_at : Cell → RecName → List Key
end_keys_at c n = option_map_or end_keys (edge_named c n) []

-- the head, for its level of texts; the records that a feature's spatial pointers name; for an area also those that the ends of these edges
-- name; and its partners' identifiers
abbrev pub feature_keys : Cell → Feature → List Key
feature_keys c f =
    Name head_name ∷ map (λ (s : Spot). Name s.to) f.places ++ (if f.prim == 3 then flat_map (λ (s : Spot). end_keys_at c s.to) f.places else [])
    ++ map (λ (p : Partner). Foid p.to) f.partners

-- what the findings about a record depend on, beside the record
abbrev pub record_keys : Cell → RecName → List Key
record_keys c n = Name n ∷ (end_keys_at c n ++ option_map_or (feature_keys c) (feature_named c n) [])

-- what the findings about a subject depend on: the record, the head for a feature, and the records that it names; for a side the edge, the
-- pointers to it and the records that
-- have them; for a pair both records' keys; for an identifier its bearers
abbrev pub keys_read : Cell → Subject → List Key
keys_read c (Rec n) = record_keys c n
keys_read c (Side n) = Name n ∷ Refs n ∷ map (λ (r : Ref). Name r.from) (lookup_pointers c n)
keys_read c (Pair a b) = record_keys c a ++ record_keys c b
keys_read c (Ident l) = Foid l ∷ []

-- the read set, ascending, each key once
unfoldable pub read_set : Cell → Subject → List Key
read_set c s = ascending key_order (keys_read c s)
