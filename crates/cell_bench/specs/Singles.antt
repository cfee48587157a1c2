-- The subjects of a cell but its pairs, by its records. This project's own.
use Rattle.std.specs.Prelude.{List, [], ◌∷◌, ◌++◌, is_some, map, flat_map, if◌then◌else◌}
use Rattle.s57_types.specs.declared.record.Rec.{Rec as Record}
use Rattle.s57_types.specs.declared.cell.Cell.{Cell}
use Rattle.cell_spec.specs.declared.key.Subject.{Subject}
use Rattle.cell_spec.specs.declared.key.Subject.TheVariants.{Rec, Side, Ident}
use Rattle.cell_spec.specs.Lookup.{all_records, identities_of, name_of}
use Rattle.rule_spec.specs.Reads.{read_set}
use Rattle.rule_spec.specs.Records.{is_edge_name, vector_of}
use Rattle.cell_spec.specs.declared.key.Key.{Key}

-- a record as a subject, its side if it is an edge, and its identifier if it bears one
abbrev pub singles_of : Record → List Subject
singles_of r = Rec (name_of r) ∷ (if is_some (vector_of is_edge_name r) then Side (name_of r) ∷ [] else []) ++ map Ident (identities_of r)

-- those of records
abbrev pub singles_among : List Record → List Subject
singles_among rs = flat_map singles_of rs

abbrev pub singles_in : Cell → List Subject
singles_in c = singles_among (all_records c)

-- a subject with the keys that it reads
abbrev pub reads_row : Cell → Subject → Subject × List Key
reads_row c s = (s, read_set c s)
