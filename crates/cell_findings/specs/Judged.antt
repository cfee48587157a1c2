-- The subjects that are judged: a cell's records, the sides of its edges, each two connected nodes or edges, and the
-- identifiers of its features. This project's own.
use Rattle.std.specs.Prelude.{◌||◌, Bool, List, [], ◌∷◌, ◌++◌, map, filter}
use Rattle.std.specs.List.{flat_map}
use Rattle.s57_types.specs.declared.name.Kind.TheVariants.{Vc}
use Rattle.s57_types.specs.declared.name.Lnam.{Lnam}
use Rattle.s57_types.specs.declared.name.RecName.{RecName}
use Rattle.s57_types.specs.declared.cell.Cell.{Cell}
use Rattle.cell_spec.specs.Ascending.{ascending, order_by}
use Rattle.cell_spec.specs.Lookup.{all_records, identities_of}
use Rattle.cell_spec.specs.Names.{identity_parts, is_of_kind, name_order}
use Rattle.cell_spec.specs.declared.key.Subject.{Subject}
use Rattle.cell_spec.specs.declared.key.Subject.TheVariants.{Rec, Side, Pair, Ident}
use Rattle.rule_spec.specs.Findings.{findings_of_subject, record_names}
use Rattle.rule_spec.specs.Records.{is_edge_name}
use Rattle.cell_findings.specs.Rows.{with_subject}
use Rattle.cell_findings.specs.declared.list.SubjectFinding.{SubjectFinding}

-- the names of a cell's records, ascending
abbrev pub names_in : Cell → List RecName
names_in c = ascending name_order (record_names c)

-- a name of a connected node or an edge
abbrev pub is_part_name : RecName → Bool
is_part_name n = is_of_kind Vc n || is_edge_name n

-- each two of some names, the one that stands first with each behind it
abbrev pub pairs_among : List RecName → List Subject
pairs_among [] = []
pairs_among (a ∷ rest) = map (Pair a) rest ++ pairs_among rest

-- records of some names, and the sides of those that are edges
abbrev pub records_and_sides : List RecName → List Subject
records_and_sides names = map Rec names ++ map Side (filter is_edge_name names)

-- each two connected nodes or edges of some names
abbrev pub part_pairs : List RecName → List Subject
part_pairs names = pairs_among (filter is_part_name names)

-- the identifiers that a cell's features bear, ascending
abbrev pub identities_in : Cell → List Lnam
identities_in c = ascending (order_by identity_parts) (flat_map identities_of (all_records c))

-- the records of a cell, the sides of its edges, each two of its connected nodes and edges, and its identifiers
abbrev pub judged_subjects : Cell → List Subject
judged_subjects c = records_and_sides (names_in c) ++ (part_pairs (names_in c) ++ map Ident (identities_in c))

-- the findings about a subject, each with it
abbrev pub subject_findings : Cell → Subject → List SubjectFinding
subject_findings c s = map (with_subject s) (findings_of_subject c s)
