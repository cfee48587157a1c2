-- Tables that are right for each key: verdicts, reads and the tiles of nodes and edges. This project's own rules.
use Rattle.std.specs.Prelude.{◌≡◌, ◌&&◌, ◌||◌, Bool, not, List, [], Option, None, Some, length, map, filter, nat_lt, if◌then◌else◌}
use Rattle.std.specs.List.{list_any}
use Rattle.std.specs.Option.{option_map_or}
use Rattle.std.specs.declared.cmp.Ordering.{Ordering}
use Rattle.std.specs.Ordering.{int_cmp, ordering_then}
use Rattle.s57_types.specs.declared.name.RecName.{RecName}
use Rattle.s57_types.specs.declared.cell.Cell.{Cell}
use Rattle.cell_spec.specs.declared.finding.Finding.{Finding}
use Rattle.cell_spec.specs.declared.key.Key.{Key}
use Rattle.cell_spec.specs.declared.key.Subject.{Subject}
use Rattle.cell_spec.specs.Ascending.{ascending}
use Rattle.cell_spec.specs.Names.{name_order, same_key, same_name, subject_order}
use Rattle.geometry_spec.specs.declared.tile.Box4.{Box4}
use Rattle.geometry_spec.specs.declared.tile.TileRange.{TileRange}
use Rattle.geometry_spec.specs.Tiles.{tile_count}
use Rattle.rule_spec.specs.Affected.{is_single, reads_key}
use Rattle.rule_spec.specs.Candidates.{candidates_of, have_common_tile, segments_named, tiles_under}
use Rattle.rule_spec.specs.EdgePoints.{Segment}
use Rattle.rule_spec.specs.Findings.{all_findings, findings_of_subject, is_subject, record_names, subjects}
use Rattle.rule_spec.specs.Reads.{read_set}
use Rattle.row_spec.specs.Rows.{IsAscending, value_of}
use Rattle.finding_laws.specs.Pairs.{box_around}

-- ---- verdicts
-- a subject's findings, where it has one
abbrev pub verdict_in : Cell → Subject → Option (List Finding)
verdict_in c s = let found = findings_of_subject c s in if nat_lt 0 (length found) then Some found else None

-- rows that are right for each subject
pub record IsVerdictTable (c : Cell) (rows : List (Subject × List Finding)) : Type 0 where
  pub ascending : IsAscending subject_order rows
  pub exact : (s : Subject) → value_of subject_order rows s ≡ verdict_in c s

-- they are all findings of the cell
abbrev pub VerdictTablesAreAll : Type 0
VerdictTablesAreAll = (c : Cell) (rows : List (Subject × List Finding)) → IsVerdictTable c rows → rows ≡ all_findings c

-- ---- reads
-- the read set of a record, a side or an identifier of the cell
abbrev pub reads_in : Cell → Subject → Option (List Key)
reads_in c s = if is_single s && is_subject c s then Some (read_set c s) else None

-- rows that are right for each of these
pub record IsReadsOf (c : Cell) (rows : List (Subject × List Key)) : Type 0 where
  pub ascending : IsAscending subject_order rows
  pub exact : (s : Subject) → value_of subject_order rows s ≡ reads_in c s

-- the subjects whose rows hold a key
abbrev pub readers_in : List (Subject × List Key) → Key → List Subject
readers_in rows k = map (λ (row : Subject × List Key). row.0) (filter (λ (row : Subject × List Key). list_any (same_key k) row.1) rows)

-- they are those of the cell that read it
abbrev pub ReadersAreListed : Type 0
ReadersAreListed = (c : Cell) (rows : List (Subject × List Key)) → IsReadsOf c rows → (k : Key)
    → readers_in rows k ≡ filter (λ s. is_single s && reads_key c k s) (subjects c)

-- ---- tiles
-- ranges of tiles by their sides: south, north, west, east
abbrev pub range_order : TileRange → TileRange → Ordering
range_order a b =
    ordering_then (int_cmp a.row_from b.row_from)
    (ordering_then (int_cmp a.row_to b.row_to) (ordering_then (int_cmp a.col_from b.col_from) (int_cmp a.col_to b.col_to)))

-- the tiles of segments, ascending, and the least box around them
pub record Covering : Type 0 where
  pub ranges : List TileRange
  pub extent : Option Box4

-- the covering of segments
abbrev pub covering_of : List Segment → Covering
covering_of ss = record { ranges = ascending range_order (map tiles_under ss); extent = box_around ss }

-- the covering of a node or edge that has segments
abbrev pub covering_in : Cell → RecName → Option Covering
covering_in c n = if nat_lt 0 (length (segments_named c n)) then Some (covering_of (segments_named c n)) else None

-- rows that are right for each name
pub record IsCoveringsOf (c : Cell) (rows : List (RecName × Covering)) : Type 0 where
  pub ascending : IsAscending name_order rows
  pub exact : (n : RecName) → value_of name_order rows n ≡ covering_in c n

-- oversized for tiling: over 64 tiles
abbrev pub is_oversized_range : TileRange → Bool
is_oversized_range t = nat_lt 64 (tile_count t)

-- of two lists of ranges one has an oversized one, or they have a tile in common
abbrev pub do_ranges_meet : List TileRange → List TileRange → Bool
do_ranges_meet rs ts = (list_any is_oversized_range rs || list_any is_oversized_range ts) || list_any (λ r. list_any (have_common_tile r) ts) rs

-- a row is of another name than this one, and its ranges meet those of a covering
abbrev pub is_mate : RecName → Covering → RecName × Covering → Bool
is_mate n own row = not (same_name n row.0) && do_ranges_meet own.ranges row.1.ranges

-- the others that may touch a name, by ranges; none for a name that has no row
abbrev pub mates_in : List (RecName × Covering) → RecName → List RecName
mates_in rows n = option_map_or (λ (own : Covering). map (λ (row : RecName × Covering). row.0) (filter (is_mate n own) rows)) (value_of name_order rows n) []

-- they are the candidates
abbrev pub MatesAreCandidates : Type 0
MatesAreCandidates = (c : Cell) (rows : List (RecName × Covering)) → IsCoveringsOf c rows → (n : RecName) → mates_in rows n ≡ candidates_of c n

-- ---- for each cell there are such tables
-- the read sets of its records, sides and identifiers
abbrev pub reads_listed : Cell → List (Subject × List Key)
reads_listed c = filter (λ (row : Subject × List Key). is_single row.0) (map (λ s. (s, read_set c s)) (subjects c))

-- the coverings of its nodes and edges that have segments
abbrev pub coverings_listed : Cell → List (RecName × Covering)
coverings_listed c =
    filter (λ (row : RecName × Covering). nat_lt 0 (length (segments_named c row.0)))
    (map (λ n. (n, covering_of (segments_named c n))) (ascending name_order (record_names c)))

pub record ListedTablesAreRight : Type 0 where
  pub verdicts : (c : Cell) → IsVerdictTable c (all_findings c)
  pub reads : (c : Cell) → IsReadsOf c (reads_listed c)
  pub coverings : (c : Cell) → IsCoveringsOf c (coverings_listed c)
