-- Whether a cell can be written, by tests that compute, on cells that can and on a cell for each reason why not.
use Rattle.std.specs.Prelude.{◌≡◌, ◌&&◌, Bool, true, false, not, nat_le, List, [], ◌∷◌, length, map, is_none}
use Rattle.std.specs.Bool.{Decides}
use Rattle.std.specs.List.{list_all}
use Rattle.s57_types.specs.Fitness.{is_fit_head, unfitness}
use Rattle.s57_types.specs.declared.cell.Cell.{Cell}
use Rattle.s57_types.specs.declared.name.Kind.{Kind}
use Rattle.s57_types.specs.declared.name.Kind.TheVariants.{Vi, Vc, Ve, Fe}
use Rattle.s57_types.specs.declared.name.RecName.{RecName}
use Rattle.s57_types.specs.declared.record.Rec.{Rec}
use Rattle.s57_types.specs.declared.record.Rec.TheVariants.{V, H}
use Rattle.s57_types.specs.Heads.{head_name}
use Rattle.cell_spec.specs.Lookup.{all_records, name_of}
use Rattle.cell_spec.specs.Names.{is_of_kind, same_name}
use Rattle.cell_spec.specs.Writable.{IsWritable, record_limit}
use Rattle.file_samples.specs.Fields.{attribute}
use Rattle.file_samples.specs.Limits.{crowd, points}
use Rattle.cell_parts.specs.Parts.{head, name, node, end_at, edge, area}
use Rattle.cell_make.specs.Square.{square}
use Rattle.file_samples.specs.SquareFile.{no_records}
use Rattle.file_samples.specs.WrittenFiles.{full_cell}

abbrev pub are_of_kind : Kind → List Rec → Bool
are_of_kind kind = list_all (λ r. is_of_kind kind (name_of r))

abbrev pub are_distinct : List RecName → Bool
are_distinct [] = true
are_distinct (n ∷ names) = list_all (λ m. not (same_name n m)) names && are_distinct names

unfoldable pub is_writable : Cell → Bool
is_writable c = is_fit_head c.head && are_of_kind Vi c.vi && are_of_kind Vc c.vc && are_of_kind Ve c.ve && are_of_kind Fe c.fe
    && list_all (λ r. is_none (unfitness c.head.nall r)) (all_records c) && are_distinct (map name_of (all_records c)) && nat_le
    (length (all_records c)) record_limit

-- what the tests say is so
abbrev pub WritableIsDecided : Type 0
WritableIsDecided = (c : Cell) → Decides (is_writable c) (IsWritable c)

-- an edge with a pointer to the head
abbrev pub edge_at_head : Rec
edge_at_head = V (record { name = name Ve 1; rver = 1; attrs = []; ends = record (end_at 1 1) { to = head_name } ∷ []; plane = []; deep = [] })

abbrev pub SamplesAreWritable : Type 0
SamplesAreWritable = map is_writable (no_records ∷ square ∷ full_cell ∷ record square { vc = points 12491 ∷ [] } ∷ []) ≡ true ∷ true ∷ true ∷ true ∷ []

-- a head and an attribute that don't fit, a record among others of another kind, a pointer to the head, the head in a list, a record that is too
-- long, two of one name, and one record too many
abbrev pub OthersAreNot : Type 0
OthersAreNot =
    map is_writable (
    record square { head = head 2 0 } ∷
    record square { fe = area 1 1 42 (attribute 1 (30 ∷ []) ∷ []) [] ∷ [] } ∷
    record square { vi = node 5 0 0 ∷ [] } ∷ record square { vc = edge 5 1 1 ∷ [] } ∷ record square { ve = node 5 0 0 ∷ [] } ∷ record square
    { fe = edge 5 1 1 ∷ [] } ∷
    record square { ve = edge_at_head ∷ [] } ∷ record square { vc = H (head 0 0) ∷ [] } ∷
    record square { vc = points 12492 ∷ [] } ∷
    record square { vc = node 1 0 0 ∷ node 2 0 0 ∷ node 1 5 5 ∷ [] } ∷ [])
    ≡ false ∷ false ∷ false ∷ false ∷ false ∷ false ∷ false ∷ false ∷ false ∷ false ∷ []

abbrev pub TooManyIsNot : Type 0
TooManyIsNot = map (λ n. nat_le (length (all_records (crowd n))) record_limit) (262144 ∷ 262145 ∷ []) ≡ true ∷ false ∷ []
