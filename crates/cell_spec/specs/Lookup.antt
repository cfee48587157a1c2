-- What a cell answers to a key (S-57 Part 3, 2.2 and 7.6 to 7.7).
use Rattle.std.specs.Prelude.{ℕ, Bool, false, List, [], ◌∷◌, ◌++◌, Option, map, filter, find, flat_map}
use Rattle.std.specs.List.{enumerate_from}
use Rattle.s57_types.specs.declared.name.RecName.{RecName}
use Rattle.s57_types.specs.declared.name.Lnam.{Lnam}
use Rattle.s57_types.specs.declared.record.End.{End}
use Rattle.s57_types.specs.declared.record.Spot.{Spot}
use Rattle.s57_types.specs.declared.record.Rec.{Rec}
use Rattle.s57_types.specs.declared.record.Rec.TheVariants.{V, F, H}
use Rattle.s57_types.specs.declared.cell.Cell.{Cell}
pub use Rattle.s57_types.specs.RecordNames.{name_of}
use Rattle.cell_spec.specs.declared.key.Ref.{Ref}
use Rattle.cell_spec.specs.Ascending.{ascending}
use Rattle.cell_spec.specs.Names.{same_name, same_identity, ref_order, name_order}

-- all records of a cell: isolated nodes, connected nodes, edges, features; the head is none of them
abbrev pub all_records : Cell → List Rec
all_records c = c.vi ++ c.vc ++ c.ve ++ c.fe

-- what has a name: the head, and all records
abbrev pub head_and_records : Cell → List Rec
head_and_records c = H c.head ∷ all_records c

-- the names that a record points to, by VRPT of a vector record and FSPT of a feature record
abbrev pub targets_of : Rec → List RecName
targets_of (V v) = map (λ (e : End). e.to) v.ends
targets_of (F f) = map (λ (s : Spot). s.to) f.places
targets_of (H h) = []

-- the identifier that a feature bears, as a list of at most one
abbrev pub identities_of : Rec → List Lnam
identities_of (V v) = []
identities_of (F f) = f.foid ∷ []
identities_of (H h) = []

abbrev pub is_named : RecName → Rec → Bool
is_named n r = same_name n (name_of r)

abbrev pub bears : Lnam → Rec → Bool
bears l (V v) = false
bears l (F f) = same_identity l f.foid
bears l (H h) = false

-- the record of a name, or none
abbrev pub listed_record : Cell → RecName → Option Rec
listed_record c n = find (is_named n) (all_records c)

-- what has a name: the head, a record, or none
abbrev pub lookup_record : Cell → RecName → Option Rec
lookup_record c n = find (is_named n) (head_and_records c)

-- the places, counted from a number on, at which a record points to a name among some of its targets
abbrev pub pointers_at : RecName → Rec → ℕ → List RecName → List Ref
pointers_at n r first targets = map (λ (p : ℕ × RecName). record { from = name_of r; place = p.0 })
    (filter (λ (p : ℕ × RecName). same_name n p.1) (enumerate_from first targets))

-- the places, from 1, at which a record points to a name
abbrev pub pointers_in : RecName → Rec → List Ref
pointers_in n r = pointers_at n r 1 (targets_of r)

-- the pointers to a name, ascending by the record that has them and by place
abbrev pub lookup_pointers : Cell → RecName → List Ref
lookup_pointers c n = ascending ref_order (flat_map (pointers_in n) (all_records c))

-- the features that bear an identifier, ascending
abbrev pub lookup_identity : Cell → Lnam → List RecName
lookup_identity c l = ascending name_order (map name_of (filter (bears l) (all_records c)))
