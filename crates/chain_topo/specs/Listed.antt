-- The pointers and the identities of a cell as lists of pairs, and the values of one key in such a list. This project's own.
use Rattle.std.specs.Prelude.{◌≡◌, ℕ, ◌≤◌, List, length, map, filter, flat_map}
use Rattle.std.specs.List.{enumerate_from}
use Rattle.std.specs.declared.cmp.Ordering.{Ordering}
use Rattle.std.specs.Ordering.{is_eq, ordering_then}
use Rattle.s57_types.specs.declared.name.RecName.{RecName}
use Rattle.s57_types.specs.declared.name.Lnam.{Lnam}
use Rattle.s57_types.specs.declared.record.Rec.{Rec}
use Rattle.s57_types.specs.RecordFields.{length_limit}
use Rattle.cell_spec.specs.declared.key.Ref.{Ref}
use Rattle.cell_spec.specs.Ascending.{ascending}
use Rattle.cell_spec.specs.Lookup.{bears, identities_of, name_of, pointers_in, targets_of}
use Rattle.cell_spec.specs.Names.{identity_order, name_order, ref_order}

-- the order of pairs by their keys, then by their values
abbrev pub pair_order : {K V : Type 0} → (K → K → Ordering) → (V → V → Ordering) → K × V → K × V → Ordering
pair_order by_key by_value a b = ordering_then (by_key a.0 b.0) (by_value a.1 b.1)

-- the values of the pairs that have a key
abbrev pub values_at : {K V : Type 0} → (K → K → Ordering) → List (K × V) → K → List V
values_at {K} {V} by_key pairs key = map (λ (p : K × V). p.1) (filter (λ (p : K × V). is_eq (by_key p.0 key)) pairs)

-- pointers from a record, the first of which stands at a place: each target with the pointer to it
abbrev pub pointers_from : RecName → ℕ → List RecName → List (RecName × Ref)
pointers_from from first targets = map (λ (p : ℕ × RecName). (p.1, record { from = from; place = p.0 })) (enumerate_from first targets)

-- the pointers of a record
abbrev pub pointers_of : Rec → List (RecName × Ref)
pointers_of r = pointers_from (name_of r) 1 (targets_of r)

-- a record has no more pointers than it may have bytes
abbrev pub HasFewPointers : Rec → Type 0
HasFewPointers r = length (targets_of r) ≤ length_limit

-- the pointers of all records
abbrev pub pointers_listed : List Rec → List (RecName × Ref)
pointers_listed rs = flat_map pointers_of rs

-- the identifier that a record bears, with its name
abbrev pub identity_of : Rec → List (Lnam × RecName)
identity_of r = map (λ l. (l, name_of r)) (identities_of r)

abbrev pub identities_listed : List Rec → List (Lnam × RecName)
identities_listed rs = flat_map identity_of rs

-- pairs of a target and a pointer that have the pointers of records
abbrev pub ArePointersOf : List Rec → List (RecName × Ref) → Type 0
ArePointersOf rs pointers = (n : RecName) → values_at name_order pointers n ≡ ascending ref_order (flat_map (pointers_in n) rs)

-- pairs of an identifier and a name that have the features among records
abbrev pub AreBearersOf : List Rec → List (Lnam × RecName) → Type 0
AreBearersOf rs bearers = (l : Lnam) → values_at identity_order bearers l ≡ ascending name_order (map name_of (filter (bears l) rs))
