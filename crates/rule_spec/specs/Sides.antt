-- The areas at the two sides of an edge, and the features that bear an identifier (S-57 Appendix B.1, 3.10.1: Group 1 areas cover the
-- area that has data without gaps and overlaps; Part 3, 4.3: identifiers are unique).
use Rattle.std.specs.Prelude.{ℕ, ◌+◌, ◌-◌, ◌==◌, ◌&&◌, ◌||◌, Bool, not, List, [], ◌∷◌, Option, length, filter_map, find, count_by, nat_lt, slice_get}
use Rattle.std.specs.Prelude.{option_map, option_and_then, if◌then◌else◌}
use Rattle.std.specs.Option.{option_map_or}
use Rattle.s57_types.specs.declared.name.RecName.{RecName}
use Rattle.s57_types.specs.declared.name.Lnam.{Lnam}
use Rattle.s57_types.specs.declared.record.Feature.{Feature}
use Rattle.s57_types.specs.declared.record.Spot.{Spot}
use Rattle.s57_types.specs.declared.cell.Cell.{Cell}
use Rattle.cell_spec.specs.declared.key.Ref.{Ref}
use Rattle.cell_spec.specs.Lookup.{lookup_pointers, lookup_identity}
use Rattle.rule_spec.specs.declared.side.EdgeSideCounts.{EdgeSideCounts}
use Rattle.rule_spec.specs.declared.side.EdgeUse.{EdgeUse}
use Rattle.rule_spec.specs.Features.{is_group1_area, is_coverage_area}
use Rattle.rule_spec.specs.Records.{feature_named}
use Rattle.rule_spec.specs.Rule.{Found, found_if}

-- the use that a row of a feature's spatial pointers (FSPT) makes of an edge
abbrev pub use_of_row : Ref → Feature → Spot → EdgeUse
use_of_row pointer f row = record {
  pointer = pointer;
  is_area = f.prim == 3;
  is_group1 = is_group1_area f;
  is_coverage =
      is_coverage_area f;
  ornt = row.ornt;
  usag = row.usag;
}

-- the use that a pointer to an edge is, if a feature has it
abbrev pub use_by : Cell → Ref → Option EdgeUse
use_by c r = option_and_then (λ (f : Feature). option_map (use_of_row r f) (slice_get f.places (r.place - 1))) (feature_named c r.from)

-- the uses of an edge by features, ascending by feature and place
unfoldable pub uses_of : Cell → RecName → List EdgeUse
uses_of c n = filter_map (use_by c) (lookup_pointers c n)

-- how many uses of such an area go along the edge with an orientation (ORNT): 1 forward, 2 in reverse
abbrev pub side_count : (EdgeUse → Bool) → ℕ → List EdgeUse → ℕ
side_count is_such_area ornt uses = count_by (λ (u : EdgeUse). is_such_area u && (u.ornt == ornt)) uses

-- how often Group 1 areas and coverage areas use an edge forward and in reverse. An area lies to the right of its clockwise boundary, so these
-- count the areas at the right and at the left side.
abbrev pub side_counts : List EdgeUse → EdgeSideCounts
side_counts uses = record {
  group1_forward = side_count (λ u. u.is_group1) 1 uses;
  group1_reverse = side_count (λ u. u.is_group1) 2 uses;
  coverage_forward = side_count (λ u. u.is_coverage) 1 uses;
  coverage_reverse = side_count (λ u. u.is_coverage) 2 uses;
}

-- the four counts as the numbers of a finding
abbrev pub numbers_of : EdgeSideCounts → List ℕ
numbers_of n = n.group1_forward ∷ n.group1_reverse ∷ n.coverage_forward ∷ n.coverage_reverse ∷ []

-- Orphan: no feature uses the edge
abbrev pub orphan : Cell → RecName → Found
orphan c e = found_if (length (uses_of c e) == 0) []

abbrev pub overlaps : EdgeSideCounts → Bool
overlaps n = nat_lt 1 n.group1_forward || nat_lt 1 n.group1_reverse

-- SideOverlap: two areas of Group 1 lie at one side of the edge; the four counts
abbrev pub side_overlap : Cell → RecName → Found
side_overlap c e = let n = side_counts (uses_of c e) in found_if (overlaps n) (numbers_of n)

-- forward less reverse is the same for Group 1 as for the coverage
abbrev pub is_balanced : EdgeSideCounts → Bool
is_balanced n = n.group1_forward + n.coverage_reverse == n.coverage_forward + n.group1_reverse

-- SideUnbalanced: Group 1 and the coverage don't change alike from one side of the edge to the other; the four counts
abbrev pub side_unbalanced : Cell → RecName → Found
side_unbalanced c e = let n = side_counts (uses_of c e) in found_if (not (is_balanced n)) (numbers_of n)

-- an area's boundary is said to be cut off there by the data limit (USAG 3)
abbrev pub is_truncated : EdgeUse → Bool
is_truncated u = u.is_area && (u.usag == 3)

-- the numbers of a use: its feature's and the place
abbrev pub found_use : Option EdgeUse → Found
found_use u = option_map_or (λ (found : EdgeUse). (found.pointer.from.id ∷ found.pointer.place ∷ []) ∷ []) u []

-- FalseTruncation: a boundary is said to be cut off by the data limit along the edge, which isn't the limit of the coverage; the first such use
abbrev pub false_truncation : Cell → RecName → Found
false_truncation c e =
    let n = side_counts (uses_of c e) in
    if n.coverage_forward == n.coverage_reverse then found_use (find is_truncated (uses_of c e)) else []

-- TwiceFoid: more than one feature bears the identifier; their number
abbrev pub twice_foid : Cell → Lnam → Found
twice_foid c l = let bearers = length (lookup_identity c l) in found_if (nat_lt 1 bearers) (bearers ∷ [])
