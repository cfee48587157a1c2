-- The findings about a feature, by what its rules look at. This project's own.
use Rattle.std.specs.Prelude.{List, ◌++◌, map}
use Rattle.s57_types.specs.declared.record.Feature.{Feature}
use Rattle.s57_types.specs.declared.cell.Cell.{Cell}
use Rattle.cell_spec.specs.declared.finding.Finding.{Finding}
use Rattle.rule_spec.specs.declared.kind.TheConstants.{BAD_CODES, DANGLING_REF, MIXED_RING, OPEN_RING, OUTER_COUNT, PRIM_REFS, WRONG_TURN}
use Rattle.rule_spec.specs.Boundary.{open_ring, mixed_ring, outer_count, wrong_turn}
use Rattle.rule_spec.specs.Features.{prim_refs, dangling_ref, bad_codes}
use Rattle.rule_spec.specs.Findings.{finding}

-- the findings about the spatial pointers of a feature
unfoldable pub pointer_findings : Cell → Feature → List Finding
pointer_findings c f = map (finding PRIM_REFS) (prim_refs c f) ++ map (finding DANGLING_REF) (dangling_ref c f) ++ map (finding BAD_CODES) (bad_codes c f)

-- the findings about the boundary of an area
unfoldable pub boundary_findings : Cell → Feature → List Finding
boundary_findings c f =
    map (finding OPEN_RING) (open_ring c f) ++ (map (finding MIXED_RING) (mixed_ring c f)
    ++ (map (finding OUTER_COUNT) (outer_count c f) ++ map (finding WRONG_TURN) (wrong_turn c f)))
