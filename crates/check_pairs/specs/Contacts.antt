-- The findings about the contact of two edges, as kinds 7 to 9 share them.
use Rattle.std.specs.Prelude.{List, ◌++◌, Option, map}
use Rattle.s57_types.specs.declared.name.RecName.{RecName}
use Rattle.s57_types.specs.declared.cell.Cell.{Cell}
use Rattle.cell_spec.specs.declared.finding.Finding.{Finding}
use Rattle.rule_spec.specs.declared.kind.TheConstants.{COINCIDE, CROSS, TOUCH}
use Rattle.rule_spec.specs.Contacts.{found_contact, cross, touch, coincide}
use Rattle.rule_spec.specs.Findings.{finding}
use Rattle.rule_spec.specs.Vectors.{Numbered}

-- Cross, Touch or Coincide of the two segments that there are
abbrev pub contact_findings : Option (Numbered × Numbered) → List Finding
contact_findings pair = map (finding CROSS) (found_contact CROSS pair)
    ++ (map (finding TOUCH) (found_contact TOUCH pair) ++ map (finding COINCIDE) (found_contact COINCIDE pair))

-- Cross, Touch or Coincide of two edges
abbrev pub edge_contacts : Cell → RecName → RecName → List Finding
edge_contacts c a b = map (finding CROSS) (cross c a b) ++ (map (finding TOUCH) (touch c a b) ++ map (finding COINCIDE) (coincide c a b))
