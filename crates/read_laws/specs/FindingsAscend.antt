-- The order of a subject's findings. This project's own rules.
use Rattle.std.specs.List.Sorted.{IsStrictlySortedBy}
use Rattle.s57_types.specs.declared.cell.Cell.{Cell}
use Rattle.cell_spec.specs.declared.key.Subject.{Subject}
use Rattle.cell_spec.specs.Names.{finding_order}
use Rattle.rule_spec.specs.Findings.{findings_of_subject}

-- a subject's findings ascend by kind, then by their numbers, and none stands twice, whatever the cell
abbrev pub FindingsAscend : Type 0
FindingsAscend = (c : Cell) (s : Subject) → IsStrictlySortedBy finding_order (findings_of_subject c s)
