-- What a subject's findings depend on. This project's own rules.
use Rattle.std.specs.Prelude.{◌≡◌, All}
use Rattle.s57_types.specs.declared.cell.Cell.{Cell}
use Rattle.cell_spec.specs.declared.key.Subject.{Subject}
use Rattle.cell_spec.specs.AnswersAlike.{AnswerAlike}
use Rattle.rule_spec.specs.Findings.{findings_of_subject}
use Rattle.rule_spec.specs.Reads.{read_set}

-- a subject has the same findings, and the same read set, in two cells; neither need have the subject
pub record AreSameAbout (c d : Cell) (s : Subject) : Type 0 where
  pub findings : findings_of_subject c s ≡ findings_of_subject d s
  pub reads : read_set c s ≡ read_set d s

-- cells that answer alike to each key that a subject's read set has in the first are the same about that subject
abbrev pub FindingsFollowReads : Type 0
FindingsFollowReads = (s : Subject) (c d : Cell) → All (AnswerAlike c d) (read_set c s) → AreSameAbout c d s
