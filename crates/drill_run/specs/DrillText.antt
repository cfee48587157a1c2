-- The line of a generated cell, and that of a drill. This project's own text.
use Rattle.std.specs.Prelude.{ℕ, List, [], ◌∷◌, length, codes}
use Rattle.std.specs.Fmt.{decimal}
use Rattle.s57_types.specs.declared.cell.Cell.{Cell}
use Rattle.text_spec.specs.Lines.{line}
use Rattle.drill_run.specs.declared.counts.Drilled.{Drilled}

-- how many records of each kind a cell has, and how many bytes its file
abbrev pub made_line : Cell → ℕ → List ℕ
made_line c bytes =
    line (codes "made") (codes "vi" ∷ decimal (length c.vi) ∷ codes "vc" ∷ decimal (length c.vc) ∷ codes "ve" ∷ decimal
    (length c.ve) ∷ codes "fe" ∷ decimal (length c.fe)
    ∷ codes "bytes" ∷ decimal bytes ∷ [])

-- the size of the cell, the number of sessions, and the counts
abbrev pub drill_line : ℕ → ℕ → Drilled → List ℕ
drill_line n sessions drilled =
    line (codes "drill") (decimal n ∷ decimal sessions ∷ codes "accepted" ∷ decimal drilled.accepted ∷ codes "refused" ∷ decimal drilled.refused
    ∷ codes "findings" ∷ decimal drilled.findings ∷ [])
