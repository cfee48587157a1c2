-- The number and the line of each ending, those of `enc_cell check`. This project's own.
use Rattle.std.specs.Prelude.{ℕ, List, [], ◌∷◌, ◌++◌, codes}
use Rattle.std.specs.Fmt.{decimal}
use Rattle.s57_types.specs.declared.fault.CellFault.{CellFault}
use Rattle.text_spec.specs.Lines.{line, spaced_words}
use Rattle.draw_top.specs.declared.ending.Ending.{Ending}
use Rattle.draw_top.specs.declared.ending.Ending.TheVariants.{Done, Usage, Absent, BadCell, ReadFault, WriteFault, TooLarge, NoMemory, TooManyFindings}

-- the exit status; 1 is left to the runtime
abbrev pub ending_number : Ending → ℕ
ending_number Done = 0
ending_number Usage = 2
ending_number Absent = 3
ending_number (BadCell fault) = 4
ending_number ReadFault = 6
ending_number WriteFault = 7
ending_number TooLarge = 8
ending_number NoMemory = 9
ending_number TooManyFindings = 12

-- a word and its number
abbrev pub numbered : List ℕ → ℕ → List ℕ
numbered word number = spaced_words (word ∷ decimal number ∷ [])

abbrev pub bad_cell_line : CellFault → List ℕ
bad_cell_line fault =
    codes "enc_draw: bad cell" ++ (numbered (codes "record") fault.number ++ (numbered (codes "offset") fault.offset
    ++ (numbered (codes "code") fault.code ++ codes "\n")))

-- the line on the error output, or nothing where all is done; it may name the file
abbrev pub ending_line : List ℕ → Ending → List ℕ
ending_line name Done = []
ending_line name Usage = line (codes "enc_draw: usage") []
ending_line name Absent = line (codes "enc_draw: absent") (name ∷ [])
ending_line name (BadCell fault) = bad_cell_line fault
ending_line name ReadFault = line (codes "enc_draw: read fault") (name ∷ [])
ending_line name WriteFault = line (codes "enc_draw: write fault") []
ending_line name TooLarge = line (codes "enc_draw: too large") (name ∷ [])
ending_line name NoMemory = line (codes "enc_draw: no memory") []
ending_line name TooManyFindings = line (codes "enc_draw: too many findings") []
