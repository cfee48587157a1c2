-- What a call draws, or why it ends. This project's own.
use Rattle.std.specs.Prelude.{◌≡◌, ℕ, List, Vec, length, nat_lt, Option, None, Some, Result, Ok, Err, IfSome, if◌then◌else◌}
use Rattle.std.specs.declared.alloc.Global.{Global}
use Rattle.cell_findings.specs.Rows.{findings_of_rows}
use Rattle.cell_picture.specs.Picture.{picture}
use Rattle.enc_outside.specs.Count.{Rose}
use Rattle.enc_outside.specs.Files.{Files, Told}
use Rattle.file_spec.specs.DecodedCell.{decoded_cell}
use Rattle.rule_spec.specs.Findings.{all_findings, finding_total}
use Rattle.s57_types.specs.declared.cell.Cell.{Cell}
use Rattle.s57_types.specs.declared.fault.CellFault.{CellFault}
use Rattle.whole_files.specs.Output.{Adds, AddsFront}
use Rattle.whole_files.specs.declared.input.InputRefusal.{InputRefusal}
use Rattle.whole_files.specs.declared.input.InputRefusal.TheVariants as input
use Rattle.draw_top.specs.declared.ending.Ending.{Ending}
use Rattle.draw_top.specs.declared.ending.Ending.TheVariants.{Done, Usage, Absent, BadCell, ReadFault, WriteFault, TooLarge, NoMemory, TooManyFindings}

-- how many bytes a cell file may have, and how many findings a cell
abbrev pub cell_limit : ℕ
cell_limit = 16777216

abbrev pub finding_limit : ℕ
finding_limit = 262144

abbrev pub drawn_cell : Cell → Result (List ℕ) Ending
drawn_cell c = if nat_lt finding_limit (finding_total c) then Err TooManyFindings else Ok (picture c (findings_of_rows (all_findings c)))

abbrev pub drawn_if : Result Cell CellFault → Result (List ℕ) Ending
drawn_if (Ok c) = drawn_cell c
drawn_if (Err fault) = Err (BadCell fault)

-- the picture of the cell that bytes stand for
abbrev pub drawn_bytes : List ℕ → Result (List ℕ) Ending
drawn_bytes bytes = drawn_if (decoded_cell bytes)

-- the picture of a file's cell
abbrev pub drawn_file : Option (List ℕ) → Result (List ℕ) Ending
drawn_file None = Err Absent
drawn_file (Some content) = if nat_lt cell_limit (length content) then Err TooLarge else drawn_bytes content

abbrev pub ending_of : InputRefusal → Ending
ending_of input.Absent = Absent
ending_of input.ReadFault = ReadFault
ending_of input.TooLarge = TooLarge
ending_of input.NoMemory = NoMemory

-- a text is the picture of the cell in the content of the named file; where the store tells its files, that is what it has under the name
pub record IsPicture (name : List ℕ) (files : Option Files) (text : List ℕ) : Type 0 where
  pub content : List ℕ
  pub drawn : drawn_file (Some content) ≡ Ok text
  pub told : IfSome files (λ fs. fs name ≡ Some content)

-- what stands under the name asks for an ending
abbrev pub IsAsked : List ℕ → Option Files → Ending → Type 0
IsAsked name files ending = IfSome files (λ fs. drawn_file (fs name) ≡ Err ending)

-- what is read of a file and drawn: the picture, or why there is none; reading may fail, and memory run out
abbrev pub IsAnswer : List ℕ → Option Files → ℕ → ℕ → Result (Vec ℕ Global) Ending → Type 0
IsAnswer name files before after (Ok text) = IsPicture name files text.items
IsAnswer name files before after (Err Done) = ⊥
IsAnswer name files before after (Err Usage) = ⊥
IsAnswer name files before after (Err WriteFault) = ⊥
IsAnswer name files before after (Err ReadFault) = Rose before after
IsAnswer name files before after (Err NoMemory) = Unit {0}
IsAnswer name files before after (Err ending) = IsAsked name files ending

-- the counts of failed reads and puts before and after a call: the one of the device that the ending tells rose, and each other stayed
abbrev pub CountsFaults : (reads reads_now puts puts_now : ℕ) → Ending → Type 0
CountsFaults reads reads_now puts puts_now ReadFault = Rose reads reads_now × (puts_now ≡ puts)
CountsFaults reads reads_now puts puts_now WriteFault = (reads_now ≡ reads) × Rose puts puts_now
CountsFaults reads reads_now puts puts_now ending = (reads_now ≡ reads) × (puts_now ≡ puts)

-- a picture that was put whole, or in part where a put failed
pub record IsPut (Added : List ℕ → List ℕ → List ℕ → Type 0) (name : List ℕ) (files : Option Files) (old new : Option (List ℕ)) : Type 0 where
  pub text : List ℕ
  pub put : Told (Added text) old new
  pub is : IsPicture name files text

-- how a call with one word ends: what the file is, which device failed, and what was put
abbrev pub IsCause : List ℕ → Option Files → ℕ → ℕ → Option (List ℕ) → Option (List ℕ) → ℕ → ℕ → Ending → Type 0
IsCause name files read_before read_after old new put_before put_after Done = IsPut Adds name files old new
IsCause name files read_before read_after old new put_before put_after WriteFault = IsPut AddsFront name files old new × Rose put_before put_after
IsCause name files read_before read_after old new put_before put_after ReadFault = (new ≡ old) × Rose read_before read_after
IsCause name files read_before read_after old new put_before put_after NoMemory = new ≡ old
IsCause name files read_before read_after old new put_before put_after Usage = ⊥
IsCause name files read_before read_after old new put_before put_after ending = (new ≡ old) × IsAsked name files ending
