-- Small files by the fields of their records.
use Rattle.std.specs.Prelude.{◌≡◌, ℕ, false, List, [], ◌∷◌, ◌++◌, map, replicate, codes, Result, Err}
use Rattle.std.specs.List.{flat_map}
use Rattle.s57_types.specs.declared.cell.Cell.{Cell}
use Rattle.s57_types.specs.declared.fault.CellFault.{CellFault}
use Rattle.frame_spec.specs.RecordFrame.{Field}
use Rattle.frame_spec.specs.WrittenRecord.{written_record}
use Rattle.file_spec.specs.DecodedCell.{decoded_cell}
use Rattle.file_samples.specs.Fields.{identification_bytes}

-- what a file stands for
abbrev pub Meaning : Type 0
Meaning = Result Cell CellFault

-- a fault of the record of a number, which begins at an offset
abbrev pub fault : ℕ → ℕ → ℕ → Meaning
fault number offset code = Err (record { number = number; offset = offset; code = code })

-- files beside what they stand for
abbrev pub AreDecoded : List (List ℕ × Meaning) → Type 0
AreDecoded rows = map (λ (row : List ℕ × Meaning). decoded_cell row.0) rows ≡ map (λ (row : List ℕ × Meaning). row.1) rows

abbrev pub field : List ℕ → List ℕ → Field
field tag bytes = record { tag = tag; bytes = bytes }

abbrev pub number : Field
number = field (codes "0001") (1 ∷ 0 ∷ 30 ∷ [])

-- DSID with an exchange purpose EXPP, and DSSI with a topology DSTR and a level AALL
abbrev pub dsid : ℕ → Field
dsid expp = field (codes "DSID") ((10 ∷ 1 ∷ 0 ∷ 0 ∷ 0 ∷ expp ∷ 5 ∷ 31 ∷ 31 ∷ 31 ∷ []) ++ codes "202401012024010103.1"
    ++ (1 ∷ 31 ∷ 31 ∷ 1 ∷ 1 ∷ 0 ∷ 31 ∷ 30 ∷ []))

-- a control byte stands in the edition STED
abbrev pub dsid_of_bad_text : Field
dsid_of_bad_text = field (codes "DSID") (identification_bytes 10 30 (31 ∷ 30 ∷ []))

abbrev pub dssi : ℕ → ℕ → Field
dssi dstr aall =
    field (codes "DSSI") (dstr ∷ aall ∷ 0 ∷ (replicate 32 0 ++ (30 ∷ [])))

abbrev pub dspm : Field
dspm = field (codes "DSPM") (20 ∷ 1 ∷ 0 ∷ 0 ∷ 0 ∷ 2 ∷ 23 ∷ 23 ∷ 16 ∷ 39 ∷ 0 ∷ 0 ∷ 1 ∷ 1 ∷ 1 ∷ 1 ∷ 128 ∷ 150 ∷ 152 ∷ 0 ∷ 10 ∷ 0 ∷ 0 ∷ 0 ∷ 31 ∷ 30 ∷ [])

-- VRID and FRID with an identification number and an update instruction RUIN
abbrev pub vrid : ℕ → ℕ → ℕ → Field
vrid rcnm id ruin = field (codes "VRID") (rcnm ∷ id ∷ 0 ∷ 0 ∷ 0 ∷ 1 ∷ 0 ∷ ruin ∷ 30 ∷ [])

abbrev pub frid : ℕ → ℕ → Field
frid id ruin = field (codes "FRID") (100 ∷ id ∷ 0 ∷ 0 ∷ 0 ∷ 255 ∷ 2 ∷ 42 ∷ 0 ∷ 1 ∷ 0 ∷ ruin ∷ 30 ∷ [])

abbrev pub foid : Field
foid = field (codes "FOID") (1 ∷ 0 ∷ 1 ∷ 0 ∷ 0 ∷ 0 ∷ 1 ∷ 0 ∷ 30 ∷ [])

-- one attribute of a text of one byte
abbrev pub attributes : List ℕ → ℕ → Field
attributes tag byte = field tag (1 ∷ 0 ∷ byte ∷ 31 ∷ 30 ∷ [])

-- the data descriptive record without a field, of 25 bytes
abbrev pub bare_description : List ℕ
bare_description = codes "00025 L     00025   1104" ++ (30 ∷ [])

abbrev pub file : List (List Field) → List ℕ
file records = bare_description ++ flat_map (written_record false) records

abbrev pub general : List Field
general = dsid 1 ∷ dssi 2 0 ∷ []

abbrev pub geographic : List Field
geographic = dspm ∷ []

-- behind the two head records, the first data record has the number 4 and begins at 198
abbrev pub file_with : List (List Field) → List ℕ
file_with records = file (general ∷ geographic ∷ records)

abbrev pub file_behind : List ℕ → List ℕ
file_behind bytes = file_with [] ++ bytes
