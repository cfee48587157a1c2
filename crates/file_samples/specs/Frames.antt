-- Small records, with the frame or the fault of each.
use Rattle.std.specs.Prelude.{◌≡◌, ℕ, ◌+◌, ◌-◌, ◌/◌, ◌%◌, true, false, List, [], ◌∷◌, ◌++◌, map, set, replicate, codes, Result, Ok, Err}
use Rattle.std.specs.List.{flat_map, range_with_len}
use Rattle.frame_spec.specs.RecordFrame.{FrameView, Field}
use Rattle.frame_spec.specs.FrameDecision.{frame_at}
use Rattle.frame_spec.specs.declared.fault.FrameFault.{FrameFault}
use Rattle.frame_spec.specs.declared.fault.FrameFault.TheVariants.{Short, BadLeader, BadDirectory}

abbrev pub Found : Type 0
Found = Result FrameView FrameFault

-- bytes beside what stands at their begin, as a data record
abbrev pub AreFrames : List (List ℕ × Found) → Type 0
AreFrames rows = map (λ (row : List ℕ × Found). frame_at row.0 0 false) rows ≡ map (λ (row : List ℕ × Found). row.1) rows

abbrev pub field : List ℕ → List ℕ → Field
field tag bytes = record { tag = tag; bytes = bytes }

abbrev pub framed : ℕ → List Field → Found
framed length fields = Ok (record { length = length; fields = fields })

-- a number below 100 as two digits
abbrev pub two_digits : ℕ → List ℕ
two_digits n = (48 + n / 10) ∷ (48 + n % 10) ∷ []

-- a record of one field, with so many digits for its length, 2, and for its position, 0
abbrev pub one_field_record : ℕ → ℕ → List ℕ
one_field_record m n =
    codes "000" ++ two_digits (31 + m + n) ++ codes " D     000" ++ two_digits (29 + m + n) ++ codes "   " ++ ((48 + m) ∷ (48 + n) ∷ 48 ∷ 52 ∷ [])
    ++ codes "SG2D" ++ replicate (m - 1) 48 ++ (50 ∷ []) ++ replicate n 48 ++ (30 ∷ 65 ∷ 30 ∷ [])

abbrev pub each_digit : List ℕ
each_digit = range_with_len 1 9

-- every entry map from 1 to 9
abbrev pub EntryMapsAreRead : Type 0
EntryMapsAreRead = AreFrames (flat_map (λ m. map (λ n. (one_field_record m n, framed (31 + m + n) (field (codes "SG2D") (65 ∷ 30 ∷ []) ∷ [])))
    each_digit) each_digit)

-- a record of two fields of three bytes: 24 bytes of leader, two entries of seven, a terminator, and six bytes
abbrev pub two_field_record : List ℕ
two_field_record = codes "00045 D     00039   1204" ++ codes "VRID300" ++ codes "SG2D303" ++ (30 ∷ []) ++ codes "abcdef"

abbrev pub two_fields : Found
two_fields = framed 45 (field (codes "VRID") (codes "abc") ∷ field (codes "SG2D") (codes "def") ∷ [])

-- with one byte changed, at a place from 0
abbrev pub changed : ℕ → ℕ → List ℕ
changed place byte = set two_field_record place byte

-- fields may overlap, may be one, and need not cover the field area; a record may have none
abbrev pub FieldsMayOverlap : Type 0
FieldsMayOverlap = AreFrames (
    (two_field_record, two_fields) ∷
    (two_field_record ++ codes "ghi", two_fields) ∷ (
      codes "00045 D     00039   1204VRID302SG2D401" ++ (30 ∷ []) ++ codes "abcdef",
      framed 45 (field (codes "VRID") (codes "cde") ∷ field (codes "SG2D") (codes "bcde") ∷ []),
    ) ∷ (
      codes "00045 D     00039   1204VRID600SG2D600" ++ (30 ∷ []) ++ codes "abcdef",
      framed 45 (field (codes "VRID") (codes "abcdef") ∷ field (codes "SG2D") (codes "abcdef") ∷ []),
    ) ∷ (
      codes "00045 D     00039   1204VRID105SG2D100" ++ (30 ∷ []) ++ codes "abcdef",
      framed 45 (field (codes "VRID") (codes "f") ∷ field (codes "SG2D") (codes "a") ∷ []),
    ) ∷
    (codes "00025 D     00025   1204" ++ (30 ∷ []), framed 25 []) ∷
    (codes "00029 D     00025   9904" ++ (30 ∷ []) ++ codes "abcd", framed 29 []) ∷ [])

-- the bytes that no reader looks at, and those that it does
abbrev pub LeadersAreJudged : Type 0
LeadersAreJudged = AreFrames (
    map (λ place. (changed place 120, two_fields)) (5 ∷ 7 ∷ 8 ∷ 9 ∷ 10 ∷ 11 ∷ 17 ∷ 18 ∷ 19 ∷ 22 ∷ [])
    ++ map (λ place. (changed place 120, Err BadLeader)) (0 ∷ 1 ∷ 2 ∷ 3 ∷ 4 ∷ 6 ∷ 12 ∷ 13 ∷ 14 ∷ 15 ∷ 16 ∷ 20 ∷ 21 ∷ 23 ∷ [])
    ++ (
    (changed 6 76, Err BadLeader) ∷ (changed 6 82, Err BadLeader) ∷
    (changed 20 48, Err BadLeader) ∷ (changed 20 58, Err BadLeader) ∷ (changed 21 48, Err BadLeader) ∷ (changed 21 58, Err BadLeader) ∷
    (changed 0 32, Err BadLeader) ∷ (changed 23 51, Err BadLeader) ∷
    -- a base address below 25, and a length below the base address
    (set (changed 15 50) 16 52, Err BadLeader) ∷ (set (changed 3 51) 4 56, Err BadLeader) ∷ []))

abbrev pub DirectoriesAreJudged : Type 0
DirectoriesAreJudged = AreFrames (
    -- no terminator before the base address, and no whole entries
    (changed 38 31, Err BadDirectory) ∷
    (codes "00045 D     00038   1204VRID300SG2D30" ++ (30 ∷ []) ++ codes "abcdefg", Err BadDirectory) ∷
    (changed 20 50, Err BadDirectory) ∷
    -- a length or a position that is no number, a length of 0, and a field that ends past the record
    (changed 28 120, Err BadDirectory) ∷ (changed 30 32, Err BadDirectory) ∷ (changed 36 47, Err BadDirectory) ∷ (changed 37 58, Err BadDirectory) ∷
    (changed 28 48, Err BadDirectory) ∷ (changed 35 48, Err BadDirectory) ∷
    (changed 35 52, Err BadDirectory) ∷ (changed 37 52, Err BadDirectory) ∷ (changed 28 55, Err BadDirectory) ∷ [])

-- a fault of the leader goes before the bytes of the record, and these before the directory
abbrev pub FrameFaultsHaveOrder : Type 0
FrameFaultsHaveOrder = AreFrames (
    ([], Err Short) ∷
    (codes "xxxxxxxxxxxxxxxxxxxxxxx", Err Short) ∷
    (codes "xxxxxxxxxxxxxxxxxxxxxxxx", Err BadLeader) ∷
    (codes "00045 D     00039   1204" ++ codes "VRID300" ++ codes "SG2D303" ++ (30 ∷ []) ++ codes "abcde", Err Short) ∷
    -- cut short, with a base address below 25, and with a length below the base address
    (codes "00045 D     00024   1204", Err BadLeader) ∷
    (codes "00038 D     00039   1204", Err BadLeader) ∷
    -- cut short, with a bad directory
    (codes "00046 D     00039   1204" ++ codes "VRID300" ++ codes "SG2D303" ++ codes "!abcdef", Err Short) ∷
    -- a bad leader with a bad directory
    (codes "00045 X     00039   1204" ++ codes "VRID300" ++ codes "SG2D303" ++ codes "!abcdef", Err BadLeader) ∷ [])

-- the same records at other places, and as the first of a file
abbrev pub PlacesDontMatter : Type 0
PlacesDontMatter =
    frame_at (codes "12345" ++ two_field_record ++ codes "678") 5 false ∷ frame_at (codes "12345" ++ two_field_record) 6 false ∷
    frame_at (changed 6 76) 0 true ∷ frame_at two_field_record 0 true ∷ []
    ≡ two_fields ∷ Err BadLeader ∷ two_fields ∷ Err BadLeader ∷ []
