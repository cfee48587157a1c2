-- The forms of words of a call.
use Rattle.std.specs.Prelude.{ℕ, ◌^◌, ◌&&◌, Bool, false, nat_eq, nat_le, nat_lt, List, [], ◌∷◌, length, find, Option, None, Some, option_map}
use Rattle.std.specs.Prelude.{option_and_then, codes, ℤ, pos, neg_ℤ, int_le, int_lt, if◌then◌else◌}
use Rattle.std.specs.List.{range_with_len}
use Rattle.std.specs.Cmp.Lexicographic.{pointwise}
use Rattle.std.specs.Fmt.{decimal, signed_decimal}
use Rattle.std.specs.Str.Parse.{digits_value, signed_digits_value}
use Rattle.geometry_spec.specs.Points.{Point}
use Rattle.enc_top.specs.declared.operation.Operation.{Operation}
use Rattle.enc_top.specs.declared.operation.Operation.TheVariants.{Split, Join}
use Rattle.enc_top.specs.declared.operation.OperationKind.{OperationKind}
use Rattle.enc_top.specs.declared.operation.OperationKind.TheVariants as kinds
use Rattle.call_files.specs.Words.{is_word}

-- the text is that of a number
abbrev pub is_written_as : List ℕ → ℕ → Bool
is_written_as text n = pointwise nat_eq (decimal n) text

-- the number from 1 to a limit that a text is, decimal without leading zeros
abbrev pub number_up_to : ℕ → List ℕ → Option ℕ
number_up_to limit text = find (is_written_as text) (range_with_len 1 limit)

-- the number that fits 32 bits that a text is, decimal without leading zeros
abbrev pub number_in : List ℕ → Option ℕ
number_in text = if nat_lt (digits_value 10 text) (2 ^ 32) && is_written_as text (digits_value 10 text) then Some (digits_value 10 text) else None

-- a signed number of 32 bits
abbrev pub is_coordinate : ℤ → Bool
is_coordinate z = int_le (neg_ℤ (pos (2 ^ 31))) z && int_lt z (pos (2 ^ 31))

-- the coordinate that a text is: decimal without leading zeros, and `-` before a negative one alone
abbrev pub coordinate_of : List ℕ → Option ℤ
coordinate_of text = let z = signed_digits_value 10 text in if is_coordinate z && pointwise nat_eq (signed_decimal z) text then Some z else None

abbrev pub is_between : ℕ → ℕ → ℕ → Bool
is_between low high n = nat_le low n && nat_le n high

-- what the words of a call ask for, with the names of files
pub data Form : Type 0 where
  check_form : List ℕ → Form
  replay_form : (cell out order : List ℕ) → List (List ℕ) → Form
  room_form : (cell out : List ℕ) → List (List ℕ) → Form
  make_form : ℕ → (out : List ℕ) → Form
  drill_form : (n sessions : ℕ) → Form
  edge_form : (cell out : List ℕ) → Operation → Form
  probe_form : (cell : List ℕ) → (at : Point) → Form
  apply_form : (cell out update : List ℕ) → Form
  no_form : Form

-- the words behind `check`: CELL
abbrev pub check_among : List (List ℕ) → Form
check_among (cell ∷ []) = check_form cell
check_among other = no_form

-- the words behind `replay`: CELL OUT ORDER S1 .. Sk with k from 1 to 16
abbrev pub replay_among : List (List ℕ) → Form
replay_among (cell ∷ out ∷ order ∷ scripts) = if is_between 1 16 (length scripts) then replay_form cell out order scripts else no_form
replay_among other = no_form

-- the words behind `room`: CELL OUT S1 .. Sk with k from 1 to 16
abbrev pub room_among : List (List ℕ) → Form
room_among (cell ∷ out ∷ scripts) = if is_between 1 16 (length scripts) then room_form cell out scripts else no_form
room_among other = no_form

-- the words behind `make`: N OUT with N from 1 to 100
abbrev pub make_of : List ℕ → Option ℕ → Form
make_of out None = no_form
make_of out (Some n) = make_form n out

abbrev pub make_among : List (List ℕ) → Form
make_among (n ∷ out ∷ []) = make_of out (number_up_to 100 n)
make_among other = no_form

-- the words behind `drill`: N K with N from 1 to 100 and K from 1 to 16
abbrev pub drill_of : Option ℕ → Option ℕ → Form
drill_of None sessions = no_form
drill_of (Some n) None = no_form
drill_of (Some n) (Some sessions) = drill_form n sessions

abbrev pub drill_among : List (List ℕ) → Form
drill_among (n ∷ sessions ∷ []) = drill_of (number_up_to 100 n) (number_up_to 16 sessions)
drill_among other = no_form

-- the words behind `split`: CELL OUT E K V F, and those behind `join`: CELL OUT E F, the numbers all from 0 to 4,294,967,295
abbrev pub split_in : List (List ℕ) → Option Operation
split_in (edge ∷ at ∷ node ∷ fresh ∷ []) =
    option_and_then (λ e. option_and_then (λ k. option_and_then (λ v. option_map (Split e k v) (number_in fresh)) (number_in node)) (number_in at))
    (number_in edge)
split_in other = None

abbrev pub join_in : List (List ℕ) → Option Operation
join_in (edge ∷ other ∷ []) = option_and_then (λ e. option_map (Join e) (number_in other)) (number_in edge)
join_in other = None

abbrev pub operation_in : OperationKind → List (List ℕ) → Option Operation
operation_in kinds.Split = split_in
operation_in kinds.Join = join_in

abbrev pub edge_of : (cell out : List ℕ) → Option Operation → Form
edge_of cell out None = no_form
edge_of cell out (Some operation) = edge_form cell out operation

abbrev pub edge_among : (List (List ℕ) → Option Operation) → List (List ℕ) → Form
edge_among reading (cell ∷ out ∷ numbers) = edge_of cell out (reading numbers)
edge_among reading other = no_form

-- the words behind `probe`: CELL Y X, the latitude and the longitude of a point
abbrev pub probe_of : List ℕ → Option ℤ → Option ℤ → Form
probe_of cell None x = no_form
probe_of cell (Some y) None = no_form
probe_of cell (Some y) (Some x) = probe_form cell (y, x)

abbrev pub probe_among : List (List ℕ) → Form
probe_among (cell ∷ y ∷ x ∷ []) = probe_of cell (coordinate_of y) (coordinate_of x)
probe_among other = no_form

-- the words behind `apply`: CELL OUT UPDATE
abbrev pub apply_among : List (List ℕ) → Form
apply_among (cell ∷ out ∷ update ∷ []) = apply_form cell out update
apply_among other = no_form

-- the first word is `room`
abbrev pub begins_with_room : List (List ℕ) → Bool
begins_with_room [] = false
begins_with_room (first ∷ others) = is_word (codes "room") first

unfoldable pub form_of : List (List ℕ) → Form
form_of [] = no_form
form_of (first ∷ others) =
    if is_word (codes "room") first then room_among others else
    (if is_word (codes "check") first then check_among others else
    (if is_word (codes "replay") first then replay_among others else
    (if is_word (codes "make") first then make_among others else
    (if is_word (codes "drill") first then drill_among others else
    (if is_word (codes "split") first then edge_among split_in others else
    (if is_word (codes "join") first then edge_among join_in others else
    (if is_word (codes "probe") first then probe_among others else
    (if is_word (codes "apply") first then apply_among others else no_form))))))))
