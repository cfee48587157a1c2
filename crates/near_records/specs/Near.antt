-- What a cell answers to some keys. This project's own.
use Rattle.std.specs.Prelude.{◌≡◌, Bool, true, false, List, Option, None, Some, length, map, nat_lt, option_map}
use Rattle.std.specs.List.{All, list_any}
use Rattle.std.specs.Option.{option_copied}
use Rattle.std.specs.Ordering.{is_eq}
use Rattle.s57_types.specs.declared.record.Rec.{Rec}
use Rattle.s57_types.specs.declared.cell.Cell.{Cell}
use Rattle.cell_spec.specs.declared.key.Key.{Key}
use Rattle.cell_spec.specs.declared.key.Key.TheVariants.{Name, Refs, Foid}
use Rattle.cell_spec.specs.Ascending.{ascending}
use Rattle.cell_spec.specs.Lookup.{lookup_identity, lookup_record}
use Rattle.cell_spec.specs.Names.{key_order}
use Rattle.near_records.specs.declared.near.Answer.{Answer}
use Rattle.near_records.specs.declared.near.NearRecords.{NearRecords}

-- a key with the record of its name and whether a feature bears its identifier
pub record KeyAnswer : Type 0 where
  pub key : Key
  pub found : Option Rec
  pub borne : Bool

-- the record of the name that a key asks for
abbrev pub record_of_key : Cell → Key → Option Rec
record_of_key c (Name n) = lookup_record c n
record_of_key c (Refs n) = None
record_of_key c (Foid l) = None

-- whether a feature bears the identifier that a key asks for
abbrev pub is_borne_by : Cell → Key → Bool
is_borne_by c (Name n) = false
is_borne_by c (Refs n) = false
is_borne_by c (Foid l) = nat_lt 0 (length (lookup_identity c l))

-- what a cell answers to a key
abbrev pub answer_to : Cell → Key → KeyAnswer
answer_to c key = record { key = key; found = record_of_key c key; borne = is_borne_by c key }

-- an answer as it is kept
abbrev pub answer_held : Answer → KeyAnswer
answer_held a = record { key = a.key; found = option_copied a.record; borne = a.is_borne }

-- each is what a cell answers to its key
abbrev pub AreAnswers : Cell → List Answer → Type 0
AreAnswers c answers = All (λ (a : Answer). answer_held a ≡ answer_to c a.key) answers

-- whether a key is among some
abbrev pub has_key : List Key → Key → Bool
has_key keys key = list_any (λ other. is_eq (key_order key other)) keys

-- what is found among a cell's answers to some keys is its answer to a key among them
abbrev pub FindsAnswer : List Answer → Key → Option Answer → Type 0
FindsAnswer answers key found =
    (c : Cell) (keys : List Key) → map answer_held answers ≡ map (answer_to c) (ascending key_order keys) → has_key keys key ≡ true
    → option_map answer_held found ≡ Some (answer_to c key)

-- what a cell answers to some keys, ascending, each once
pub record IsNear (c : Cell) (keys : List Key) (near : NearRecords) : Type 0 where
  pub answers : map answer_held near.answers.items ≡ map (answer_to c) (ascending key_order keys)
