-- A line has one line feed, at its end.
use Rattle.std.proofs.Common.{◌≡◌, ℕ, ◌+◌, false, List, [], ◌∷◌, ◌++◌, length, take, drop, codes, refl, sym, ap, ◌∙◌, arith, append_assoc}
use Rattle.std.specs.Fmt.{decimal}
use Rattle.std.proofs.lemmas.Bool.{false≢true}
use Rattle.std.proofs.Math.Seq.{take-append-add, drop-append-add}
use Rattle.std.proofs.lemmas.List.{length-append, append-nil, same_from_push}
use Rattle.s57_types.specs.Subfield.{holds}
use Rattle.cell_spec.specs.declared.edit.Edit.TheVariants.{Add, Set, Del, Head}
use Rattle.text_spec.specs.CellText.{name_words}
use Rattle.text_spec.specs.EditLine.{record_words, head_words}
use Rattle.text_spec.specs.ScriptLines.{ScriptLine, skipped, spoken, line_text, IsLine, IsCommand, is_skipped}
use Rattle.text_spec.specs.declared.command.Command.{Command}
use Rattle.text_spec.specs.declared.command.Command.TheVariants.{View, Commit, Drop, List as Findings, Push, Guard}
use Rattle.script_text.specs.Cuts.{before, from, IsFrom}
use Rattle.script_text.specs.Faults.{IsOf, HasSpoken}
use Rattle.script_text.specs.Guess.{command_text, first_word}
use Rattle.script_text.proofs.Cuts.{whole, cut_between, cut_of}
use Rattle.script_text.proofs.Words.{IsFree, free_append}
use Rattle.script_text.proofs.Frees.{without_number, without_name, without_record, free_spaced}
use Rattle.script_text.proofs.Heads.{without_head}
use Rattle.script_text.proofs.Widths.{name_of_width, record_of_width}
use Rattle.script_text.proofs.Commands.{line_is, text_cut}
use Rattle.script_text.proofs.AlikeCommands.{alike_commands}

pub free_command : (c : Command) → IsCommand c → IsFree 10 (command_text c)
free_command View can = record { free = refl }
free_command Commit can = record { free = refl }
free_command Drop can = record { free = refl }
free_command (Findings shown) can = free_append {front = codes "list"} (record { free = refl })
    (free_spaced 10 (decimal shown ∷ []) (λ e. omega arith) (without_number 10 shown (omega arith) (omega (arith, can))))
free_command (Push (Add r)) can = free_append {front = codes "add"} (record { free = refl })
    (free_spaced 10 (record_words r) (λ e. omega arith) (without_record 10 r (omega arith) (record_of_width r can.1)))
free_command (Push (Set r)) can = free_append {front = codes "set"} (record { free = refl })
    (free_spaced 10 (record_words r) (λ e. omega arith) (without_record 10 r (omega arith) (record_of_width r can.1)))
free_command (Push (Del n)) can = free_append {front = codes "del"} (record { free = refl })
    (free_spaced 10 (name_words n) (λ e. omega arith) (without_name 10 n (omega arith) (name_of_width n can.1)))
free_command (Push (Head e)) can = free_append {front = codes "set"} (record { free = refl })
    (free_spaced 10 (codes "head" ∷ head_words e) (λ e. omega arith) (without_head 10 e (omega arith)))
free_command (Guard n) can = free_append {front = codes "guard"} (record { free = refl })
    (free_spaced 10 (name_words n) (λ e. omega arith) (without_name 10 n (omega arith) (name_of_width n can.1)))

-- a line without its line feed
abbrev pub body : ScriptLine → List ℕ
body (skipped text) = text
body (spoken c) = command_text c

pub body_is : (l : ScriptLine) (rest : List ℕ) → line_text l ++ rest ≡ body l ++ (10 ∷ rest)
body_is (skipped text) rest = append_assoc text (10 ∷ []) rest
body_is (spoken c) rest = ap (λ t. t ++ rest) (line_is c) ∙ append_assoc (command_text c) (10 ∷ []) rest

pub free_body : (l : ScriptLine) → IsLine l → holds 10 (body l) ≡ false
free_body (skipped text) good = good.1
free_body (spoken c) good = (free_command c good).free

-- a text is cut at its first line feed in one way
pub record IsSame (line line' rest rest' : List ℕ) : Type 0 where
  pub line_is : line ≡ line'
  pub rest_is : rest ≡ rest'

pub first_feed : (line line' rest rest' : List ℕ) → holds 10 line ≡ false → holds 10 line' ≡ false → line ++ (10 ∷ rest) ≡ line' ++ (10 ∷ rest')
    → IsSame line line' rest rest'
first_feed line line' rest rest' free free' same =
    let one = cut_between 10 line (10 ∷ rest) free refl in
    let other = cut_of 10 (line ++ (10 ∷ rest)) line' (10 ∷ rest') same free' refl in
    record { line_is = sym one.front_is ∙ other.front_is; rest_is = ap (drop 1) (sym one.rest_is ∙ other.rest_is) }

pub no_feed : (text front rest : List ℕ) → holds 10 text ≡ false → holds 10 front ≡ false → text ≡ front ++ (10 ∷ rest) → ⊥
no_feed text front rest free free' same =
    let one = cut_of 10 text text [] (sym (append-nil text)) free tt in
    let other = cut_of 10 text front (10 ∷ rest) same free' refl in
    omega (arith, ap length (sym one.rest_is ∙ other.rest_is))

-- no command's line is passed over
pub spoken_by : (c : Command) → is_skipped (command_text c) ≡ false
spoken_by (Push (Add r)) = refl
spoken_by c = refl

-- the text of a line says what the line is
same_body : (l l' : ScriptLine) → IsLine l → IsLine l' → body l ≡ body l' → l ≡ l'
same_body (skipped text) (skipped text') good good' same = ap (λ (t : List ℕ). skipped t) same
same_body (skipped text) (spoken c') good good' same = absurd (false≢true (sym (spoken_by c') ∙ ap is_skipped (sym same) ∙ good.0))
same_body (spoken c) (skipped text') good good' same = absurd (false≢true (sym (spoken_by c) ∙ ap is_skipped same ∙ good'.0))
same_body (spoken c) (spoken c') good good' same = ap (λ (x : Command). spoken x)
    (alike_commands c c' good good' (line_is c ∙ ap (λ t. t ++ 10 ∷ []) same ∙ sym (line_is c')))

pub record AreSameLines (l l' : ScriptLine) (rest rest' : List ℕ) : Type 0 where
  pub line : l ≡ l'
  pub rest_is : rest ≡ rest'

pub same_lines : (l l' : ScriptLine) (rest rest' : List ℕ) → IsLine l → IsLine l' → line_text l ++ rest ≡ line_text l' ++ rest' → AreSameLines l l' rest rest'
same_lines l l' rest rest' good good' same =
    let cut = first_feed (body l) (body l') rest rest' (free_body l good) (free_body l' good') (sym (body_is l rest) ∙ same ∙ body_is l' rest') in
    record { line = same_body l l' good good' cut.line_is; rest_is = cut.rest_is }

-- a line of a command
pub text_of : (line : List ℕ) (c : Command) → IsOf line c → line ≡ command_text c
text_of line c of = (same_from_push line (command_text c) 10 10 (sym of.1 ∙ line_is c)).0

pub first_of : (line : List ℕ) (c : Command) → IsOf line c → first_word c ≡ before 32 line
first_of line c of = sym (text_cut c line (text_of line c of)).front_is

pub record IsSpoken (line : List ℕ) (l : ScriptLine) : Type 0 where
  pub command : Command
  pub is : l ≡ spoken command
  pub of : IsOf line command

spoken_line : (line : List ℕ) (l : ScriptLine) → is_skipped line ≡ false → IsLine l → line ≡ body l → IsSpoken line l
spoken_line line (skipped text) not_skipped good same = absurd (false≢true (sym not_skipped ∙ ap is_skipped same ∙ good.0))
spoken_line line (spoken c) not_skipped good same = record { command = c; is = refl; of = (good, line_is c ∙ ap (λ t. t ++ 10 ∷ []) (sym same)) }

pub spoken_first : {P : List ℕ → Type 0} (text : List ℕ) (h : HasSpoken text P) (l : ScriptLine) (rest : List ℕ) → IsLine l
    → text ≡ line_text l ++ rest → IsSpoken h.line l
spoken_first text h l rest good same =
    spoken_line h.line l h.not_skipped good (first_feed h.line (body l) h.rest rest h.free (free_body l good) (sym h.text_is ∙ same ∙ body_is l rest)).line_is

-- the parts of a text with a line feed
pub record IsParted (text front line rest : List ℕ) : Type 0 where
  pub text_is : text ≡ front ++ (10 ∷ rest)
  pub line_is : line ≡ front ++ 10 ∷ []
  pub free : holds 10 front ≡ false

parted_by : (text front line rest behind : List ℕ) → text ≡ front ++ behind → IsFrom 10 behind → (length front ≡ length text → ⊥) → holds 10 front ≡ false
    → line ≡ take (length front + 1) text → rest ≡ drop (length front + 1) text → IsParted text front line rest
parted_by text front line rest [] text_is begins fed free line_is rest_is = absurd (fed (ap length (sym (text_is ∙ append-nil front))))
parted_by text front line rest (b ∷ behind) text_is begins fed free line_is rest_is =
    let here : rest ≡ behind = rest_is ∙ ap (drop (length front + 1)) text_is ∙ drop-append-add front (b ∷ behind) 1 in
    record {
      text_is = text_is ∙ ap (λ x. front ++ (x ∷ behind)) begins ∙ ap (λ t. front ++ (10 ∷ t)) (sym here);
      line_is = line_is ∙ ap (take (length front + 1)) text_is ∙ take-append-add front (b ∷ behind) 1 ∙ ap (λ x. front ++ x ∷ []) begins;
      free = free;
    }

pub parted : (text front line rest : List ℕ) → front ≡ before 10 text → (length front ≡ length text → ⊥)
    → line ≡ take (length front + 1) text → rest ≡ drop (length front + 1) text → IsParted text front line rest
parted text front line rest front_is fed line_is rest_is =
    let w = whole 10 text in
    parted_by text front line rest (from 10 text) (sym w.joined ∙ ap (λ t. t ++ from 10 text) (sym front_is)) w.begins fed
    (ap (holds 10) front_is ∙ w.free) line_is rest_is

unfed_by : (text front behind : List ℕ) → front ++ behind ≡ text → length front ≡ length text → holds 10 front ≡ false → holds 10 text ≡ false
unfed_by text front [] joined same free = ap (holds 10) (sym joined ∙ append-nil front) ∙ free
unfed_by text front (b ∷ behind) joined same free = absurd (omega (arith, ap length joined, length-append front (b ∷ behind)))

pub unfed : (text front : List ℕ) → front ≡ before 10 text → length front ≡ length text → holds 10 text ≡ false
unfed text front front_is same =
    let w = whole 10 text in
    unfed_by text (before 10 text) (from 10 text) w.joined (ap length (sym front_is) ∙ same) w.free
