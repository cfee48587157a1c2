-- Reading a script line by line.
use Rattle.std.proofs.Common.{◌≡◌, ℕ, ◌≤◌, ◌+◌, true, false, List, [], ◌∷◌, ◌++◌, length, Ok, Err, Option, Some, None, refl, sym, ap, ◌∙◌, arith, subst}
use Rattle.std.proofs.Common.{append_assoc}
use Rattle.std.specs.List.{flat_map}
use Rattle.std.proofs.lemmas.List.{length-append, append-nil}
use Rattle.std.proofs.lemmas.List.Concat.{flat_map-append}
use Rattle.std.proofs.lemmas.List.Elements.{All-nil, All-cons, All-append, filter_map-append}
use Rattle.text_spec.specs.ScriptLines.{ScriptLine, skipped, spoken, line_text, spoken_command, IsLine, is_skipped, command_limit}
use Rattle.text_spec.specs.declared.command.Command.{Command}
use Rattle.script_text.specs.Faults.{IsLineFault, IsOf, fault_code}
use Rattle.script_text.specs.Guess.{IsReadOf}
use Rattle.script_text.specs.Reading.{IsOnlyReading}
use Rattle.script_text.specs.Steps.{IsReadTo, IsLineRead, IsLineRefusal, IsTaken, IsNotTaken, IsTextFault, IsFormFault, IsFirstRefusal, first_refusal}
use Rattle.script_text.specs.declared.refusal.LineFault.{LineFault}
use Rattle.script_text.specs.declared.refusal.LineFault.TheVariants.{NoLineFeed, UnknownWord, WrongForm, TooManyCommands}
use Rattle.script_text.specs.declared.refusal.LineRefusal.{LineRefusal}
use Rattle.script_text.specs.declared.refusal.LineRefusal.TheVariants.{Fault, NoMemory}
use Rattle.script_text.proofs.Fed.{IsParted}
use Rattle.script_text.proofs.Readings.{commands_of, only_reading}

-- nothing is read yet
pub read_none : (bytes : List ℕ) (count : ℕ) (commands : List Command) → count ≡ 0 → commands ≡ [] → IsReadTo bytes count bytes commands
read_none bytes count commands count_is commands_are = record {
  lines = [];
  begun = record { each = All-nil IsLine; bytes_are = refl; few = omega arith };
  count_is = count_is;
  commands_are = commands_are;
}

-- one line more
more_line : (l : ScriptLine) (text rest : List ℕ) (earlier commands : List Command) → IsLine l → text ≡ line_text l ++ rest
    → commands ≡ earlier ++ commands_of (l ∷ []) → (length earlier ≤ command_limit → length commands ≤ command_limit) → IsLineRead text rest earlier commands
more_line l text rest earlier commands good text_is commands_are few = λ bytes count to.
    let same : commands ≡ commands_of (to.lines ++ l ∷ []) =
    commands_are ∙ ap (λ t. t ++ commands_of (l ∷ [])) to.commands_are ∙ sym (filter_map-append spoken_command to.lines (l ∷ [])) in
    record {
      lines = to.lines ++ l ∷ [];
      begun = record {
        each = All-append IsLine to.lines (l ∷ []) to.begun.each (All-cons IsLine l [] good (All-nil IsLine));
        bytes_are = to.begun.bytes_are ∙ ap (λ t. flat_map line_text to.lines ++ t) (text_is ∙ ap (λ t. t ++ rest) (sym (append-nil (line_text l))))
            ∙ sym (append_assoc (flat_map line_text to.lines) (flat_map line_text (l ∷ [])) rest)
            ∙ ap (λ t. t ++ rest) (sym (flat_map-append line_text to.lines (l ∷ [])));
        few = subst (λ (t : List Command). length t ≤ command_limit) same
            (few (subst (λ (t : List Command). length t ≤ command_limit) (sym to.commands_are) to.begun.few));
      };
      count_is = omega (arith, to.count_is, length-append to.lines (l ∷ []));
      commands_are = same;
    }

pub read_skipped : (text front line rest : List ℕ) (script : List Command) → IsParted text front line rest → is_skipped front ≡ true
    → IsLineRead text rest script script
read_skipped text front line rest script p passed =
    more_line (skipped front) text rest script script (passed, p.free) (p.text_is ∙ sym (append_assoc front (10 ∷ []) rest))
    (sym (append-nil script)) (λ few. few)

pub read_spoken : (text front line rest : List ℕ) (earlier commands : List Command) → IsParted text front line rest
    → IsTaken front earlier commands → IsLineRead text rest earlier commands
read_spoken text front line rest earlier commands p t =
    more_line (spoken t.taken) text rest earlier commands t.is_of.0
    (p.text_is ∙ sym (append_assoc front (10 ∷ []) rest) ∙ ap (λ x. x ++ rest) (sym t.is_of.1))
    t.commands_are (λ few. omega (arith, t.room, ap length t.commands_are, length-append earlier (t.taken ∷ [])))

-- a line that isn't taken
spoken_fault : (text front line rest : List ℕ) (earlier : ℕ) → IsParted text front line rest → is_skipped front ≡ false → (fault : LineFault)
    → IsTextFault earlier front fault → IsLineFault earlier text fault
spoken_fault text front line rest earlier p not_passed NoLineFeed is = absurd is
spoken_fault text front line rest earlier p not_passed UnknownWord is =
    record { line = front; rest = rest; text_is = p.text_is; free = p.free; not_skipped = not_passed; is_so = is }
spoken_fault text front line rest earlier p not_passed WrongForm is =
    record { line = front; rest = rest; text_is = p.text_is; free = p.free; not_skipped = not_passed; is_so = is }
spoken_fault text front line rest earlier p not_passed TooManyCommands is =
    record { line = front; rest = rest; text_is = p.text_is; free = p.free; not_skipped = not_passed; is_so = is }

pub stuck_spoken : (text front line rest : List ℕ) (earlier : List Command) → IsParted text front line rest → is_skipped front ≡ false
    → (refusal : LineRefusal) → IsNotTaken front earlier refusal
    → IsLineRefusal (length earlier) text refusal
stuck_spoken text front line rest earlier p not_passed (Fault fault) is = spoken_fault text front line rest (length earlier) p not_passed fault is
stuck_spoken text front line rest earlier p not_passed NoMemory is = tt

-- what a line was read as
pub none_of : (front line : List ℕ) → line ≡ front ++ 10 ∷ [] → (read : Option Command) → IsReadOf line read → read ≡ None → (c : Command) → IsOf front c → ⊥
none_of front line line_is (Some d) is none c of = absurd (cc)
none_of front line line_is None is none c of = absurd (let e = is.found c of.0 (of.1 ∙ sym line_is) in cc)

pub form_not_taken : (earlier : ℕ) (front : List ℕ) (fault : LineFault) → IsFormFault front fault → ((c : Command) → IsOf front c → ⊥)
    → IsTextFault earlier front fault
form_not_taken earlier front NoLineFeed is none = absurd is
form_not_taken earlier front UnknownWord is none = is
form_not_taken earlier front WrongForm is none = (is, none)
form_not_taken earlier front TooManyCommands is none = absurd is

-- the whole text is read
pub whole_script : (bytes : List ℕ) (count : ℕ) (rest : List ℕ) (commands : List Command) → length rest ≡ 0 → IsReadTo bytes count rest commands
    → IsOnlyReading bytes (Ok commands)
whole_script bytes count (b ∷ rest) commands none to = absurd (omega (arith, none))
whole_script bytes count [] commands none to = only_reading bytes (Ok commands) (record {
  lines = to.lines;
  each = to.begun.each;
  bytes_are = to.begun.bytes_are ∙ append-nil (flat_map line_text to.lines);
  commands_are = to.commands_are;
  few = subst (λ (t : List Command). length t ≤ command_limit) (sym to.commands_are) to.begun.few;
})

-- the first fault
pub refused : (bytes : List ℕ) (count : ℕ) (rest : List ℕ) (commands : List Command) → IsReadTo bytes count rest commands → count + 1 ≤ length bytes
    → (refusal : LineRefusal) → IsLineRefusal (length commands) rest refusal → IsFirstRefusal bytes (first_refusal (count + 1) refusal)
refused bytes count rest commands to within NoMemory is = tt
refused bytes count rest commands to within (Fault fault) is = (
  only_reading bytes (Err (count + 1, fault_code fault)) (record {
    lines = to.lines;
    rest = rest;
    begun = to.begun;
    line_is = ap (λ n. n + 1) to.count_is;
    fault = fault;
    code_is = refl;
    faulty = subst (λ (t : List Command). IsLineFault (length t) rest fault) to.commands_are is;
  }),
  within,
)
