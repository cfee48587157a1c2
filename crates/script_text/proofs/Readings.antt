-- A text is read in one way.
use Rattle.std.proofs.Common.{◌≡◌, ◌⊎◌, inl, inr, false, ℕ, ◌<◌, ◌≤◌, ◌+◌, List, [], ◌∷◌, ◌++◌, length, Result, Ok, Err, All, refl, sym, ap, ◌∙◌, arith}
use Rattle.std.proofs.Common.{subst, append_assoc}
use Rattle.std.specs.List.{flat_map, filter_map}
use Rattle.std.proofs.lemmas.List.{length-append, append-nil}
use Rattle.std.proofs.lemmas.List.Elements.{All-head, All-tail, filter_map-append}
use Rattle.s57_types.specs.Subfield.{holds}
use Rattle.text_spec.specs.ScriptLines.{ScriptLine, skipped, spoken, line_text, spoken_command, IsLine, IsScript, command_limit}
use Rattle.text_spec.specs.declared.command.Command.{Command}
use Rattle.script_text.specs.Cuts.{before}
use Rattle.script_text.specs.Faults.{HasSpoken, IsLineFault, IsFirstFault, IsBegun, IsOf, fault_code}
use Rattle.script_text.specs.Reading.{IsReading, IsOnlyReading}
use Rattle.script_text.specs.declared.refusal.LineFault.{LineFault}
use Rattle.script_text.specs.declared.refusal.LineFault.TheVariants.{NoLineFeed, UnknownWord, WrongForm, TooManyCommands}
use Rattle.script_text.proofs.Fed.{same_lines, body_is, body, free_body, first_feed, no_feed, first_of, spoken_first}

abbrev pub commands_of : List ScriptLine → List Command
commands_of = filter_map spoken_command

pub cons_commands : (l : ScriptLine) (lines : List ScriptLine) → commands_of (l ∷ lines) ≡ commands_of (l ∷ []) ++ commands_of lines
cons_commands (skipped text) lines = refl
cons_commands (spoken c) lines = refl

-- the other lines go on behind these
record IsLonger (lines : List ScriptLine) (rest : List ℕ) (lines' : List ScriptLine) (rest' : List ℕ) : Type 0 where
  more : List ScriptLine
  each : All IsLine more
  lines_are : lines' ≡ lines ++ more
  rest_is : rest ≡ flat_map line_text more ++ rest'

longer_cons : (l l' : ScriptLine) (lines lines' : List ScriptLine) (rest rest' : List ℕ) → l ≡ l' → IsLonger lines rest lines' rest'
    → IsLonger (l ∷ lines) rest (l' ∷ lines') rest'
longer_cons l l' lines lines' rest rest' same longer =
    record { more = longer.more; each = longer.each; lines_are = ap (λ x. x ∷ lines') (sym same) ∙ ap (λ t. l ∷ t) longer.lines_are; rest_is = longer.rest_is }

either_cons : (l l' : ScriptLine) (lines lines' : List ScriptLine) (rest rest' : List ℕ) → l ≡ l' → IsLonger lines rest lines' rest'
    ⊎ IsLonger lines' rest' lines rest
    → IsLonger (l ∷ lines) rest (l' ∷ lines') rest' ⊎ IsLonger (l' ∷ lines') rest' (l ∷ lines) rest
either_cons l l' lines lines' rest rest' same (inl longer) = inl (longer_cons l l' lines lines' rest rest' same longer)
either_cons l l' lines lines' rest rest' same (inr longer) = inr (longer_cons l' l lines' lines rest' rest (sym same) longer)

compare : (lines lines' : List ScriptLine) (rest rest' : List ℕ) → All IsLine lines → All IsLine lines'
    → flat_map line_text lines ++ rest ≡ flat_map line_text lines' ++ rest'
    → IsLonger lines rest lines' rest' ⊎ IsLonger lines' rest' lines rest
compare [] lines' rest rest' each each' same = inl (record { more = lines'; each = each'; lines_are = refl; rest_is = same })
compare (l ∷ lines) [] rest rest' each each' same = inr (record { more = l ∷ lines; each = each; lines_are = refl; rest_is = sym same })
compare (l ∷ lines) (l' ∷ lines') rest rest' each each' same =
    let cut = same_lines l l' (flat_map line_text lines ++ rest) (flat_map line_text lines' ++ rest') (All-head IsLine l lines each)
    (All-head IsLine l' lines' each')
    (sym (append_assoc (line_text l) (flat_map line_text lines) rest) ∙ same ∙ append_assoc (line_text l') (flat_map line_text lines') rest') in
    either_cons l l' lines lines' rest rest' cut.line (compare lines lines' rest rest' (All-tail IsLine l lines each)
    (All-tail IsLine l' lines' each') cut.rest_is)

-- no text is left
line_some : (l : ScriptLine) (rest : List ℕ) → 0 < length (line_text l ++ rest)
line_some l rest = omega (arith, ap length (body_is l rest), length-append (body l) (10 ∷ rest))

none_more : (more : List ScriptLine) (rest : List ℕ) → [] ≡ flat_map line_text more ++ rest → more ≡ []
none_more [] rest same = refl
none_more (l ∷ more) rest same = absurd (omega (
  arith,
  line_some l (flat_map line_text more ++ rest),
  ap length (same ∙ append_assoc (line_text l) (flat_map line_text more) rest),
))

none_rest : (more : List ScriptLine) (rest : List ℕ) → [] ≡ flat_map line_text more ++ rest → length rest ≡ 0
none_rest more rest same = omega (arith, ap length same, length-append (flat_map line_text more) rest)

-- a line that is faulty is no good line, but where there is no room for its command
no_line : (earlier : ℕ) (text : List ℕ) (fault : LineFault) → IsLineFault earlier text fault → (l : ScriptLine) (rest : List ℕ)
    → IsLine l → text ≡ line_text l ++ rest
    → command_limit < earlier + length (commands_of (l ∷ []))
no_line earlier text NoLineFeed is l rest good same = absurd (no_feed text (body l) rest is.1 (free_body l good) (same ∙ body_is l rest))
no_line earlier text UnknownWord is l rest good same =
    let s = spoken_first text is l rest good same in
    absurd (is.is_so (s.command, first_of is.line s.command s.of))
no_line earlier text WrongForm is l rest good same =
    let s = spoken_first text is l rest good same in
    absurd (is.is_so.1 s.command s.of)
no_line earlier text TooManyCommands is l rest good same =
    let s = spoken_first text is l rest good same in
    omega (arith, is.is_so.2, ap (λ (x : ScriptLine). length (commands_of (x ∷ []))) s.is)

fault_some : (earlier : ℕ) (text : List ℕ) (fault : LineFault) → IsLineFault earlier text fault → 0 < length text
fault_some earlier text NoLineFeed is = is.0
fault_some earlier text UnknownWord is = omega (arith, ap length is.text_is, length-append is.line (10 ∷ is.rest))
fault_some earlier text WrongForm is = omega (arith, ap length is.text_is, length-append is.line (10 ∷ is.rest))
fault_some earlier text TooManyCommands is = omega (arith, ap length is.text_is, length-append is.line (10 ∷ is.rest))

-- no lines go on behind a fault
fault_stops : (lines more : List ScriptLine) (text rest : List ℕ) (fault : LineFault) → IsLineFault (length (commands_of lines)) text fault → All IsLine more
    → text ≡ flat_map line_text more ++ rest → length (commands_of (lines ++ more)) ≤ command_limit → more ≡ []
fault_stops lines [] text rest fault is each same few = refl
fault_stops lines (l ∷ more) text rest fault is each same few =
    let over = no_line (length (commands_of lines)) text fault is l (flat_map line_text more ++ rest) (All-head IsLine l more each)
    (same ∙ append_assoc (line_text l) (flat_map line_text more) rest) in
    absurd (omega (
      arith,
      over,
      few,
      ap length (filter_map-append spoken_command lines (l ∷ more)),
      length-append (commands_of lines) (commands_of (l ∷ more)),
      ap length (cons_commands l more),
      length-append (commands_of (l ∷ [])) (commands_of more),
    ))

-- a line has one fault
same_spoken : {P Q : List ℕ → Type 0} (text : List ℕ) (h : HasSpoken text P) (h' : HasSpoken text Q) → h.line ≡ h'.line
same_spoken text h h' = (first_feed h.line h'.line h.rest h'.rest h.free h'.free (sym h.text_is ∙ h'.text_is)).line_is

fed_and_unfed : {P : List ℕ → Type 0} (text : List ℕ) → holds 10 text ≡ false → HasSpoken text P → ⊥
fed_and_unfed text free h = no_feed text h.line h.rest free h.free h.text_is

unknown_and_wrong : (earlier : ℕ) (text : List ℕ) → IsLineFault earlier text UnknownWord → IsLineFault earlier text WrongForm → ⊥
unknown_and_wrong earlier text h h' = h.is_so (h'.is_so.0.0, h'.is_so.0.1 ∙ ap (before 32) (sym (same_spoken text h h')))

unknown_and_many : (earlier : ℕ) (text : List ℕ) → IsLineFault earlier text UnknownWord → IsLineFault earlier text TooManyCommands → ⊥
unknown_and_many earlier text h h' = h.is_so (h'.is_so.0, first_of h'.line h'.is_so.0 h'.is_so.1 ∙ ap (before 32) (sym (same_spoken text h h')))

wrong_and_many : (earlier : ℕ) (text : List ℕ) → IsLineFault earlier text WrongForm → IsLineFault earlier text TooManyCommands → ⊥
wrong_and_many earlier text h h' = h.is_so.1 h'.is_so.0 (subst (λ (line : List ℕ). IsOf line h'.is_so.0) (sym (same_spoken text h h')) h'.is_so.1)

same_fault : (earlier : ℕ) (text : List ℕ) (f g : LineFault) → IsLineFault earlier text f → IsLineFault earlier text g → f ≡ g
same_fault earlier text NoLineFeed NoLineFeed is is' = refl
same_fault earlier text NoLineFeed UnknownWord is is' = absurd (fed_and_unfed text is.1 is')
same_fault earlier text NoLineFeed WrongForm is is' = absurd (fed_and_unfed text is.1 is')
same_fault earlier text NoLineFeed TooManyCommands is is' = absurd (fed_and_unfed text is.1 is')
same_fault earlier text UnknownWord NoLineFeed is is' = absurd (fed_and_unfed text is'.1 is)
same_fault earlier text UnknownWord UnknownWord is is' = refl
same_fault earlier text UnknownWord WrongForm is is' = absurd (unknown_and_wrong earlier text is is')
same_fault earlier text UnknownWord TooManyCommands is is' = absurd (unknown_and_many earlier text is is')
same_fault earlier text WrongForm NoLineFeed is is' = absurd (fed_and_unfed text is'.1 is)
same_fault earlier text WrongForm UnknownWord is is' = absurd (unknown_and_wrong earlier text is' is)
same_fault earlier text WrongForm WrongForm is is' = refl
same_fault earlier text WrongForm TooManyCommands is is' = absurd (wrong_and_many earlier text is is')
same_fault earlier text TooManyCommands NoLineFeed is is' = absurd (fed_and_unfed text is'.1 is)
same_fault earlier text TooManyCommands UnknownWord is is' = absurd (unknown_and_many earlier text is' is)
same_fault earlier text TooManyCommands WrongForm is is' = absurd (wrong_and_many earlier text is' is)
same_fault earlier text TooManyCommands TooManyCommands is is' = refl

-- two scripts
pub begun_script : (bytes : List ℕ) (commands : List Command) (s : IsScript bytes commands) → IsBegun bytes s.lines []
begun_script bytes commands s = record {
  each = s.each;
  bytes_are = s.bytes_are ∙ sym (append-nil (flat_map line_text s.lines));
  few = subst (λ (t : List Command). length t ≤ command_limit) s.commands_are s.few;
}

script_longer : (lines lines' : List ScriptLine) → IsLonger lines [] lines' [] → lines' ≡ lines
script_longer lines lines' longer = longer.lines_are ∙ ap (λ t. lines ++ t) (none_more longer.more [] longer.rest_is) ∙ append-nil lines

script_either : (lines lines' : List ScriptLine) → IsLonger lines [] lines' [] ⊎ IsLonger lines' [] lines [] → lines ≡ lines'
script_either lines lines' (inl longer) = sym (script_longer lines lines' longer)
script_either lines lines' (inr longer) = script_longer lines' lines longer

same_scripts : (bytes : List ℕ) (commands others : List Command) → IsScript bytes commands → IsScript bytes others → commands ≡ others
same_scripts bytes commands others s t =
    let one = begun_script bytes commands s in
    let other = begun_script bytes others t in
    let lines = script_either s.lines t.lines (compare s.lines t.lines [] [] s.each t.each (sym one.bytes_are ∙ other.bytes_are)) in
    s.commands_are ∙ ap commands_of lines ∙ sym t.commands_are

-- a script has no fault
fault_either : (bytes : List ℕ) (line code : ℕ) (f : IsFirstFault bytes line code) (lines : List ScriptLine) → IsBegun bytes lines []
    → IsLonger f.lines f.rest lines [] ⊎ IsLonger lines [] f.lines f.rest → ⊥
fault_either bytes line code f lines begun (inl longer) =
    let stopped = fault_stops f.lines longer.more f.rest [] f.fault f.faulty longer.each longer.rest_is
    (subst (λ (t : List ScriptLine). length (commands_of t) ≤ command_limit) longer.lines_are begun.few) in
    omega (arith, fault_some (length (commands_of f.lines)) f.rest f.fault f.faulty, ap length (longer.rest_is ∙ ap (λ t. flat_map line_text t ++ []) stopped))
fault_either bytes line code f lines begun (inr longer) = omega (
  arith,
  fault_some (length (commands_of f.lines)) f.rest f.fault f.faulty,
  none_rest longer.more f.rest longer.rest_is,
)

no_fault : (bytes : List ℕ) (commands : List Command) (line code : ℕ) → IsScript bytes commands → IsFirstFault bytes line code → ⊥
no_fault bytes commands line code s f =
    let begun = begun_script bytes commands s in
    fault_either bytes line code f s.lines begun (compare f.lines s.lines f.rest [] f.begun.each s.each (sym f.begun.bytes_are ∙ begun.bytes_are))

-- two faults
record AreSameFaults (line line' code code' : ℕ) : Type 0 where
  line_is : line ≡ line'
  code_is : code ≡ code'

fault_longer : (bytes : List ℕ) (line code line' code' : ℕ) (f : IsFirstFault bytes line code) (g : IsFirstFault bytes line' code')
    → IsLonger f.lines f.rest g.lines g.rest → AreSameFaults line line' code code'
fault_longer bytes line code line' code' f g longer =
    let stopped = fault_stops f.lines longer.more f.rest g.rest f.fault f.faulty longer.each longer.rest_is
    (subst (λ (t : List ScriptLine). length (commands_of t) ≤ command_limit) longer.lines_are g.begun.few) in
    let lines : g.lines ≡ f.lines = longer.lines_are ∙ ap (λ t. f.lines ++ t) stopped ∙ append-nil f.lines in
    let rest : f.rest ≡ g.rest = longer.rest_is ∙ ap (λ t. flat_map line_text t ++ g.rest) stopped in
    let faulty = subst (λ (t : List ℕ). IsLineFault (length (commands_of f.lines)) t g.fault) (sym rest)
    (subst (λ (t : List ScriptLine). IsLineFault (length (commands_of t)) g.rest g.fault) lines g.faulty) in
    record {
      line_is = f.line_is ∙ ap (λ (t : List ScriptLine). length t + 1) (sym lines) ∙ sym g.line_is;
      code_is = f.code_is ∙ ap fault_code (same_fault (length (commands_of f.lines)) f.rest f.fault g.fault f.faulty faulty) ∙ sym g.code_is;
    }

faults_either : (bytes : List ℕ) (line code line' code' : ℕ) (f : IsFirstFault bytes line code) (g : IsFirstFault bytes line' code')
    → IsLonger f.lines f.rest g.lines g.rest ⊎ IsLonger g.lines g.rest f.lines f.rest → AreSameFaults line line' code code'
faults_either bytes line code line' code' f g (inl longer) = fault_longer bytes line code line' code' f g longer
faults_either bytes line code line' code' f g (inr longer) =
    let same = fault_longer bytes line' code' line code g f longer in
    record { line_is = sym same.line_is; code_is = sym same.code_is }

same_faults : (bytes : List ℕ) (line code line' code' : ℕ) → IsFirstFault bytes line code → IsFirstFault bytes line' code' → AreSameFaults line line' code code'
same_faults bytes line code line' code' f g =
    faults_either bytes line code line' code' f g (compare f.lines g.lines f.rest g.rest f.begun.each g.begun.each (sym f.begun.bytes_are ∙ g.begun.bytes_are))

pub same_readings : (bytes : List ℕ) (reading other : Result (List Command) (ℕ × ℕ)) → IsReading bytes reading → IsReading bytes other → reading ≡ other
same_readings bytes (Ok commands) (Ok others) is is' = ap (λ (t : List Command). Ok t) (same_scripts bytes commands others is is')
same_readings bytes (Ok commands) (Err fault) is is' = absurd (no_fault bytes commands fault.0 fault.1 is is')
same_readings bytes (Err fault) (Ok others) is is' = absurd (no_fault bytes others fault.0 fault.1 is' is)
same_readings bytes (Err fault) (Err fault') is is' =
    let same = same_faults bytes fault.0 fault.1 fault'.0 fault'.1 is is' in
    ap (λ (n : ℕ). Err (n, fault.1)) same.line_is ∙ ap (λ (n : ℕ). Err (fault'.0, n)) same.code_is

pub only_reading : (bytes : List ℕ) (reading : Result (List Command) (ℕ × ℕ)) → IsReading bytes reading → IsOnlyReading bytes reading
only_reading bytes reading is = record { is = is; only = λ other is'. same_readings bytes other reading is' is }
