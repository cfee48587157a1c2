-- Texts of edits as scripts.
use borrow.Author.Tests.{ltb-false}
use Rattle.std.proofs.Common.{IsTrue, ◌↔◌, MatchOption, Vec, get_or, zero, suc, ◌≡◌, ℕ, ◌<◌, ◌≤◌, ◌==◌, if◌then◌else◌, Bool, true, false, cond, List, []}
use Rattle.std.proofs.Common.{◌∷◌, ◌++◌, length, map, All, Option, None, Some, Result, Ok, Err, refl, sym, ap, subst, ◌∙◌, arith, nat_lt}
use Rattle.std.specs.Bool.{then_some}
use Rattle.std.specs.Option.{option_map}
use Rattle.std.specs.declared.alloc.Global.{Global}
use Rattle.std.specs.List.{AllByRecursion, filter_map, flat_map}
use Rattle.std.proofs.lemmas.Bool.{false≢true}
use Rattle.std.proofs.lemmas.List.{length-map}
use Rattle.std.proofs.lemmas.List.Elements.{All-from_recursion, recursion_from_All}
use Rattle.cell_spec.specs.declared.edit.Edit.{Edit}
use Rattle.edit_sets.specs.FormFault.{GuardedEdits, IsSetOf, edit_limit, first_edit_fault, form_fault}
use Rattle.edit_sets.specs.declared.fault.FormFault.{FormFault}
use Rattle.edit_sets.specs.declared.fault.FormFault.TheVariants.{Empty, TooMany}
use Rattle.text_spec.specs.EditLine.{edit_line, has_line}
use Rattle.text_spec.specs.ScriptLines.{IsCommand, IsLine, IsScript, ScriptLine, command_limit, line_text, skipped, spoken, spoken_command}
use Rattle.text_spec.specs.declared.command.Command.{Command}
use Rattle.text_spec.specs.declared.command.Command.TheVariants.{Push}
use Rattle.script_text.specs.Reading.{IsOnlyReading, IsReading}
use Rattle.book_journal.specs.Entries.{HaveLines, edit_lines}
use Rattle.book_journal.specs.Texts.{AreEditsOf, AreEditsRead, AreLinesOf, IsScriptRead, IsSetRead}

guarded : (b : Bool) (x : FormFault) (o : Option FormFault) → cond b (Some x) o ≡ None → (b ≡ false) × (o ≡ None)
guarded true x o e = cc
guarded false x o e = (refl, e)

-- edits without a fault of form are few
pub form_few : (level : ℕ) (edits : List Edit) → form_fault level edits [] ≡ None → length edits ≤ 4096
unfolding form_fault
form_few level edits none =
    let counted : Option FormFault = if nat_lt edit_limit (length edits) then Some (TooMany (length edits)) else first_edit_fault level edits in
    let some = guarded (length edits == 0) Empty counted none in
    let few = guarded (nat_lt edit_limit (length edits)) (TooMany (length edits)) (first_edit_fault level edits) some.1 in
    ltb-false 4096 (length edits) few.0

line_of : (edits : List Edit) → AllByRecursion (λ (edit : Edit). IsCommand (Push edit)) edits → AllByRecursion IsLine
    (map (λ (edit : Edit). spoken (Push edit)) edits)
line_of [] all = tt
line_of (edit ∷ edits) all = (all.0, line_of edits all.1)

texts_of : (edits : List Edit) → edit_lines edits ≡ flat_map line_text (map (λ (edit : Edit). spoken (Push edit)) edits)
texts_of [] = refl
texts_of (edit ∷ edits) = ap (λ (l : List ℕ). edit_line edit ++ l) (texts_of edits)

commands_of : (edits : List Edit) → map Push edits ≡ filter_map spoken_command (map (λ (edit : Edit). spoken (Push edit)) edits)
commands_of [] = refl
commands_of (edit ∷ edits) = ap (λ (l : List Command). Push edit ∷ l) (commands_of edits)

-- lines of edits are a script
pub lines_script : (text : List ℕ) (edits : List Edit) → AreLinesOf text edits → IsScript text (map Push edits)
lines_script text edits are = record {
  lines = map (λ (edit : Edit). spoken (Push edit)) edits;
  each = All-from_recursion IsLine (map (λ (edit : Edit). spoken (Push edit)) edits)
      (line_of edits (recursion_from_All (λ (edit : Edit). IsCommand (Push edit)) edits are.lines));
  bytes_are = are.text_is ∙ texts_of edits;
  commands_are = commands_of edits;
  few = let few = are.few in omega (arith, few, length-map edits Push);
}

spoken_all : (lines : List ScriptLine) → AllByRecursion IsLine lines → AllByRecursion IsCommand (filter_map spoken_command lines)
spoken_all [] all = tt
spoken_all (skipped text ∷ lines) all = spoken_all lines all.1
spoken_all (spoken command ∷ lines) all = (all.0, spoken_all lines all.1)

push_all : (edits : List Edit) → AllByRecursion IsCommand (map Push edits) → AllByRecursion (λ (edit : Edit). IsCommand (Push edit)) edits
push_all [] all = tt
push_all (edit ∷ edits) all = (all.0, push_all edits all.1)

-- the edits of a script that has nothing else have lines
pub script_lines : (text : List ℕ) (commands : List Command) (edits : List Edit) → IsScript text commands → commands ≡ map Push edits → HaveLines edits
script_lines text commands edits script is =
    let spoken_ones = spoken_all script.lines (recursion_from_All IsLine script.lines script.each) in
    All-from_recursion (λ (edit : Edit). IsCommand (Push edit)) edits
    (push_all edits (subst (AllByRecursion IsCommand) (sym script.commands_are ∙ is) spoken_ones))

pub script_few : (text : List ℕ) (commands : List Command) (edits : List Edit) → IsScript text commands → commands ≡ map Push edits → length edits ≤
    command_limit
script_few text commands edits script is = let few = script.few in omega (arith, few, ap length is, length-map edits Push)

has_lines : (edits : List Edit) → AllByRecursion (λ (edit : Edit). IsCommand (Push edit)) edits → AllByRecursion (λ (edit : Edit). has_line edit ≡ true) edits
has_lines [] all = tt
has_lines (edit ∷ edits) all = (all.0.0, has_lines edits all.1)

pub lines_stand : (edits : List Edit) → HaveLines edits → All (λ (edit : Edit). has_line edit ≡ true) edits
lines_stand edits all =
    All-from_recursion (λ (edit : Edit). has_line edit ≡ true) edits (has_lines edits (recursion_from_All (λ (edit : Edit). IsCommand (Push edit)) edits all))

pub pushes_same : (edits others : List Edit) → map Push edits ≡ map Push others → edits ≡ others
pushes_same [] [] e = refl
pushes_same [] (other ∷ others) e = cc
pushes_same (edit ∷ edits) [] e = cc
pushes_same (edit ∷ edits) (other ∷ others) e =
    let first : edit ≡ other = cc in
    let rest : map Push edits ≡ map Push others = cc in
    let behind = pushes_same edits others rest in
    λ i. first i ∷ behind i

abbrev pub OneScript : Type 0
OneScript = (bytes : List ℕ) (reading other : Result (List Command) (ℕ × ℕ)) → IsReading bytes reading → IsReading bytes other → reading ≡ other

-- a text is the lines of one list of edits
pub one_text : OneScript → (text : List ℕ) (edits others : List Edit) → AreLinesOf text edits → AreLinesOf text others → edits ≡ others
one_text one_script text edits others are also =
    let same = one_script text (Ok (map Push edits)) (Ok (map Push others)) (lines_script text edits are) (lines_script text others also) in
    let pushes : map Push edits ≡ map Push others = cc in
    pushes_same edits others pushes

-- the script of a text, and nothing else
pub script_read : (text : List ℕ) (script : List Command) → IsOnlyReading text (Ok script) → IsScriptRead text (Some script)
script_read text script reading = record {
  is = reading.is;
  found = λ commands is. let same = reading.only (Ok commands) is in cc;
}

pub no_script_read : (text : List ℕ) (fault : ℕ × ℕ) → IsOnlyReading text (Err fault) → IsScriptRead text None
no_script_read text fault reading = record {
  is = tt;
  found = λ commands is. let same = reading.only (Ok commands) is in cc;
}

push_at : (edits : List Edit) (i : ℕ) (d : Command) → i < length (map Push edits) → (edit : Edit) × (get_or (map Push edits) i d ≡ Push edit)
push_at [] i d lt = absurd (omega (arith, lt))
push_at (edit ∷ edits) zero d lt = (edit, refl)
push_at (edit ∷ edits) (suc i) d lt = push_at edits i d (omega (arith, lt))

-- a command that isn't a push is among no pushes
pub not_pushed : (commands : List Command) (i : ℕ) (command : Command) → i < length commands → command ≡ get_or commands i command
    → ((edit : Edit) → command ≡ Push edit → ⊥) → (edits : List Edit) → commands ≡ map Push edits → ⊥
not_pushed commands i command lt is other edits pushes =
    let there = push_at edits i command (omega (arith, lt, ap length pushes)) in
    other there.0 (is ∙ ap (λ (l : List Command). get_or l i command) pushes ∙ there.1)

-- a text that isn't a script is the lines of no edits
pub no_script : (text : List ℕ) (read : Option (List Command)) → IsScriptRead text read → ((script : List Command) → read ≡ Some script → ⊥)
    → (edits : List Edit) → AreLinesOf text edits → ⊥
no_script text read is none edits are = none (map Push edits) (is.found (map Push edits) (lines_script text edits are))

-- nor is a script that does something else
pub no_pushes : (text : List ℕ) (script : List Command) → IsScriptRead text (Some script) → ((edits : List Edit) → script ≡ map Push edits → ⊥)
    → (edits : List Edit) → AreLinesOf text edits → ⊥
no_pushes text script is none edits are =
    let same : Some script ≡ Some (map Push edits) = is.found (map Push edits) (lines_script text edits are) in
    none edits cc

pub none_read : (text : List ℕ) → ((edits : List Edit) → AreLinesOf text edits → ⊥) → AreEditsRead text None
none_read text none = record { are = tt; found = λ edits are. absurd (none edits are) }

pushed_same : (text : List ℕ) (script : List Command) (edits others : List Edit) → IsScriptRead text (Some script) → script ≡ map Push edits
    → AreLinesOf text others → edits ≡ others
pushed_same text script edits others is pushes are =
    let same : Some script ≡ Some (map Push others) = is.found (map Push others) (lines_script text others are) in
    let commands : script ≡ map Push others = cc in
    pushes_same edits others (sym pushes ∙ commands)

-- edits that a script pushes are those of the text where their lines are the text
pub pushes_read : (text : List ℕ) (script : List Command) (edits : Vec Edit Global) (same : Bool) → IsScriptRead text (Some script) → script ≡ map Push
    edits.items
    → (IsTrue same ↔ (edit_lines edits.items ≡ text)) → AreEditsRead text (option_map (λ (v : Vec Edit Global). v.items) (then_some same edits))
pushes_read text script edits true is pushes decides = record {
  are = record {
    lines = script_lines text script edits.items is.is pushes;
    text_is = sym (decides.0 refl);
    few = script_few text script edits.items is.is pushes;
  };
  found = λ others are. ap Some (pushed_same text script edits.items others is pushes are);
}
pushes_read text script edits false is pushes decides = record {
  are = tt;
  found = λ others are.
      let same = pushed_same text script edits.items others is pushes are in
      let lines : edit_lines edits.items ≡ text = ap edit_lines same ∙ sym are.text_is in
      absurd (false≢true (decides.1 lines));
}

none_of : {A P : Type 0} (Q : A → Type 0) (o : Option A) → MatchOption o P Q → ((x : A) → o ≡ Some x → ⊥) → P
none_of Q None is none = is
none_of Q (Some x) is none = absurd (none x refl)

-- commands that aren't told as pushes are none
pub not_told : (commands : List Command) (o : Option (Vec Edit Global))
    → MatchOption o ((edits : List Edit) → commands ≡ map Push edits → ⊥) (λ (edits : Vec Edit Global). commands ≡ map Push edits.items)
    → ((x : Vec Edit Global) → o ≡ Some x → ⊥) → (edits : List Edit) → commands ≡ map Push edits → ⊥
not_told commands o told none = none_of (λ (edits : Vec Edit Global). commands ≡ map Push edits.items) o told none

lines_of : (level : ℕ) (text : List ℕ) (edits : List Edit) → AreEditsOf level text edits → AreLinesOf text edits
lines_of level text edits are = record { lines = are.lines; text_is = are.text_is; few = omega (arith, form_few level edits are.form) }

-- a text that isn't the lines of edits is no edit set
pub no_set_read : (level : ℕ) (text : List ℕ) (o : Option (Vec Edit Global)) → AreEditsRead text (option_map (λ (v : Vec Edit Global). v.items) o)
    → ((x : Vec Edit Global) → o ≡ Some x → ⊥) → IsSetRead level text None
no_set_read level text None read none = record {
  spelled = tt;
  found = λ edits are. let e : None ≡ Some edits = read.found edits (lines_of level text edits are) in let never : ⊥ = cc in never;
}
no_set_read level text (Some x) read none = absurd (none x refl)

-- the set of a text
pub set_read : (level : ℕ) (text : List ℕ) (edits : List Edit) (set : GuardedEdits) → AreEditsRead text (Some edits) → IsSetOf level edits [] set
    → IsSetRead level text (Some set)
set_read level text edits set read is = record {
  spelled = record {
    edits = record {
      lines = subst HaveLines (sym is.edits_are) read.are.lines;
      form = subst (λ (l : List Edit). form_fault level l [] ≡ None) (sym is.edits_are) is.no_fault;
      text_is = read.are.text_is ∙ ap edit_lines (sym is.edits_are);
    };
    guards = is.guards_are;
    level_is = is.nall_is;
  };
  found = λ others are.
      let e : Some edits ≡ Some others = read.found others (lines_of level text others are) in
      let same : edits ≡ others = cc in
      is.edits_are ∙ same;
}

-- lines of edits with a fault of form are no set
pub faulty_read : (level : ℕ) (text : List ℕ) (edits : List Edit) (fault : FormFault) → AreEditsRead text (Some edits) → form_fault level edits [] ≡ Some fault
    → IsSetRead level text None
faulty_read level text edits fault read faulty = record {
  spelled = tt;
  found = λ others are.
      let e : Some edits ≡ Some others = read.found others (lines_of level text others are) in
      let same : edits ≡ others = cc in
      let form : form_fault level edits [] ≡ None = ap (λ (l : List Edit). form_fault level l []) same ∙ are.form in
      let never : ⊥ = cc (form, faulty) in never;
}
