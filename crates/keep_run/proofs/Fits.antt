-- Drafts and the commands behind them, within the limits of a script.
use Rattle.std.proofs.Common.{◌≡◌, ℕ, ◌+◌, ◌≤◌, List, [], ◌∷◌, ◌++◌, length, sym, ap, ◌∙◌, subst, length-append, arith}
use Rattle.std.specs.Prelude.{All, filter_map}
use Rattle.std.specs.List.{flat_map}
use Rattle.std.proofs.lemmas.Grind.{flat_map-append}
use Rattle.std.proofs.lemmas.List.{append-nil}
use Rattle.std.proofs.lemmas.List.Elements.{All-append, All-cons, All-head, All-nil, All-tail}
use Rattle.s57_types.specs.declared.name.RecName.{RecName}
use Rattle.cell_spec.specs.declared.edit.Edit.{Edit}
use Rattle.text_spec.specs.EditLine.{edit_line}
use Rattle.text_spec.specs.ScriptLines.{IsCommand, IsLine, ScriptLine, command_line, line_text, skipped, spoken, spoken_command}
use Rattle.text_spec.specs.declared.command.Command.{Command}
use Rattle.text_spec.specs.declared.command.Command.TheVariants.{Push}
use Rattle.history_spec.specs.Served.{Draft, no_draft}
use Rattle.book_journal.specs.Entries.{edit_lines, text_limit}
use Rattle.call_files.specs.Inputs.{IsScriptWithin}
use Rattle.keep_run.specs.Sessions.{IsFit}

line_more : (command : Command) (rest : List Command) → length (flat_map command_line (command ∷ rest))
    ≡ length (command_line command) + length (flat_map command_line rest)
line_more command rest = length-append (command_line command) (flat_map command_line rest)

-- a command that leaves the draft
pub fit_same : (draft : Draft) (command : Command) (rest : List Command) → IsFit draft (command ∷ rest) → IsFit draft rest
fit_same draft command rest fit = record {
  lines = fit.lines;
  commands = All-tail IsCommand command rest fit.commands;
  short = let short = fit.short in let more = line_more command rest in omega (arith, short, more);
  few = let few = fit.few in omega (arith, few);
  few_guards = let few = fit.few_guards in omega (arith, few);
}

-- one that empties it
pub fit_none : (draft : Draft) (command : Command) (rest : List Command) → IsFit draft (command ∷ rest) → IsFit no_draft rest
fit_none draft command rest fit = record {
  lines = All-nil (λ (edit : Edit). IsCommand (Push edit));
  commands = All-tail IsCommand command rest fit.commands;
  short = let short = fit.short in let more = line_more command rest in omega (arith, short, more);
  few = let few = fit.few in omega (arith, few);
  few_guards = let few = fit.few_guards in omega (arith, few);
}

-- one that puts an edit into it
pub fit_edit : (draft : Draft) (edit : Edit) (rest : List Command) → IsFit draft (Push edit ∷ rest)
    → IsFit (record { edits = draft.edits ++ edit ∷ []; guards = draft.guards }) rest
fit_edit draft edit rest fit = record {
  lines = All-append (λ (e : Edit). IsCommand (Push e)) draft.edits (edit ∷ []) fit.lines
      (All-cons (λ (e : Edit). IsCommand (Push e)) edit [] (All-head IsCommand (Push edit) rest fit.commands) (All-nil (λ (e : Edit). IsCommand (Push e))));
  commands = All-tail IsCommand (Push edit) rest fit.commands;
  short =
      let short = fit.short in
      let more = line_more (Push edit) rest in
      let lines : length (edit_lines (draft.edits ++ edit ∷ [])) ≡ length (edit_lines draft.edits) + length (edit_line edit) =
      ap length (flat_map-append edit_line draft.edits (edit ∷ [])) ∙ length-append (edit_lines draft.edits) (edit_line edit ++ [])
      ∙ ap (λ (l : List ℕ). length (edit_lines draft.edits) + length l) (append-nil (edit_line edit)) in
      omega (arith, short, more, lines);
  few = let few = fit.few in let more = length-append draft.edits (edit ∷ []) in omega (arith, few, more);
  few_guards = let few = fit.few_guards in omega (arith, few);
}

-- one that puts a guard into it
pub fit_guard : (draft : Draft) (name : RecName) (command : Command) (rest : List Command) → IsFit draft (command ∷ rest)
    → IsFit (record { edits = draft.edits; guards = draft.guards ++ name ∷ [] }) rest
fit_guard draft name command rest fit = record {
  lines = fit.lines;
  commands = All-tail IsCommand command rest fit.commands;
  short = let short = fit.short in let more = line_more command rest in omega (arith, short, more);
  few = let few = fit.few in omega (arith, few);
  few_guards = let few = fit.few_guards in let more = length-append draft.guards (name ∷ []) in omega (arith, few, more);
}

-- the next command alone
pub fit_one : (draft : Draft) (command : Command) (rest : List Command) → IsFit draft (command ∷ rest) → IsFit draft (command ∷ [])
fit_one draft command rest fit = record {
  lines = fit.lines;
  commands = All-cons IsCommand command [] (All-head IsCommand command rest fit.commands) (All-nil IsCommand);
  short = let short = fit.short in let more = line_more command rest in let alone = line_more command [] in omega (arith, short, more, alone);
  few = let few = fit.few in omega (arith, few);
  few_guards = let few = fit.few_guards in omega (arith, few);
}

-- the lines of a draft are no longer than a script
pub fit_short : (draft : Draft) (rest : List Command) → IsFit draft rest → length (edit_lines draft.edits) ≤ text_limit
fit_short draft rest fit = let short = fit.short in omega (arith, short)

-- ---- a whole script
commands_shorter : (lines : List ScriptLine) → length (flat_map command_line (filter_map spoken_command lines)) ≤ length (flat_map line_text lines)
commands_shorter [] = omega arith
commands_shorter (skipped text ∷ lines) =
    let rest = commands_shorter lines in
    let more = length-append (line_text (skipped text)) (flat_map line_text lines) in
    omega (arith, rest, more)
commands_shorter (spoken command ∷ lines) =
    let rest = commands_shorter lines in
    let more = length-append (command_line command) (flat_map line_text lines) in
    let spoken_more = line_more command (filter_map spoken_command lines) in
    omega (arith, rest, more, spoken_more)

are_commands : (lines : List ScriptLine) → All IsLine lines → All IsCommand (filter_map spoken_command lines)
are_commands [] each = All-nil IsCommand
are_commands (skipped text ∷ lines) each = are_commands lines (All-tail IsLine (skipped text) lines each)
are_commands (spoken command ∷ lines) each =
    All-cons IsCommand command (filter_map spoken_command lines) (All-head IsLine (spoken command) lines each)
    (are_commands lines (All-tail IsLine (spoken command) lines each))

pub fit_script : (script : List Command) → IsScriptWithin script → IsFit no_draft script
fit_script script within =
    let is = within.1 in
    let shorter = subst (λ (l : List Command). length (flat_map command_line l) ≤ length (flat_map line_text is.lines)) (sym is.commands_are)
    (commands_shorter is.lines) in
    let bytes = ap length is.bytes_are in
    let small = within.2 in
    let few = is.few in
    record {
      lines = All-nil (λ (edit : Edit). IsCommand (Push edit));
      commands = subst (All IsCommand) (sym is.commands_are) (are_commands is.lines is.each);
      short = omega (arith, shorter, bytes, small);
      few = omega (arith, few);
      few_guards = omega (arith, few);
    }
