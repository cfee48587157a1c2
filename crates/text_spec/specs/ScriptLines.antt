-- Scripts: the commands of one session, a line each. This project's own text.
use Rattle.std.specs.Prelude.{◌≡◌, ℕ, ◌≤◌, ◌<◌, ◌^◌, ◌==◌, Bool, true, false, List, [], ◌∷◌, ◌++◌, length, codes, Option, None, Some, All}
use Rattle.std.specs.Fmt.{decimal}
use Rattle.std.specs.List.{flat_map, filter_map}
use Rattle.std.specs.Int.{w32}
use Rattle.std.specs.Prelude.{FitsSigned}
use Rattle.s57_types.specs.Subfield.{Subfield, unsigned_of, signed_of, text_of, wide_text_of, fixed_of, holds}
use Rattle.s57_types.specs.FieldRows.{name_row, attribute_row, end_row, plane_row, deep_row, frid_row, foid_row, partner_row, place_row}
use Rattle.s57_types.specs.declared.record.Vector.{Vector}
use Rattle.s57_types.specs.declared.record.Feature.{Feature}
use Rattle.s57_types.specs.declared.record.Rec.{Rec}
use Rattle.s57_types.specs.declared.record.Rec.TheVariants.{V, F, H}
use Rattle.cell_spec.specs.declared.edit.Edit.{Edit}
use Rattle.cell_spec.specs.declared.edit.Edit.TheVariants.{Add, Set, Del, Head}
use Rattle.s57_types.specs.declared.head.HeadEdit.{HeadEdit}
use Rattle.s57_types.specs.Heads.{head_edit_texts}
use Rattle.text_spec.specs.Lines.{line}
use Rattle.text_spec.specs.CellText.{name_words}
use Rattle.text_spec.specs.EditLine.{edit_line, has_line, guard_has_line}
use Rattle.text_spec.specs.declared.command.Command.{Command}
use Rattle.text_spec.specs.declared.command.Command.TheVariants.{View, Commit, Drop, List as Findings, Push, Guard}

-- a number fits its width, and a text is bytes
abbrev pub IsOfWidth : Subfield → Type 0
IsOfWidth (unsigned_of w n) = n < 256 ^ w
IsOfWidth (signed_of z) = FitsSigned w32 z
IsOfWidth (text_of t) = All (λ b. b < 256) t
IsOfWidth (wide_text_of t) = All (λ b. b < 256) t
IsOfWidth (fixed_of t) = All (λ b. b < 256) t

abbrev pub vector_subfields : Vector → List Subfield
vector_subfields v = name_row v.name ++ (unsigned_of 2 v.rver ∷ []) ++ flat_map (attribute_row 0) v.attrs ++ flat_map end_row v.ends
    ++ flat_map plane_row v.plane ++ flat_map deep_row v.deep

abbrev pub feature_subfields : Feature → List Subfield
feature_subfields f = frid_row (record { rcid = f.name.id; prim = f.prim; grup = f.grup; objl = f.objl; rver = f.rver; ruin = 1 }) ++ foid_row f.foid
    ++ flat_map (attribute_row 0) f.attf ++ flat_map (attribute_row 0) f.natf ++ flat_map partner_row f.partners ++ flat_map place_row f.places

abbrev pub record_subfields : Rec → List Subfield
record_subfields (V v) = vector_subfields v
record_subfields (F f) = feature_subfields f
record_subfields (H h) = []

-- new values of a head are values of their fields: texts of bytes, and dates of eight (S-57 Part 3, 7.3.1.1)
pub record IsHeadEditOfWidth (e : HeadEdit) : Type 0 where
  pub texts : All IsOfWidth (head_edit_texts e)
  pub uadt : length e.uadt ≡ 8
  pub isdt : length e.isdt ≡ 8

-- so are the values of an edit
abbrev pub IsEditOfWidth : Edit → Type 0
IsEditOfWidth (Add r) = All IsOfWidth (record_subfields r)
IsEditOfWidth (Set r) = All IsOfWidth (record_subfields r)
IsEditOfWidth (Del n) = All IsOfWidth (name_row n)
IsEditOfWidth (Head e) = IsHeadEditOfWidth e

-- the greatest number of findings that a command shows, and of commands in a script
abbrev pub shown_limit : ℕ
shown_limit = 20

abbrev pub command_limit : ℕ
command_limit = 50000

-- the line of a command
abbrev pub command_line : Command → List ℕ
command_line View = line (codes "view") []
command_line Commit = line (codes "commit") []
command_line Drop = line (codes "drop") []
command_line (Findings shown) = line (codes "list") (decimal shown ∷ [])
command_line (Push edit) = edit_line edit
command_line (Guard name) = line (codes "guard") (name_words name)

-- a command that a line can have
abbrev pub IsCommand : Command → Type 0
IsCommand View = Unit {0}
IsCommand Commit = Unit {0}
IsCommand Drop = Unit {0}
IsCommand (Findings shown) = shown ≤ shown_limit
IsCommand (Push edit) = (has_line edit ≡ true) × IsEditOfWidth edit
IsCommand (Guard name) = (guard_has_line name ≡ true) × All IsOfWidth (name_row name)

-- a line is skipped where it is empty or begins with a number sign
abbrev pub is_skipped : List ℕ → Bool
is_skipped [] = true
is_skipped (c ∷ text) = c == 35

-- a line of a script: a skipped one with its text, or that of a command
pub data ScriptLine : Type 0 where
  skipped : List ℕ → ScriptLine
  spoken : Command → ScriptLine

abbrev pub line_text : ScriptLine → List ℕ
line_text (skipped text) = text ++ (10 ∷ [])
line_text (spoken command) = command_line command

abbrev pub spoken_command : ScriptLine → Option Command
spoken_command (skipped text) = None
spoken_command (spoken command) = Some command

abbrev pub IsLine : ScriptLine → Type 0
IsLine (skipped text) = (is_skipped text ≡ true) × (holds 10 text ≡ false)
IsLine (spoken command) = IsCommand command

-- the bytes are lines one after the other, and these are their commands
pub record IsScript (bytes : List ℕ) (commands : List Command) : Type 0 where
  pub lines : List ScriptLine
  pub each : All IsLine lines
  pub bytes_are : bytes ≡ flat_map line_text lines
  pub commands_are : commands ≡ filter_map spoken_command lines
  pub few : length commands ≤ command_limit

-- the commands that all sessions see: views and commits
abbrev pub is_shared : Command → Bool
is_shared View = true
is_shared Commit = true
is_shared Drop = false
is_shared (Findings shown) = false
is_shared (Push edit) = false
is_shared (Guard name) = false
