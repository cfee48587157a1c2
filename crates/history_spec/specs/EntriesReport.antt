-- The report of a history that is kept as entries, and the lines of each session. This project's own text.
use Rattle.std.specs.Prelude.{◌≡◌, ℕ, ◌+◌, List, [], ◌∷◌, ◌++◌, map, codes}
use Rattle.std.specs.Fmt.{decimal}
use Rattle.std.specs.List.{flat_map, enumerate_from}
use Rattle.s57_types.specs.declared.cell.Cell.{Cell}
use Rattle.text_spec.specs.Lines.{line}
use Rattle.text_spec.specs.CellText.{cell_text}
use Rattle.text_spec.specs.OrderLine.{order_line}
use Rattle.text_spec.specs.declared.command.Command.{Command}
use Rattle.history_spec.specs.declared.entry.Entry.{Entry}
use Rattle.history_spec.specs.declared.entry.Asked.{Asked}
use Rattle.history_spec.specs.declared.entry.Asked.TheVariants.{View, Faulty, Commit}
use Rattle.history_spec.specs.declared.reply.Brief.{Brief}
use Rattle.history_spec.specs.declared.reply.Brief.TheVariants as brief
use Rattle.text_spec.specs.EditLine.{edit_line}
use Rattle.history_spec.specs.declared.reply.Reply.{Reply}
use Rattle.history_spec.specs.Entries.{entries_of, order_of_entries, replayed, brief_of}
use Rattle.history_spec.specs.ReportText.{history_text, transcript_from}
use Rattle.history_spec.specs.Steps.{cell_after}

-- the cell after so many of the accepted commits of entries
abbrev pub cell_told : Cell → List Entry → ℕ → Cell
cell_told c entries n = cell_after n (replayed c entries).commits c

-- a session's part: its number, and its lines
abbrev pub session_part : ℕ × List ℕ → List ℕ
session_part (session, lines) = line (codes "session") (decimal session ∷ []) ++ lines

abbrev pub entries_report : Cell → List Entry → List (List ℕ) → List ℕ
entries_report c entries texts = order_line (order_of_entries entries) ++ flat_map session_part (enumerate_from 1 texts)
    ++ history_text (cell_told c entries) (replayed c entries).commits ++ cell_text (replayed c entries).cell

-- the lines of a session are those of its commands with its entries' answers
pub record IsTranscript (c : Cell) (entries : List Entry) (session : ℕ) (commands : List Command) (lines : List ℕ) : Type 0 where
  pub replies : List Reply
  pub briefs : map brief_of replies ≡ map (λ (e : Entry). e.brief) (entries_of session entries)
  pub lines_are : lines ≡ transcript_from (cell_told c entries) 0 0 commands replies

-- of each session, from a number on
abbrev pub AreTranscripts : Cell → List Entry → ℕ → List (List Command) → List (List ℕ) → Type 0
AreTranscripts c entries n [] [] = Unit {0}
AreTranscripts c entries n [] (text ∷ texts) = ⊥
AreTranscripts c entries n (script ∷ scripts) [] = ⊥
AreTranscripts c entries n (script ∷ scripts) (text ∷ texts) = IsTranscript c entries n script text × AreTranscripts c entries (n + 1) scripts texts

-- an entry's part of the history: of an accepted commit its number, its desk, the findings after it, and its edits
abbrev pub part_of : ℕ → Asked → Brief → List ℕ
part_of desk View told = []
part_of desk (Faulty fault) told = []
part_of desk (Commit base set) (brief.Viewed number findings) = []
part_of desk (Commit base set) (brief.Formed fault) = []
part_of desk (Commit base set) (brief.Newer number name other) = []
part_of desk (Commit base set) (brief.Refused refusal) = []
part_of desk (Commit base set) (brief.Accepted number findings) =
    line (codes "commit") (decimal number ∷ codes "desk" ∷ decimal desk ∷ codes "findings" ∷ decimal findings ∷ []) ++ flat_map edit_line set.edits

abbrev pub entry_part : Entry → List ℕ
entry_part e = part_of e.desk e.asked e.brief
