-- The report of a run of scripts on a cell. This project's own text.
use Rattle.std.specs.Prelude.{ℕ, ◌+◌, List, [], ◌∷◌, ◌++◌, length, map, take, codes}
use Rattle.std.specs.Fmt.{decimal}
use Rattle.std.specs.List.{flat_map, enumerate_from, range_with_len}
use Rattle.s57_types.specs.declared.cell.Cell.{Cell}
use Rattle.s57_types.specs.declared.fault.Unfit.{Unfit}
use Rattle.s57_types.specs.declared.fault.Unfit.TheVariants.{TooLong, BadText, BadName}
use Rattle.cell_spec.specs.declared.key.Subject.{Subject}
use Rattle.cell_spec.specs.declared.finding.Finding.{Finding}
use Rattle.rule_spec.specs.Findings.{all_findings, finding_total}
use Rattle.edit_sets.specs.declared.fault.FormFault.{FormFault}
use Rattle.edit_sets.specs.declared.fault.FormFault.TheVariants.{Empty, TooMany, Twice, Unfit as UnfitAt, TooManyGuards}
use Rattle.text_spec.specs.Lines.{line}
use Rattle.text_spec.specs.CellText.{name_words, cell_text, finding_line}
use Rattle.text_spec.specs.EditLine.{edit_line}
use Rattle.text_spec.specs.OrderLine.{order_line}
use Rattle.text_spec.specs.declared.command.Command.{Command}
use Rattle.text_spec.specs.declared.command.Command.TheVariants.{View, Commit, Drop, List as Findings, Push, Guard}
use Rattle.history_spec.specs.declared.refusal.StateRefusal.{StateRefusal}
use Rattle.history_spec.specs.declared.refusal.StateRefusal.TheVariants.{AddExists, SetMissing, DelMissing, CellFull, FindingsFull, HeadTooLong}
use Rattle.history_spec.specs.declared.reply.Reply.{Reply}
use Rattle.history_spec.specs.declared.reply.Reply.TheVariants.{Viewed, Formed, Newer, Refused, Accepted}
use Rattle.history_spec.specs.Steps.{History, AcceptedCommit, cell_after, opening}
use Rattle.history_spec.specs.Sessions.{replies_from, history_after, ordered_requests, replies_to, script_of}

abbrev pub unfit_words : Unfit → List (List ℕ)
unfit_words TooLong = codes "too" ∷ codes "long" ∷ []
unfit_words BadText = codes "bad" ∷ codes "text" ∷ []
unfit_words BadName = codes "bad" ∷ codes "name" ∷ []

abbrev pub form_words : FormFault → List (List ℕ)
form_words Empty = codes "empty" ∷ []
form_words (TooMany count) = codes "too" ∷ codes "many" ∷ decimal count ∷ []
form_words (Twice place) = codes "twice" ∷ decimal place ∷ []
form_words (UnfitAt place why) = codes "unfit" ∷ decimal place ∷ unfit_words why
form_words (TooManyGuards count) = codes "too" ∷ codes "many" ∷ codes "guards" ∷ decimal count ∷ []

abbrev pub refusal_words : StateRefusal → List (List ℕ)
refusal_words (AddExists n) = codes "exists" ∷ name_words n
refusal_words (SetMissing n) = codes "set" ∷ codes "missing" ∷ name_words n
refusal_words (DelMissing n) = codes "del" ∷ codes "missing" ∷ name_words n
refusal_words (CellFull count) = codes "cell" ∷ codes "full" ∷ decimal count ∷ []
refusal_words FindingsFull = codes "findings" ∷ codes "full" ∷ []
refusal_words (HeadTooLong bytes) = codes "head" ∷ codes "too" ∷ codes "long" ∷ decimal bytes ∷ []

abbrev pub refused_line : List (List ℕ) → List ℕ
refused_line words = line (codes "commit") (codes "refused" ∷ words)

-- the line of an answer
abbrev pub reply_line : Reply → List ℕ
reply_line (Viewed number findings) = line (codes "view") (codes "seen" ∷ decimal number ∷ codes "findings" ∷ decimal findings ∷ [])
reply_line (Formed fault) = refused_line (form_words fault)
reply_line (Newer number name desk edit) = refused_line (codes "newer" ∷ decimal number ∷ name_words name ++ (codes "desk" ∷ decimal desk ∷ []))
reply_line (Refused refusal) = refused_line (refusal_words refusal)
reply_line (Accepted number findings) = line (codes "commit") (codes "accepted" ∷ decimal number ∷ codes "findings" ∷ decimal findings ∷ [])

-- the line after a local command: how many edits, guards not counted, are in the draft
abbrev pub draft_line : ℕ → List ℕ
draft_line count = line (codes "draft") (decimal count ∷ [])

-- the lines of a command that shows findings of a cell: the base, how many there are, and at most so many of them
abbrev pub list_lines : ℕ → ℕ → Cell → List ℕ
list_lines base shown c = line (codes "list") (codes "seen" ∷ decimal base ∷ codes "findings" ∷ decimal (finding_total c) ∷ [])
    ++ flat_map (λ l. l) (take shown (flat_map (λ (row : Subject × List Finding). map (finding_line row.0) row.1) (all_findings c)))

-- the base of a desk after an answer
abbrev pub base_after : Reply → ℕ → ℕ
base_after (Viewed number findings) base = number
base_after (Formed fault) base = base
base_after (Newer number name desk edit) base = base
base_after (Refused refusal) base = base
base_after (Accepted number findings) base = number

-- the lines of a session: each command's, from a base and a number of edits in the draft on; `at` is the cell after so many commits
abbrev pub transcript_from : (ℕ → Cell) → ℕ → ℕ → List Command → List Reply → List ℕ
transcript_from at base drafted [] replies = []
transcript_from at base drafted (View ∷ commands) [] = []
transcript_from at base drafted (View ∷ commands) (reply ∷ replies) = reply_line reply ++ transcript_from at (base_after reply base) drafted commands replies
transcript_from at base drafted (Commit ∷ commands) [] = []
transcript_from at base drafted (Commit ∷ commands) (reply ∷ replies) = reply_line reply ++ transcript_from at (base_after reply base) 0 commands replies
transcript_from at base drafted (Drop ∷ commands) replies = draft_line 0 ++ transcript_from at base 0 commands replies
transcript_from at base drafted (Findings shown ∷ commands) replies = list_lines base shown (at base) ++ transcript_from at base drafted commands replies
transcript_from at base drafted (Push edit ∷ commands) replies = draft_line (drafted + 1) ++ transcript_from at base (drafted + 1) commands replies
transcript_from at base drafted (Guard name ∷ commands) replies = draft_line drafted ++ transcript_from at base drafted commands replies

-- a session's part of the report
abbrev pub session_text : (ℕ → Cell) → ℕ → List Command → List Reply → List ℕ
session_text at session commands replies = line (codes "session") (decimal session ∷ []) ++ transcript_from at 0 0 commands replies

-- an accepted commit's part: its number, its desk, the findings after it, and its edits
abbrev pub commit_text : (ℕ → Cell) → ℕ × AcceptedCommit → List ℕ
commit_text at (number, accepted) =
    line (codes "commit") (decimal number ∷ codes "desk" ∷ decimal accepted.desk ∷ codes "findings" ∷ decimal (finding_total (at number)) ∷ [])
    ++ flat_map edit_line accepted.edits

abbrev pub history_text : (ℕ → Cell) → List AcceptedCommit → List ℕ
history_text at commits = line (codes "history") [] ++ flat_map (commit_text at) (enumerate_from 1 commits)

-- the report of a run that gave these replies and left this state
abbrev pub report_with : Cell → List (List Command) → List ℕ → List (ℕ × Reply) → History → List ℕ
report_with c scripts order replies last = order_line order
    ++ flat_map (λ session. session_text (λ n. cell_after n last.commits c) session (script_of scripts session) (replies_to session replies))
    (range_with_len 1 (length scripts))
    ++ history_text (λ n. cell_after n last.commits c) last.commits ++ cell_text last.cell

-- the report of scripts on a cell in an order
unfoldable pub report : Cell → List (List Command) → List ℕ → List ℕ
report c scripts order = report_with c scripts order (replies_from (opening c) (ordered_requests scripts order))
    (history_after (opening c) (ordered_requests scripts order))

-- the cell that is left
unfoldable pub final_cell : Cell → List (List Command) → List ℕ → Cell
final_cell c scripts order = (history_after (opening c) (ordered_requests scripts order)).cell
