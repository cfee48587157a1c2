-- Commands of a session that were done, beside the history that the session has seen. This project's own rules.
use mathlib.Core.List.{IsPrefix}
use Rattle.std.specs.Prelude.{◌≡◌, ℕ, ◌+◌, List, [], ◌∷◌, ◌++◌, length, map, fold}
use Rattle.s57_types.specs.declared.cell.Cell.{Cell}
use Rattle.s57_types.specs.declared.name.RecName.{RecName}
use Rattle.cell_spec.specs.declared.edit.Edit.{Edit}
use Rattle.text_spec.specs.declared.command.Command.{Command}
use Rattle.text_spec.specs.declared.command.Command.TheVariants.{View, Commit, Drop, List as Findings, Push, Guard}
use Rattle.history_spec.specs.declared.entry.Entry.{Entry}
use Rattle.history_spec.specs.declared.reply.Reply.{Reply}
use Rattle.history_spec.specs.Entries.{AreAsked, brief_of, base_told}
use Rattle.history_spec.specs.ReportText.{transcript_from, draft_line, list_lines}
use Rattle.history_spec.specs.Sessions.{Request, see, offer, requests_of}
use Rattle.history_spec.specs.EntriesReport.{cell_told}

-- what a session has put together for its next commit
pub record Draft : Type 0 where
  pub edits : List Edit
  pub guards : List RecName

abbrev pub no_draft : Draft
no_draft = record { edits = []; guards = [] }

-- what a command asks beside a draft, and the draft after it
abbrev pub asked_by : Command → Draft → List Request
asked_by View draft = see ∷ []
asked_by Commit draft = offer draft.edits draft.guards ∷ []
asked_by Drop draft = []
asked_by (Findings shown) draft = []
asked_by (Push edit) draft = []
asked_by (Guard name) draft = []

abbrev pub draft_after : Command → Draft → Draft
draft_after View draft = draft
draft_after Commit draft = no_draft
draft_after Drop draft = no_draft
draft_after (Findings shown) draft = draft
draft_after (Push edit) draft = record draft { edits = draft.edits ++ (edit ∷ []) }
draft_after (Guard name) draft = record draft { guards = draft.guards ++ (name ∷ []) }

-- the lines of a command that has no answer
abbrev pub local_lines : Cell → ℕ → Draft → Command → List ℕ
local_lines d base draft View = []
local_lines d base draft Commit = []
local_lines d base draft Drop = draft_line 0
local_lines d base draft (Findings shown) = list_lines base shown d
local_lines d base draft (Push edit) = draft_line (length draft.edits + 1)
local_lines d base draft (Guard name) = draft_line (length draft.edits)

abbrev pub drafted : Draft → List Command → Draft
drafted = fold (λ draft command. draft_after command draft)

abbrev pub later_base : ℕ → List Entry → ℕ
later_base = fold (λ base (e : Entry). base_told e.brief base)

-- the session's entries are what the commands asked, and these are their lines however the history goes on
pub record IsServed (c : Cell) (seen entries : List Entry) (base : ℕ) (done : List Command) (draft : Draft) (lines : List ℕ) : Type 0 where
  pub asked_are : AreAsked c.head.nall 0 (requests_of done) entries
  pub base_is : base ≡ later_base 0 entries
  pub draft_is : draft ≡ drafted no_draft done
  pub replies : List Reply
  pub briefs : map brief_of replies ≡ map (λ (e : Entry). e.brief) entries
  pub lines_are : (later : List Entry) → IsPrefix seen later → lines ≡ transcript_from (cell_told c later) 0 0 done replies
