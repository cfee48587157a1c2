-- A session that does one command more, and a history that goes on without it. This project's own rules.
use mathlib.Core.List.{IsPrefix}
use Rattle.std.specs.Prelude.{◌≡◌, ℕ, true, false, List, [], ◌∷◌, ◌++◌}
use Rattle.s57_types.specs.declared.cell.Cell.{Cell}
use Rattle.text_spec.specs.declared.command.Command.{Command}
use Rattle.text_spec.specs.ScriptLines.{is_shared}
use Rattle.history_spec.specs.declared.entry.Entry.{Entry}
use Rattle.history_spec.specs.declared.reply.Reply.{Reply}
use Rattle.history_spec.specs.Entries.{brief_of, base_told, event_asked}
use Rattle.history_spec.specs.EntriesReport.{cell_told}
use Rattle.history_spec.specs.ReportText.{reply_line}
use Rattle.history_spec.specs.Served.{Draft, IsServed, asked_by, draft_after, local_lines}
use Rattle.history_spec.specs.Sessions.{Request, event_of}

-- a view or a commit whose entry stands now behind all that the session had seen
abbrev pub SharedIsServed : Type 0
SharedIsServed = (c : Cell) (seen entries : List Entry) (base : ℕ) (done : List Command) (draft : Draft) (lines : List ℕ)
    → IsServed c seen entries base done draft lines
    → (command : Command) → is_shared command ≡ true → (request : Request) → asked_by command draft ≡ request ∷ []
    → (after : List Entry) (e : Entry) (reply : Reply) → IsPrefix seen after → event_asked e.asked ≡ event_of c.head.nall base request
    → brief_of reply ≡ e.brief
    → IsServed c after (entries ++ e ∷ []) (base_told e.brief base) (done ++ command ∷ []) (draft_after command draft) (lines ++ reply_line reply)

-- another command, where a cell is that after the session's base however the history goes on
abbrev pub LocalIsServed : Type 0
LocalIsServed = (c : Cell) (seen entries : List Entry) (base : ℕ) (done : List Command) (draft : Draft) (lines : List ℕ)
    → IsServed c seen entries base done draft lines
    → (command : Command) → is_shared command ≡ false → (cell : Cell) → ((later : List Entry) → IsPrefix seen later → cell_told c later base ≡ cell)
    → IsServed c seen entries base (done ++ command ∷ []) (draft_after command draft) (lines ++ local_lines cell base draft command)

-- a history that others carry on
abbrev pub LaterIsServed : Type 0
LaterIsServed = (c : Cell) (seen entries : List Entry) (base : ℕ) (done : List Command) (draft : Draft) (lines : List ℕ)
    → IsServed c seen entries base done draft lines
    → (after : List Entry) → IsPrefix seen after → IsServed c after entries base done draft lines
