-- The entries of an editing history: what each desk asked, with the answer, and the sessions that they are of. This project's own rules.
use Rattle.std.specs.Prelude.{◌≡◌, ℕ, ◌≤◌, ◌==◌, List, [], ◌∷◌, length, map, filter, fold, All}
use Rattle.s57_types.specs.declared.cell.Cell.{Cell}
use Rattle.text_spec.specs.declared.command.Command.{Command}
use Rattle.history_spec.specs.declared.entry.Asked.{Asked}
use Rattle.history_spec.specs.declared.entry.Asked.TheVariants.{View, Faulty, Commit}
use Rattle.history_spec.specs.declared.entry.Entry.{Entry}
use Rattle.history_spec.specs.declared.reply.Brief.{Brief}
use Rattle.history_spec.specs.declared.reply.Brief.TheVariants as brief
use Rattle.history_spec.specs.declared.reply.Reply.{Reply}
use Rattle.history_spec.specs.declared.reply.Reply.TheVariants as reply
use Rattle.history_spec.specs.Sessions.{Request, event_of, requests_of, script_of}
use Rattle.history_spec.specs.Steps.{History, Event, view, faulty, commit, step, opening}

-- an answer without the edit that it shows
abbrev pub brief_of : Reply → Brief
brief_of (reply.Viewed number findings) = brief.Viewed number findings
brief_of (reply.Formed fault) = brief.Formed fault
brief_of (reply.Newer number name desk edit) = brief.Newer number name desk
brief_of (reply.Refused refusal) = brief.Refused refusal
brief_of (reply.Accepted number findings) = brief.Accepted number findings

abbrev pub event_asked : Asked → Event
event_asked View = view
event_asked (Faulty fault) = faulty fault
event_asked (Commit base set) = commit base set.edits set.guards

-- an entry as a step
abbrev pub entry_step : History → Entry → Reply × History
entry_step h e = step h e.desk (event_asked e.asked)

abbrev pub stepped : History → Entry → History
stepped h e = (entry_step h e).1

-- the state that entries leave
abbrev pub replayed : Cell → List Entry → History
replayed c = fold stepped (opening c)

-- each entry has the answer at its point
abbrev pub AreToldFrom : History → List Entry → Type 0
AreToldFrom h [] = Unit {0}
AreToldFrom h (e ∷ es) = (e.brief ≡ brief_of (entry_step h e).0) × AreToldFrom (stepped h e) es

abbrev pub AreTold : Cell → List Entry → Type 0
AreTold c = AreToldFrom (opening c)

abbrev pub entries_of : ℕ → List Entry → List Entry
entries_of desk = filter (λ (e : Entry). e.desk == desk)

-- the base of a desk after an answer
abbrev pub base_told : Brief → ℕ → ℕ
base_told (brief.Viewed number findings) base = number
base_told (brief.Formed fault) base = base
base_told (brief.Newer number name desk) base = base
base_told (brief.Refused refusal) base = base
base_told (brief.Accepted number findings) base = number

-- a session's entries ask what its requests ask, each on the base that its answers gave
abbrev pub AreAsked : ℕ → ℕ → List Request → List Entry → Type 0
AreAsked nall base [] [] = Unit {0}
AreAsked nall base [] (e ∷ es) = ⊥
AreAsked nall base (r ∷ rs) [] = ⊥
AreAsked nall base (r ∷ rs) (e ∷ es) = (event_asked e.asked ≡ event_of nall base r) × AreAsked nall (base_told e.brief base) rs es

-- the sessions' entries, by number from 1, and no others, each the answer at its point
pub record AreInterleaved (c : Cell) (scripts : List (List Command)) (entries : List Entry) : Type 0 where
  pub told : AreTold c entries
  pub numbers : All (λ (e : Entry). (1 ≤ e.desk) × (e.desk ≤ length scripts)) entries
  pub each : (i : ℕ) → 1 ≤ i → i ≤ length scripts → AreAsked c.head.nall 0 (requests_of (script_of scripts i)) (entries_of i entries)

abbrev pub order_of_entries : List Entry → List ℕ
order_of_entries = map (λ (e : Entry). e.desk)
