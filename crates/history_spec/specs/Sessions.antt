-- Sessions that share a cell: what each asks, and the history in which they ask it. This project's own rules.
use Rattle.std.specs.Prelude.{ℕ, ◌-◌, ◌==◌, List, [], ◌∷◌, ◌++◌, map, take, filter, filter_map, fold, count_by, slice_get, slice_index_or, Option}
use Rattle.std.specs.List.{enumerate_from}
use Rattle.std.specs.Option.{option_map, option_map_or}
use Rattle.s57_types.specs.declared.name.RecName.{RecName}
use Rattle.cell_spec.specs.declared.edit.Edit.{Edit}
use Rattle.edit_sets.specs.FormFault.{form_fault}
use Rattle.text_spec.specs.declared.command.Command.{Command}
use Rattle.text_spec.specs.declared.command.Command.TheVariants.{View, Commit, Drop, List as Findings, Push, Guard}
use Rattle.history_spec.specs.declared.reply.Reply.{Reply}
use Rattle.history_spec.specs.Steps.{History, Event, view, faulty, commit, step}

-- what a shared command asks: to see, or to commit a draft of edits and guards
pub data Request : Type 0 where
  see : Request
  offer : List Edit → List RecName → Request

-- what the shared commands of a session ask, from a draft on: an edit or a guard goes into the draft, and a commit or a drop empties it
abbrev pub requests_from : List Edit → List RecName → List Command → List Request
requests_from edits guards [] = []
requests_from edits guards (View ∷ commands) = see ∷ requests_from edits guards commands
requests_from edits guards (Commit ∷ commands) = offer edits guards ∷ requests_from [] [] commands
requests_from edits guards (Drop ∷ commands) = requests_from [] [] commands
requests_from edits guards (Findings shown ∷ commands) = requests_from edits guards commands
requests_from edits guards (Push edit ∷ commands) = requests_from (edits ++ (edit ∷ [])) guards commands
requests_from edits guards (Guard name ∷ commands) = requests_from edits (guards ++ (name ∷ [])) commands

abbrev pub requests_of : List Command → List Request
requests_of = requests_from [] []

-- the script of a session, counted from 1
abbrev pub script_of : List (List Command) → ℕ → List Command
script_of scripts session = slice_index_or scripts (session - 1) []

-- in an order of sessions each place is the next request of its session
abbrev pub request_at : List (List Command) → List ℕ → ℕ × ℕ → Option (ℕ × Request)
request_at scripts order (place, session) = option_map (λ request. (session, request))
    (slice_get (requests_of (script_of scripts session)) (count_by (λ other. other == session) (take place order)))

abbrev pub ordered_requests : List (List Command) → List ℕ → List (ℕ × Request)
ordered_requests scripts order = filter_map (request_at scripts order) (enumerate_from 0 order)

-- a draft with a fault of form, at the cell's lexical level, is told with its fault; another rests on the desk's base
abbrev pub event_of : ℕ → ℕ → Request → Event
event_of nall base see = view
event_of nall base (offer edits guards) = option_map_or faulty (form_fault nall edits guards) (commit base edits guards)

-- a request taken as an event of its desk
abbrev pub request_step : History → ℕ × Request → Reply × History
request_step h (desk, request) = step h desk (event_of h.cell.head.nall (h.bases desk) request)

-- the replies to requests one after the other, each with its desk
abbrev pub replies_from : History → List (ℕ × Request) → List (ℕ × Reply)
replies_from h [] = []
replies_from h (request ∷ requests) = (request.0, (request_step h request).0) ∷ replies_from (request_step h request).1 requests

-- the state that requests leave
abbrev pub history_after : History → List (ℕ × Request) → History
history_after = fold (λ h request. (request_step h request).1)

-- the replies to one desk
abbrev pub replies_to : ℕ → List (ℕ × Reply) → List Reply
replies_to desk replies = map (λ (told : ℕ × Reply). told.1) (filter (λ (told : ℕ × Reply). told.0 == desk) replies)
