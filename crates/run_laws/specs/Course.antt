-- The course of a run of scripts on a cell in an order of their sessions, as a whole. This project's own rules.
use Rattle.std.specs.Prelude.{◌≡◌, ℕ, ◌≤◌, List, Some, length, slice_get}
use Rattle.s57_types.specs.declared.cell.Cell.{Cell}
use Rattle.text_spec.specs.declared.command.Command.{Command}
use Rattle.history_spec.specs.Sessions.{Request, history_after, ordered_requests, replies_from, requests_of, script_of}
use Rattle.history_spec.specs.Steps.{opening}
use Rattle.run_laws.specs.Causes.{IsAnswered}
use Rattle.run_laws.specs.Left.{IsLeft}
use Rattle.run_laws.specs.Requests.{requests_by, sessions_of}

-- each request is of the session that the order names at its place, and each session has all its views and commits, once and in its script's order;
-- each request is answered with its cause in the history at its point; and what was accepted is left, each draft once and in order
pub record IsCourse (c : Cell) (scripts : List (List Command)) (order : List ℕ) : Type 0 where
  pub in_order : sessions_of (ordered_requests scripts order) ≡ order
  pub each : (i : ℕ) → 1 ≤ i → i ≤ length scripts → requests_by i (ordered_requests scripts order) ≡ requests_of (script_of scripts i)
  pub answered : (place desk : ℕ) (request : Request) → slice_get (ordered_requests scripts order) place ≡ Some (desk, request)
      → IsAnswered (opening c) (ordered_requests scripts order) place desk request
  pub left : IsLeft c (ordered_requests scripts order) (replies_from (opening c) (ordered_requests scripts order))
      (history_after (opening c) (ordered_requests scripts order))
