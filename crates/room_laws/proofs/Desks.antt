-- A desk's base and its copy of the cell after an answer.
use mathlib.Core.List.{IsPrefix}
use Rattle.std.proofs.Common.{◌≡◌, ℕ, ◌≤◌, List, [], ◌∷◌, ◌++◌, length, sym, ap, ◌∙◌, subst, arith}
use Rattle.std.proofs.lemmas.List.{length-append}
use Rattle.std.proofs.lemmas.List.Sums.{fold-append}
use Rattle.s57_types.specs.declared.cell.Cell.{Cell}
use Rattle.history_spec.specs.declared.entry.Asked.{Asked}
use Rattle.history_spec.specs.declared.entry.Entry.{Entry}
use Rattle.history_spec.specs.declared.reply.Reply.{Reply}
use Rattle.history_spec.specs.declared.reply.Reply.TheVariants.{Viewed, Formed, Newer, Refused, Accepted}
use Rattle.history_spec.specs.Entries.{brief_of, event_asked, replayed, stepped}
use Rattle.history_spec.specs.EntriesReport.{cell_told}
use Rattle.history_spec.specs.ReportText.{base_after}
use Rattle.history_spec.specs.Steps.{AcceptedCommit, History, answer, edits_asked, left_after, opening}
use Rattle.room_laws.specs.Desks.{copy_after}
use Rattle.room_laws.proofs.Bases.{base_stays, cell_stays, newest_cell}
use Rattle.room_laws.proofs.Steps.{IsNumbered, answer_numbered}

abbrev entered : ℕ → Asked → Reply → Entry
entered desk asked reply = record { desk = desk; asked = asked; brief = brief_of reply }

-- an answer that was entered behind what a desk had seen: its base is there, and its copy is the cell after it
pub record IsMoved (c : Cell) (after : List Entry) (base : ℕ) (copy : Cell) : Type 0 where
  pub within : base ≤ length (replayed c after).commits
  pub copy_is : copy ≡ cell_told c after base

module _ (c : Cell) (before after : List Entry) (desk : ℕ) (asked : Asked) (base : ℕ) (copy : Cell)
    (within : base ≤ length (replayed c before).commits) (copy_is : copy ≡ cell_told c before base) where
  abbrev h : History
  h = replayed c before

  stays : IsPrefix before after → IsMoved c after base copy
  stays grown = record { within = base_stays c before after base grown within; copy_is = copy_is ∙ sym (cell_stays c before after base grown within) }

  moves : (number : ℕ) → number ≡ length (replayed c after).commits → IsMoved c after number (replayed c after).cell
  moves number is = record { within = subst (λ n. number ≤ n) is (omega arith); copy_is = newest_cell c after ∙ ap (cell_told c after) (sym is) }

  by_reply : (reply : Reply) → IsNumbered h.commits reply → replayed c after ≡ left_after desk (event_asked asked) reply h → IsPrefix before after
      → IsMoved c after (base_after reply base) (copy_after reply (replayed c after).cell copy)
  by_reply (Viewed number findings) newest left grown = moves number (newest ∙ ap (λ (g : History). length g.commits) (sym left))
  by_reply (Formed fault) newest left grown = stays grown
  by_reply (Newer number name other edit) newest left grown = stays grown
  by_reply (Refused refusal) newest left grown = stays grown
  by_reply (Accepted number findings) newest left grown =
      let one : AcceptedCommit = record { desk = desk; edits = edits_asked (event_asked asked) } in
      moves number (newest ∙ sym (length-append h.commits (one ∷ [])) ∙ ap (λ (g : History). length g.commits) (sym left))

  pub desk_moves : (reply : Reply) → reply ≡ answer h (event_asked asked) → after ≡ before ++ entered desk asked reply ∷ []
      → IsMoved c after (base_after reply base) (copy_after reply (replayed c after).cell copy)
  desk_moves reply is more =
      let e = entered desk asked reply in
      let left = ap (replayed c) more ∙ fold-append stepped (opening c) before (e ∷ []) ∙ ap (λ r. left_after desk (event_asked asked) r h) (sym is) in
      by_reply reply (subst (IsNumbered h.commits) (sym is) (answer_numbered h (event_asked asked))) left (e ∷ [], sym more)
