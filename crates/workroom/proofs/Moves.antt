-- A desk's copy and its base, where the history goes on.
use mathlib.Core.List.{IsPrefix}
use Rattle.std.specs.Prelude.{IfSome}
use Rattle.std.proofs.Common.{◌≡◌, ◌⊎◌, ℕ, zero, suc, ◌≤◌, ◌<◌, List, length, refl, sym, ap, subst, ◌∙◌, ⊎_elim, inl, inr, arith}
use Rattle.s57_types.specs.declared.cell.Cell.{Cell}
use Rattle.history_spec.specs.declared.entry.Entry.{Entry}
use Rattle.history_spec.specs.declared.reply.Reply.{Reply}
use Rattle.history_spec.specs.declared.reply.Reply.TheVariants.{Viewed, Formed, Newer, Refused, Accepted}
use Rattle.history_spec.specs.Entries.{AreTold, base_told, brief_of, replayed}
use Rattle.history_spec.specs.EntriesReport.{cell_told}
use Rattle.history_spec.specs.Steps.{History}
use Rattle.rule_spec.specs.Affected.{RowsAreExact}
use Rattle.room_laws.proofs.Bases.{base_grows, base_moved, base_stays, cell_stays, newest_cell}
use Rattle.turn_gate.specs.Histories.{longer}
use Rattle.turn_gate.proofs.Prefixes.{longer_cases}
use Rattle.cell_bench.specs.Benches.{IsPlanned, PreparedCommit}
use Rattle.commit_book.proofs.Kept.{replayed_entered}
use Rattle.commit_book.specs.Books.{BookState}
use Rattle.workroom.specs.declared.turn.Ask.{Ask}
use Rattle.workroom.specs.declared.turn.Ask.TheVariants.{View, Faulty, Commit}
use Rattle.workroom.specs.declared.turn.Turned.{Turned}
use Rattle.workroom.specs.Desks.{DeskState, IsAbove, IsDesk}
use Rattle.workroom.specs.Turns.{CanAsk, IsActed, IsReady, TurnState, asked_of}

-- what can be put to a history can be put to it later
can_later : (c : Cell) (xs ys : List Entry) (ask : Ask) → IsPrefix xs ys → CanAsk c xs ask → CanAsk c ys ask
can_later c xs ys View p can = tt
can_later c xs ys (Faulty fault) p can = tt
can_later c xs ys (Commit prepared) p can = record {
  base = base_stays c xs ys prepared.base p can.base;
  level = can.level;
  rows = subst (λ (cell : Cell). RowsAreExact prepared.edits.edits cell prepared.rows) (sym (cell_stays c xs ys prepared.base p can.base)) can.rows;
  ahead = subst (λ (cell : Cell). IfSome prepared.ahead (IsPlanned cell prepared.edits.edits)) (sym (cell_stays c xs ys prepared.base p can.base)) can.ahead;
}

pub can_ask : (turn : TurnState) (book : BookState) → book.opening ≡ turn.opening → IsPrefix turn.seen book.entries
    → CanAsk turn.opening turn.seen turn.ask → CanAsk book.opening book.entries turn.ask
can_ask turn book is p can = subst (λ (c : Cell). CanAsk c book.entries turn.ask) (sym is) (can_later turn.opening turn.seen book.entries turn.ask p can)

-- what is prepared on a desk's copy can be put to what the desk has observed
pub can_commit : (d : DeskState) (prepared : PreparedCommit) → d.base ≤ length (replayed d.room.opening d.seen).commits
    → d.cell ≡ cell_told d.room.opening d.seen d.base → d.cell.head.nall ≡ d.room.opening.head.nall
    → prepared.base ≡ d.base → prepared.edits.nall ≡ d.cell.head.nall → RowsAreExact prepared.edits.edits d.cell prepared.rows
    → IfSome prepared.ahead (IsPlanned d.cell prepared.edits.edits)
    → IsReady d.room.opening d.seen prepared
can_commit d prepared within cell level base nall rows ahead = record {
  base = omega (arith, within, base);
  level = nall ∙ level;
  rows = subst (λ (c : Cell). RowsAreExact prepared.edits.edits c prepared.rows) (cell ∙ ap (cell_told d.room.opening d.seen) (sym base)) rows;
  ahead = subst (λ (c : Cell). IfSome prepared.ahead (IsPlanned c prepared.edits.edits)) (cell ∙ ap (cell_told d.room.opening d.seen) (sym base)) ahead;
}

-- the history goes on, and the copy stays
pub copy_stays : (c : Cell) (seen after : List Entry) (base : ℕ) (cell : Cell) → IsDesk c seen base cell → IsPrefix seen after
    → AreTold c after → IsDesk c after base cell
copy_stays c seen after base cell d p told = record {
  told = told;
  base_is = base_stays c seen after base p d.base_is;
  cell_is = d.cell_is ∙ sym (cell_stays c seen after base p d.base_is);
}

-- the copy is the newest
pub copy_moves : (c : Cell) (after : List Entry) (base : ℕ) (cell : Cell) → AreTold c after → base ≡ length (replayed c after).commits
    → cell ≡ (replayed c after).cell → IsDesk c after base cell
copy_moves c after base cell told last newest = record {
  told = told;
  base_is = omega (arith, last);
  cell_is = newest ∙ newest_cell c after ∙ ap (cell_told c after) (sym last);
}

module _ (c : Cell) (ask : Ask) (before : List Entry) (turned : Turned) (after : List Entry) (acted : IsActed c ask before turned after) where
  -- a base that an answer moves is that of the newest commit
  pub newest_base : (base : ℕ) → (base_told (brief_of turned.reply) base ≡ base → ⊥)
      → base_told (brief_of turned.reply) base ≡ length (replayed c after).commits
  newest_base base moved = ⊎_elim (λ (same : base_told (brief_of turned.reply) base ≡ base). absurd (moved same))
      (λ last. last ∙ ap (λ (h : History). length h.commits)
      (sym (ap (replayed c) acted.entries ∙ replayed_entered c before acted.desk (asked_of ask) turned.reply acted.reply_is)))
      (base_moved (replayed c before) acted.desk base (asked_of ask) turned.reply acted.reply_is)

  above : (base : ℕ) (reply : Reply) → base < base_told (brief_of reply) base → IsAbove base reply
  above base (Viewed number findings) less = less
  above base (Formed fault) less = absurd (omega (arith, less))
  above base (Newer number name desk edit) less = absurd (omega (arith, less))
  above base (Refused refusal) less = absurd (omega (arith, less))
  above base (Accepted number findings) less = less

  -- and the answer tells a number above the base
  pub number_above : (base : ℕ) → base ≤ length (replayed c before).commits → (base_told (brief_of turned.reply) base ≡ base → ⊥) → IsAbove base turned.reply
  number_above base within moved =
      let grown = base_grows (replayed c before) base (asked_of ask) turned.reply acted.reply_is within in
      above base turned.reply (⊎_elim (λ less. less) (λ same. absurd (moved (sym same))) (less_or_same base (base_told (brief_of turned.reply) base) grown))
    where
      less_or_same : (a b : ℕ) → a ≤ b → (a < b) ⊎ (a ≡ b)
      less_or_same zero zero le = inr refl
      less_or_same zero (suc b) le = inl (omega arith)
      less_or_same (suc a) zero le = absurd (omega (arith, le))
      less_or_same (suc a) (suc b) le = ⊎_elim (λ (less : a < b). inl (omega (arith, less))) (λ (same : a ≡ b). inr (ap suc same))
          (less_or_same a b (omega (arith, le)))

told_longer : (c : Cell) (xs ys : List Entry) → AreTold c xs → AreTold c ys → AreTold c (longer xs ys)
told_longer c xs ys p q = ⊎_elim
    (λ (t : (length xs ≤ length ys) × (longer xs ys ≡ ys)). subst (AreTold c) (sym t.1) q)
    (λ (t : (length ys ≤ length xs) × (longer xs ys ≡ xs)). subst (AreTold c) (sym t.1) p)
    (longer_cases xs ys)

-- the history of a desk that is taken over is that of the same cell
pub copy_merged : (c : Cell) (seen other after : List Entry) (base : ℕ) (cell : Cell) → IsDesk c seen base cell → AreTold c other
    → after ≡ longer seen other → IsPrefix seen after → IsDesk c after base cell
copy_merged c seen other after base cell d told is p = copy_stays c seen after base cell d p (subst (AreTold c) (sym is) (told_longer c seen other d.told told))
