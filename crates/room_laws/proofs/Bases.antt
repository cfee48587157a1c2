-- The cell at a base: it stays the same however the history goes on, and an answer that moves a base moves it to the newest commit.
use mathlib.Core.List.{IsPrefix}
use Rattle.std.proofs.Common.{◌≡◌, ◌⊎◌, ℕ, ◌≤◌, List, [], ◌∷◌, length, take, fold, refl, sym, ap, subst, ◌∙◌, inl, inr, ⊎_elim, arith}
use Rattle.std.proofs.lemmas.List.{length-append, take-append-le}
use Rattle.std.proofs.lemmas.List.Sums.{fold-append}
use Rattle.std.proofs.Math.Seq.{take-length}
use Rattle.s57_types.specs.declared.cell.Cell.{Cell}
use Rattle.cell_spec.specs.Edits.{apply_edits}
use Rattle.history_spec.specs.declared.entry.Asked.{Asked}
use Rattle.history_spec.specs.declared.entry.Entry.{Entry}
use Rattle.history_spec.specs.declared.reply.Reply.{Reply}
use Rattle.history_spec.specs.declared.reply.Reply.TheVariants.{Viewed, Formed, Newer, Refused, Accepted}
use Rattle.history_spec.specs.Entries.{base_told, brief_of, event_asked, replayed, stepped}
use Rattle.history_spec.specs.EntriesReport.{cell_told}
use Rattle.history_spec.specs.Steps.{AcceptedCommit, Event, History, answer, commit, left_after, opening}
use Rattle.room_laws.proofs.Steps.{IsNumbered, answer_numbered, level_left}
use Rattle.room_laws.proofs.Parts.{added, added_by, all_added, cell_left, commits_left}

abbrev edited : Cell → List AcceptedCommit → Cell
edited = fold (λ d (a : AcceptedCommit). apply_edits a.edits d)

-- commits are only added
pub commits_grow : (c : Cell) (xs ys : List Entry) → IsPrefix xs ys → IsPrefix (replayed c xs).commits (replayed c ys).commits
commits_grow c xs ys p = (
  added (replayed c xs) p.0,
  sym (all_added (replayed c xs) p.0) ∙ ap (λ (h : History). h.commits) (sym (fold-append stepped (opening c) xs p.0) ∙ ap (replayed c) p.1),
)

pub base_stays : (c : Cell) (xs ys : List Entry) (base : ℕ) → IsPrefix xs ys → base ≤ length (replayed c xs).commits → base ≤ length (replayed c ys).commits
base_stays c xs ys base p b =
    let g = commits_grow c xs ys p in
    let many = ap length (sym g.1) ∙ length-append (replayed c xs).commits g.0 in
    omega (arith, b, many)

pub cell_stays : (c : Cell) (xs ys : List Entry) (base : ℕ) → IsPrefix xs ys → base ≤ length (replayed c xs).commits → cell_told c ys base ≡ cell_told c xs base
cell_stays c xs ys base p b =
    let g = commits_grow c xs ys p in
    ap (edited c) (ap (take base) (sym g.1) ∙ take-append-le base (replayed c xs).commits g.0 b)

edited_from : (c : Cell) (h : History) (es : List Entry) → h.cell ≡ edited c h.commits → (fold stepped h es).cell ≡ edited c (fold stepped h es).commits
edited_from c h [] is = is
edited_from c h (e ∷ es) is =
    let event = event_asked e.asked in
    let reply : Reply = answer h event in
    let now = added_by e.desk event reply in
    edited_from c (stepped h e) es
    (cell_left e.desk event reply h
    ∙ ap (λ (d : Cell). edited d now) is
    ∙ sym (fold-append (λ d (a : AcceptedCommit). apply_edits a.edits d) c h.commits now)
    ∙ ap (edited c) (sym (commits_left e.desk event reply h)))

-- the newest cell is that after all commits
pub newest_cell : (c : Cell) (es : List Entry) → (replayed c es).cell ≡ cell_told c es (length (replayed c es).commits)
newest_cell c es = edited_from c (opening c) es refl ∙ ap (edited c) (sym (take-length (replayed c es).commits))

numbered : (h : History) (event : Event) (reply : Reply) → reply ≡ answer h event → IsNumbered h.commits reply
numbered h event reply is = subst (IsNumbered h.commits) (sym is) (answer_numbered h event)

moved : (h : History) (desk base : ℕ) (event : Event) (reply : Reply) → IsNumbered h.commits reply → (base_told (brief_of reply) base ≡ base)
    ⊎ (base_told (brief_of reply) base ≡ length (left_after desk event reply h).commits)
moved h desk base event (Viewed number findings) n = inr n
moved h desk base event (Formed fault) n = inl refl
moved h desk base event (Newer number name other edit) n = inl refl
moved h desk base event (Refused refusal) n = inl refl
moved h desk base event (Accepted number findings) n = inr (n
    ∙ sym (ap length (commits_left desk event (Accepted number findings) h) ∙ length-append h.commits
    (added_by desk event (Accepted number findings))))

-- an answer leaves a base where it is, or moves it to the newest commit
pub base_moved : (h : History) (desk base : ℕ) (asked : Asked) (reply : Reply) → reply ≡ answer h (event_asked asked)
    → (base_told (brief_of reply) base ≡ base) ⊎ (base_told (brief_of reply) base ≡ length (left_after desk (event_asked asked) reply h).commits)
base_moved h desk base asked reply is = moved h desk base (event_asked asked) reply (numbered h (event_asked asked) reply is)

-- and never moves it back
pub base_grows : (h : History) (base : ℕ) (asked : Asked) (reply : Reply) → reply ≡ answer h (event_asked asked) → base ≤ length h.commits
    → base ≤ base_told (brief_of reply) base
base_grows h base asked reply is b = ⊎_elim (λ (same : base_told (brief_of reply) base ≡ base). omega (arith, same))
    (λ (last : base_told (brief_of reply) base ≡ length (left_after 0 (event_asked asked) reply h).commits).
    let many = ap length (commits_left 0 (event_asked asked) reply h) ∙ length-append h.commits (added_by 0 (event_asked asked) reply) in
    omega (arith, last, many, b))
    (base_moved h 0 base asked reply is)

level_edited : (d : Cell) (commits : List AcceptedCommit) → (edited d commits).head.nall ≡ d.head.nall
level_edited d [] = refl
level_edited d (a ∷ commits) = level_edited (apply_edits a.edits d) commits ∙ level_left 0 (commit 0 a.edits []) (Accepted 0 0) (opening d)

-- the level of national texts is that of the opening
pub level_told : (c : Cell) (es : List Entry) (n : ℕ) → (cell_told c es n).head.nall ≡ c.head.nall
level_told c es n = level_edited c (take n (replayed c es).commits)
