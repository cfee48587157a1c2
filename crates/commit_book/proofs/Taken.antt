-- Along accepted commits: the cells that they leave, the keys that they touch, and what these cells answer to all other keys.
use Rattle.std.proofs.Common.{◌≡◌, ℕ, zero, suc, false, List, [], ◌∷◌, ◌++◌, drop, flat_map, fold, map, refl, sym, ap, ◌∙◌}
use Rattle.std.specs.List.{list_any}
use Rattle.std.proofs.Math.Seq.{take-length}
use Rattle.std.proofs.lemmas.Bool.{or_parts}
use Rattle.std.proofs.lemmas.List.Folds.{list_any-append}
use Rattle.s57_types.specs.declared.cell.Cell.{Cell}
use Rattle.cell_spec.specs.declared.key.Key.{Key}
use Rattle.cell_spec.specs.declared.key.Key.TheVariants.{Name, Refs, Foid}
use Rattle.cell_spec.specs.AnswersAlike.{AnswerAlike}
use Rattle.cell_spec.specs.Edits.{apply_edits, touched_keys}
use Rattle.cell_spec.specs.Names.{same_key}
use Rattle.cell_spec.specs.Writable.{IsWritable}
use Rattle.answer_laws.specs.EditedAnswers.{UntouchedKeysKeepAnswers, is_touched}
use Rattle.history_spec.specs.declared.entry.Entry.{Entry}
use Rattle.history_spec.specs.Entries.{replayed}
use Rattle.history_spec.specs.Steps.{AcceptedCommit, cell_after}
use Rattle.room_laws.proofs.Bases.{newest_cell}
use Rattle.commit_book.specs.declared.accepted.Accepted.{Accepted as Taken}
use Rattle.commit_book.specs.Books.{AreTakenFrom, IsTakenAt, commit_of, touched_in}
use Rattle.commit_book.specs.Prepared.{keys_touched, stale_keys}

abbrev after_commits : Cell → List AcceptedCommit → Cell
after_commits = fold (λ d (commit : AcceptedCommit). apply_edits commit.edits d)

-- the cell that accepted commits leave
abbrev pub edited : Cell → List Taken → Cell
edited c accepted = after_commits c (map commit_of accepted)

-- it is the cell that the entries leave
pub newest : (c : Cell) (entries : List Entry) (accepted : List Taken) → map commit_of accepted ≡ (replayed c entries).commits
    → (replayed c entries).cell ≡ edited c accepted
newest c entries accepted are = newest_cell c entries ∙ ap (after_commits c) (take-length (replayed c entries).commits ∙ sym are)

-- one commit more
pub taken_more : (c : Cell) (accepted : List Taken) (one : Taken) → AreTakenFrom c accepted → IsTakenAt (edited c accepted) one
    → AreTakenFrom c (accepted ++ one ∷ [])
taken_more c [] one taken last = (last, tt)
taken_more c (t ∷ accepted) one taken last = (taken.0, taken_more (apply_edits t.set.edits c) accepted one taken.1 last)

-- each cell on the way can be written where the last one can
pub writable_after : (base : ℕ) (c : Cell) (accepted : List Taken) → AreTakenFrom c accepted → IsWritable (edited c accepted)
    → IsWritable (cell_after base (map commit_of accepted) c)
writable_after zero c [] taken last = last
writable_after zero c (t ∷ accepted) taken last = taken.0.writable
writable_after (suc base) c [] taken last = last
writable_after (suc base) c (t ∷ accepted) taken last = writable_after base (apply_edits t.set.edits c) accepted taken.1 last

-- ---- the keys that are kept
all_touched : (c : Cell) (accepted : List Taken) → AreTakenFrom c accepted → flat_map touched_in accepted ≡ keys_touched c (map commit_of accepted)
all_touched c [] taken = refl
all_touched c (t ∷ accepted) taken = λ i. taken.0.touched i ++ all_touched (apply_edits t.set.edits c) accepted taken.1 i

pub touched_above : (base : ℕ) (c : Cell) (accepted : List Taken) → AreTakenFrom c accepted
    → flat_map touched_in (drop base accepted) ≡ stale_keys c (map commit_of accepted) base
touched_above zero c accepted taken = all_touched c accepted taken
touched_above (suc base) c [] taken = refl
touched_above (suc base) c (t ∷ accepted) taken = touched_above base (apply_edits t.set.edits c) accepted taken.1

-- ---- answers
alike_itself : (c : Cell) (k : Key) → AnswerAlike c c k
alike_itself c (Name n) = refl
alike_itself c (Refs n) = refl
alike_itself c (Foid l) = refl

alike_on : (c d e : Cell) (k : Key) → AnswerAlike c d k → AnswerAlike d e k → AnswerAlike c e k
alike_on c d e (Name n) first second = first ∙ second
alike_on c d e (Refs n) first second = first ∙ second
alike_on c d e (Foid l) first second = first ∙ second

module _ (untouched : UntouchedKeysKeepAnswers) where
  alike_after : (c : Cell) (accepted : List Taken) → AreTakenFrom c accepted → (k : Key)
      → list_any (same_key k) (keys_touched c (map commit_of accepted)) ≡ false
      → AnswerAlike c (edited c accepted) k
  alike_after c [] taken k none = alike_itself c k
  alike_after c (t ∷ accepted) taken k none =
      let d = apply_edits t.set.edits c in
      let later = keys_touched d (map commit_of accepted) in
      let neither = or_parts (is_touched t.set.edits c k) (list_any (same_key k) later)
      (sym (list_any-append (same_key k) (touched_keys t.set.edits c) later) ∙ none) in
      alike_on c d (edited d accepted) k (untouched t.set.edits c taken.0.found k neither.0) (alike_after d accepted taken.1 k neither.1)

  -- a key that no commit above a base touched has had one answer since
  pub alike_above : (base : ℕ) (c : Cell) (accepted : List Taken) → AreTakenFrom c accepted → (k : Key)
      → list_any (same_key k) (stale_keys c (map commit_of accepted) base) ≡ false
      → AnswerAlike (cell_after base (map commit_of accepted) c) (edited c accepted) k
  alike_above zero c accepted taken k none = alike_after c accepted taken k none
  alike_above (suc base) c [] taken k none = alike_itself c k
  alike_above (suc base) c (t ∷ accepted) taken k none = alike_above base (apply_edits t.set.edits c) accepted taken.1 k none
