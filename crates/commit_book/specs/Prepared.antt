-- Commits that were prepared on an older cell: when their rows are right, which keys newer commits made stale, and how many look-ups deciding them
-- makes. This project's own rules.
use Rattle.std.specs.Prelude.{◌≡◌, ℕ, ◌*◌, ◌≤◌, List, [], ◌∷◌, ◌++◌, IfSome, drop, length}
use Rattle.std.specs.Option.{option_map_or}
use Rattle.s57_types.specs.declared.cell.Cell.{Cell}
use Rattle.cell_spec.specs.declared.key.Key.{Key}
use Rattle.cell_spec.specs.Edits.{apply_edits, touched_keys}
use Rattle.rule_spec.specs.Affected.{RowsAreExact, plan_budget}
use Rattle.history_spec.specs.declared.entry.Entry.{Entry}
use Rattle.history_spec.specs.declared.reply.Reply.{Reply}
use Rattle.history_spec.specs.EntriesReport.{cell_told}
use Rattle.history_spec.specs.Steps.{AcceptedCommit, cell_after, newer_answer}
use Rattle.cell_bench.specs.Benches.{IsPlanned, PreparedCommit}
use Rattle.commit_book.specs.Books.{BookState, history_of}

-- the keys that commits touch, each on the cell that those before it leave
abbrev pub keys_touched : Cell → List AcceptedCommit → List Key
keys_touched c [] = []
keys_touched c (accepted ∷ commits) = touched_keys accepted.edits c ++ keys_touched (apply_edits accepted.edits c) commits

-- the keys that the commits above a base touched
abbrev pub stale_keys : Cell → List AcceptedCommit → ℕ → List Key
stale_keys c commits base = keys_touched (cell_after base commits c) (drop base commits)

-- what was prepared is right on the cell of its base: a row for each affected subject of the edited cell, right there, and no other; none where
-- that cell doesn't take the edits
abbrev pub AreRight : Cell → List Entry → PreparedCommit → Type 0
AreRight c entries p = RowsAreExact p.edits.edits (cell_told c entries p.base) p.rows

-- what was prepared can be put to a log: its base is that of an accepted commit, it is at the opening's level of national texts, and its rows are right
pub record CanBePut (book : BookState) (p : PreparedCommit) : Type 0 where
  pub base : p.base ≤ length (history_of book).commits
  pub level : p.edits.nall ≡ book.opening.head.nall
  pub rows : AreRight book.opening book.entries p

-- what was built ahead is what the edits leave of the cell of the base, with nothing that speaks against them there
abbrev pub IsAheadRight : Cell → List Entry → PreparedCommit → Type 0
IsAheadRight c entries p = IfSome p.ahead (IsPlanned (cell_told c entries p.base) p.edits.edits)

-- how many look-ups deciding a commit makes at most: four for each edit where a newer commit stands against it, else those of a plan that judges
-- the subjects of which no row holds only keys that no newer commit touched
unfoldable pub commit_budget : BookState → PreparedCommit → ℕ
commit_budget book p =
    option_map_or (λ (newer : Reply). 4 * length p.edits.edits) (newer_answer (history_of book).commits p.base p.edits.edits p.edits.guards)
    (plan_budget p.edits.edits (history_of book).cell (stale_keys book.opening (history_of book).commits p.base) p.rows)
