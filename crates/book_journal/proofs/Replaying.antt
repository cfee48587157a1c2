-- Entries taken one after the other.
use Rattle.std.proofs.Common.{◌≡◌, inr, ℕ, ◌+◌, ◌-◌, ◌<◌, ◌≤◌, List, [], ◌∷◌, ◌++◌, length, refl, sym, ap, subst, ◌∙◌, arith, length-append}
use Rattle.s57_types.specs.declared.cell.Cell.{Cell}
use Rattle.cell_spec.specs.Edits.{apply_edits}
use Rattle.history_spec.specs.declared.entry.Entry.{Entry}
use Rattle.history_spec.specs.Entries.{replayed}
use Rattle.history_spec.specs.Steps.{AcceptedCommit, cell_after}
use Rattle.commit_book.specs.Books.{BookState, history_of}
use Rattle.book_journal.specs.Cuts.{HasNoEntry, IsEntryOf, IsMarked}
use Rattle.book_journal.specs.Entries.{edit_lines, entry_bytes, list_bytes, marked}
use Rattle.book_journal.specs.Journals.{IsDamagedAt, IsEnd, IsReadTo}
use Rattle.book_journal.specs.Keeping.{commit_limit}
use Rattle.book_journal.specs.Replaying.{AreTaken, HasCommitOf, IsBookTo, IsCounted, IsCountedTo, IsEditedBy, IsNotTaken}
use Rattle.book_journal.proofs.Committing.{cell_of_all}
use Rattle.book_journal.proofs.Lists.{cell_more, no_entry_damaged, not_taken_damaged, read_more, taken_accepted}
use Rattle.book_journal.proofs.Numbers.{length-part}

-- before the first entry
pub book_yet : (file : List ℕ) (book : BookState) → book.entries ≡ [] → 0 < length file → IsBookTo book.opening file book file
book_yet file book none more =
    let no_commits : (history_of book).commits ≡ [] = ap (λ (entries : List Entry). (replayed book.opening entries).commits) none in
    record {
      opening = refl;
      read = subst (λ (l : List AcceptedCommit). IsReadTo book.opening file l file) (sym no_commits) (record { bytes_are = refl; accepted = tt });
      entries = ap length none ∙ sym (ap length no_commits);
      few = let counted = ap length no_commits in omega (arith, counted);
      more = more;
    }

-- the place of the rest
pub place_of : (c : Cell) (file : List ℕ) (commits : List AcceptedCommit) (rest : List ℕ) → IsReadTo c file commits rest
    → length file - length rest ≡ length (list_bytes commits)
place_of c file commits rest read = omega (arith, ap length read.bytes_are, length-append (list_bytes commits) rest)

-- a book takes one entry more
pub book_more : (c : Cell) (file : List ℕ) (old new : BookState) (rest : List ℕ) (desk : ℕ) (text behind : List ℕ) → IsBookTo c file old rest
    → IsEntryOf rest desk text behind → HasCommitOf old desk text new → length (history_of old).commits < commit_limit → IsBookTo c file new behind
book_more c file old new rest desk text behind to entry taken room =
    let commits = (history_of old).commits in
    let one : AcceptedCommit = record { desk = desk; edits = taken.edits } in
    let cell : (history_of old).cell ≡ cell_after (length commits) commits c =
    cell_of_all old ∙ ap (λ (d : Cell). cell_after (length commits) commits d) to.opening in
    let accepted = taken_accepted c commits desk text taken.edits entry.desk_fits entry.text_fits
    (subst (λ (d : Cell). AreTaken d text taken.edits) cell taken.taken) in
    let before : rest ≡ entry_bytes one ++ behind = entry.bytes_are ∙ ap (λ (l : List ℕ). marked desk l ++ behind) taken.taken.edits_are.text_is in
    let longer = ap length taken.commits ∙ length-append commits (one ∷ []) in
    record {
      opening = taken.opening ∙ to.opening;
      read = subst (λ (l : List AcceptedCommit). IsReadTo c file l behind) (sym taken.commits)
          (read_more c file commits one rest behind to.read before accepted);
      entries = omega (arith, taken.entries, to.entries, longer);
      few = omega (arith, longer, room);
      more = entry.more;
    }

-- an entry that a book doesn't take is damaged
pub book_damaged : (c : Cell) (file : List ℕ) (old : BookState) (rest : List ℕ) (desk : ℕ) (text behind : List ℕ) → 1 < length file → IsBookTo c file old rest
    → IsEntryOf rest desk text behind → IsNotTaken (history_of old).cell text → IsDamagedAt c file (length file - length rest)
book_damaged c file old rest desk text behind more to entry not_taken =
    let commits = (history_of old).commits in
    let cell : (history_of old).cell ≡ cell_after (length commits) commits c =
    cell_of_all old ∙ ap (λ (d : Cell). cell_after (length commits) commits d) to.opening in
    subst (IsDamagedAt c file) (sym (place_of c file commits rest to.read))
    (not_taken_damaged c commits file rest more to.read desk text behind entry (subst (λ (d : Cell). IsNotTaken d text) cell not_taken))

-- before the first entry behind those of a book
pub counted_yet : (c : Cell) (file : List ℕ) (book : BookState) (rest : List ℕ) → IsBookTo c file book rest
    → IsCountedTo c file (length (history_of book).commits) 0 (history_of book).cell rest
counted_yet c file book rest to = record {
  commits = (history_of book).commits;
  read = to.read;
  count_is = omega arith;
  cell_is = cell_of_all book ∙ ap (λ (d : Cell). cell_after (length (history_of book).commits) (history_of book).commits d) to.opening;
  more = to.more;
}

pub counted_more : (c : Cell) (file : List ℕ) (first count : ℕ) (d after : Cell) (rest : List ℕ) (desk : ℕ) (text behind : List ℕ)
    → IsCountedTo c file first count d rest → IsEntryOf rest desk text behind → IsEditedBy d text after → IsCountedTo c file first (count + 1) after behind
counted_more c file first count d after rest desk text behind to entry edited =
    let one : AcceptedCommit = record { desk = desk; edits = edited.edits } in
    let accepted = taken_accepted c to.commits desk text edited.edits entry.desk_fits entry.text_fits
    (subst (λ (e : Cell). AreTaken e text edited.edits) to.cell_is edited.taken) in
    let before : rest ≡ entry_bytes one ++ behind = entry.bytes_are ∙ ap (λ (l : List ℕ). marked desk l ++ behind) edited.taken.edits_are.text_is in
    record {
      commits = to.commits ++ one ∷ [];
      read = read_more c file to.commits one rest behind to.read before accepted;
      count_is = omega (arith, to.count_is, length-append to.commits (one ∷ []));
      cell_is = edited.after_is ∙ ap (λ (e : Cell). apply_edits edited.edits e) to.cell_is ∙ sym (cell_more c to.commits one);
      more = entry.more;
    }

pub counted_damaged : (c : Cell) (file : List ℕ) (first count : ℕ) (d : Cell) (rest : List ℕ) (desk : ℕ) (text behind : List ℕ) → 1 < length file
    → IsCountedTo c file first count d rest → IsEntryOf rest desk text behind → IsNotTaken d text → IsDamagedAt c file (length file - length rest)
counted_damaged c file first count d rest desk text behind more to entry not_taken =
    subst (IsDamagedAt c file) (sym (place_of c file to.commits rest to.read))
    (not_taken_damaged c to.commits file rest more to.read desk text behind entry (subst (λ (e : Cell). IsNotTaken e text) to.cell_is not_taken))

pub counted_marked : (c : Cell) (file : List ℕ) (first count : ℕ) (d : Cell) (rest : List ℕ) → 1 < length file → IsCountedTo c file first count d rest
    → IsMarked rest → HasNoEntry rest → IsDamagedAt c file (length file - length rest)
counted_marked c file first count d rest more to mark none =
    subst (IsDamagedAt c file) (sym (place_of c file to.commits rest to.read)) (no_entry_damaged c to.commits file rest more to.read mark none)

-- the list ends
pub counted_end : (c : Cell) (file : List ℕ) (first count : ℕ) (d : Cell) (rest left : List ℕ) → IsCountedTo c file first count d left → IsEnd left
    → (count ≡ 0 → left ≡ rest) → (HasNoEntry rest → count ≡ 0) → IsCounted c file first rest count
counted_end c file first count d rest left to ends same follows = record {
  commits = to.commits;
  list = inr (record { rest = left; read = to.read; ends = ends });
  count_is = to.count_is;
  ended = λ none. subst IsEnd (same none) ends;
  follows = follows;
}

pub list_long : (commits : List AcceptedCommit) → length commits ≤ length (list_bytes commits)
list_long [] = omega arith
list_long (one ∷ commits) =
    omega (arith, list_long commits, length-append (entry_bytes one) (list_bytes commits), length-part one.desk (edit_lines one.edits))

-- there are fewer commits than bytes
pub counted_few : (c : Cell) (file : List ℕ) (first count : ℕ) (d : Cell) (rest : List ℕ) → IsCountedTo c file first count d rest → first + count < length file
counted_few c file first count d rest to =
    omega (arith, to.count_is, list_long to.commits, ap length to.read.bytes_are, length-append (list_bytes to.commits) rest, to.more)
