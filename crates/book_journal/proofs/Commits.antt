-- A journal whose book answers, and what is kept of it.
use Rattle.std.proofs.Common.{◌≡◌, ℕ, ◌+◌, ◌<◌, ◌≤◌, ◌^◌, false, List, [], ◌∷◌, ◌++◌, length, Option, None, Some, IfSome, IsSome, IfOk, IfErr, Result, Ok}
use Rattle.std.proofs.Common.{Err, refl, sym, ap, subst, ◌∙◌, arith, length-append}
use Rattle.std.proofs.lemmas.Bool.{false≢true}
use Rattle.s57_types.specs.declared.cell.Cell.{Cell}
use Rattle.edit_sets.specs.FormFault.{GuardedEdits, form_fault}
use Rattle.edit_sets.specs.declared.fault.FormFault.{FormFault}
use Rattle.cell_bench.specs.Benches.{PreparedCommit}
use Rattle.history_spec.specs.declared.entry.Asked.{Asked}
use Rattle.history_spec.specs.declared.entry.Asked.TheVariants.{View, Faulty, Commit}
use Rattle.history_spec.specs.declared.reply.Reply.{Reply}
use Rattle.history_spec.specs.Entries.{brief_of, event_asked, replayed}
use Rattle.history_spec.specs.Steps.{AcceptedCommit, History, answer, cell_after, state_refusal}
use Rattle.room_laws.proofs.Bases.{level_told}
use Rattle.commit_book.specs.Books.{BookState, IsBookRefusal, IsEntered, LeavesCommits, entry_of, history_of}
use Rattle.commit_book.specs.declared.refusal.BookRefusal.{BookRefusal}
use Rattle.commit_book.specs.declared.told.Told.{Told}
use Rattle.commit_book.proofs.Kept.{commits_left, replayed_entered}
use Rattle.crash_disk.specs.Disk.{LeavesOnly, Only}
use Rattle.crash_disk.proofs.Moments.{started, weakened}
use Rattle.book_journal.specs.Entries.{HaveLines, edit_lines, entry_part, text_limit}
use Rattle.book_journal.specs.Journals.{IsAcceptance, IsAcceptedBehind}
use Rattle.book_journal.specs.Keeping.{HasOrHasNot, IsStanding}
use Rattle.book_journal.specs.Parts.{IsPartOf, commit_asked, text_asked}
use Rattle.book_journal.specs.Standing.{IsStill}
use Rattle.book_journal.specs.Writing.{IsTornEntry, with_entry}
use Rattle.book_journal.specs.declared.journal.Journal.{Journal}
use Rattle.book_journal.proofs.Committing.{cell_of_all, commits_accepted, none_against, unguarded}
use Rattle.book_journal.proofs.Keeping.{stands_more, standing_within, torn_keeps, yet}
use Rattle.book_journal.proofs.Lists.{taken_accepted}
use Rattle.book_journal.proofs.Numbers.{length-part}
use Rattle.book_journal.proofs.Told.{if_some, some_at}

-- a book that answered and kept its commits
pub record HasSame (old new : BookState) : Type 0 where
  pub opening : new.opening ≡ old.opening
  pub commits : (history_of new).commits ≡ (history_of old).commits
  pub entries : length old.entries ≤ length new.entries

pub same_commits : (old new : BookState) (desk : ℕ) (asked : Asked) (reply : Reply) → IsEntered old desk asked new reply → LeavesCommits reply → HasSame old new
same_commits old new desk asked reply entered leaves = record {
  opening = entered.opening;
  commits = (λ i. (replayed (entered.opening i) (entered.entries i)).commits)
      ∙ ap (λ (h : History). h.commits) (replayed_entered old.opening old.entries desk asked reply entered.reply_is)
      ∙ sym (commits_left (history_of old) desk asked reply leaves);
  entries = let more = ap length entered.entries ∙ length-append old.entries _ in omega (arith, more);
}

pub same_book : (old new : BookState) → new ≡ old → HasSame old new
same_book old new same = record {
  opening = ap (λ (book : BookState). book.opening) same;
  commits = ap (λ (book : BookState). (history_of book).commits) same;
  entries = let counted = ap (λ (book : BookState). length book.entries) same in omega (arith, counted);
}

view_leaves : (book : BookState) (reply : Reply) → reply ≡ answer (history_of book) (event_asked View) → LeavesCommits reply
view_leaves book reply is = subst LeavesCommits (sym is) tt

-- after a view or a fault the commits are the same, and after a refusal the book is
pub viewed_same : (old new : BookState) (desk : ℕ) (result : Result Told BookRefusal) → IfOk result (λ (told : Told). IsEntered old desk View new told.reply)
    → IfErr result (λ (why : BookRefusal). IsBookRefusal old.entries why × (new ≡ old)) → HasSame old new
viewed_same old new desk (Ok told) entered refused = same_commits old new desk View told.reply entered (view_leaves old told.reply entered.reply_is)
viewed_same old new desk (Err why) entered refused = same_book old new refused.1

pub faulty_same : (old new : BookState) (desk : ℕ) (fault : FormFault) (result : Result Told BookRefusal)
    → IfOk result (λ (told : Told). IsEntered old desk (Faulty fault) new told.reply)
    → IfErr result (λ (why : BookRefusal). IsBookRefusal old.entries why × (new ≡ old)) → HasSame old new
faulty_same old new desk fault (Ok told) entered refused =
    same_commits old new desk (Faulty fault) told.reply entered (subst LeavesCommits (sym entered.reply_is) tt)
faulty_same old new desk fault (Err why) entered refused = same_book old new refused.1

module _ {D : Type 0} (content : D → Option (List ℕ)) (images : D → List ℕ → Type 0) (journal : Journal D) (still : IsStill content images journal) where
  -- a journal with another book of the same commits
  pub still_same : (book : BookState) → HasSame journal.book book → IsStill content images (record journal { book = book })
  still_same book same = record {
    room = let entries = same.entries in let room = still.room in omega (arith, entries, room);
    standing = λ whole. if_some _ _ (content journal.disk.now) (still.standing whole) (λ file told standing.
        subst (λ (c : Cell). IsStanding c (history_of book).commits journal.end (images journal.disk.now) file) (sym same.opening)
        (subst (λ (l : List AcceptedCommit). IsStanding journal.book.opening l journal.end (images journal.disk.now) file) (sym same.commits) standing));
  }

  -- what an entry is added to
  pub stands_ready : journal.broken ≡ false → IfSome (content journal.disk.now)
      (λ (file : List ℕ). (journal.end < length file) × Only file (images journal.disk.now))
  stands_ready whole = if_some _ _ (content journal.disk.now) (still.standing whole) (λ file told standing.
      (standing_within journal.book.opening (history_of journal.book).commits journal.end (images journal.disk.now) file standing, standing.kept))

  module _ (moment : D → ℕ) (left_since : D → ℕ → List ℕ → Type 0) (one : AcceptedCommit) (whole : journal.broken ≡ false) where
    -- before anything is written
    pub nothing_written : ((image : List ℕ) → left_since journal.disk.now (moment journal.disk.now) image → images journal.disk.now image)
        → IfSome (content journal.disk.now) (λ (file : List ℕ). LeavesOnly moment left_since journal.disk.now journal.disk.now
        (HasOrHasNot journal.book.opening (history_of journal.book).commits one))
    nothing_written only_now = if_some _ _ (content journal.disk.now) (still.standing whole) (λ file told standing.
        started moment left_since journal.disk.now (HasOrHasNot journal.book.opening (history_of journal.book).commits one)
        (λ image left. yet journal.book.opening (history_of journal.book).commits one journal.end (images journal.disk.now) file standing image
        (only_now image left)))

    module _ (part : List ℕ) (part_is : part ≡ entry_part one.desk (edit_lines one.edits) ++ 0 ∷ [])
        (accepted : IsAcceptedBehind journal.book.opening (history_of journal.book).commits one) (new : D) where
      -- while an entry is added
      pub entry_written : IfSome (content journal.disk.now) (λ (file : List ℕ). LeavesOnly moment left_since journal.disk.now new
          (IsTornEntry file journal.end part))
          → IfSome (content journal.disk.now) (λ (file : List ℕ). LeavesOnly moment left_since journal.disk.now new
          (HasOrHasNot journal.book.opening (history_of journal.book).commits one))
      entry_written moments = if_some _ _ (content journal.disk.now) (still.standing whole) (λ file told standing.
          weakened moment left_since journal.disk.now new (IsTornEntry file journal.end part)
          (HasOrHasNot journal.book.opening (history_of journal.book).commits one)
          (some_at _ (content journal.disk.now) file told moments)
          (torn_keeps journal.book.opening (history_of journal.book).commits one journal.end file part standing.list standing.place_is part_is accepted))

-- the commit that a desk asks for is accepted behind those of the book
pub asked_accepted : (old new : BookState) (desk : ℕ) (prepared : PreparedCommit) (reply : Reply)
    → IsEntered old desk (Commit prepared.base prepared.edits) new reply → IsAcceptance reply → desk < 2 ^ 32
    → prepared.edits.nall ≡ old.opening.head.nall → HaveLines prepared.edits.edits
    → form_fault prepared.edits.nall prepared.edits.edits prepared.edits.guards ≡ None → length (text_asked prepared) ≤ text_limit
    → IsAcceptedBehind old.opening (history_of old).commits (commit_asked desk prepared)
asked_accepted old new desk prepared reply entered is desk_fits level lines form short =
    let commits = (history_of old).commits in
    let cell = cell_of_all old in
    let leveled : prepared.edits.nall ≡ (cell_after (length commits) commits old.opening).head.nall =
    level ∙ sym (level_told old.opening old.entries (length commits)) in
    taken_accepted old.opening commits desk (text_asked prepared) prepared.edits.edits desk_fits (omega (arith, short)) (record {
      edits_are = record {
        lines = lines;
        form = subst (λ (n : ℕ). form_fault n prepared.edits.edits [] ≡ None) leveled
            (unguarded prepared.edits.nall prepared.edits.edits prepared.edits.guards form);
        text_is = refl;
      };
      none = subst (λ (d : Cell). state_refusal d prepared.edits.edits ≡ None) cell
          (none_against (history_of old) prepared.base prepared.edits.edits prepared.edits.guards (subst IsAcceptance entered.reply_is is));
    })

-- the same where a set with these edits and guards was seen to have no fault of form
pub set_accepted : (old new : BookState) (desk : ℕ) (prepared : PreparedCommit) (reply : Reply)
    → IsEntered old desk (Commit prepared.base prepared.edits) new reply → IsAcceptance reply → desk < 2 ^ 32
    → prepared.edits.nall ≡ old.opening.head.nall → HaveLines prepared.edits.edits → (seen : GuardedEdits) → seen ≡ prepared.edits
    → form_fault seen.nall seen.edits seen.guards ≡ None → length (text_asked prepared) ≤ text_limit
    → IsAcceptedBehind old.opening (history_of old).commits (commit_asked desk prepared)
set_accepted old new desk prepared reply entered is desk_fits level lines seen same form short =
    asked_accepted old new desk prepared reply entered is desk_fits level lines
    (subst (λ (set : GuardedEdits). form_fault set.nall set.edits set.guards ≡ None) same form) short

-- the journal once the entry is kept
pub still_more : {D : Type 0} (content : D → Option (List ℕ)) (images : D → List ℕ → Type 0) (old new : Journal D) → IsStill content images old → old.broken
    ≡ false
    → (desk : ℕ) (prepared : PreparedCommit) (reply : Reply) → IsEntered old.book desk (Commit prepared.base prepared.edits) new.book reply → IsAcceptance reply
    → IsAcceptedBehind old.book.opening (history_of old.book).commits (commit_asked desk prepared) → (part : List ℕ) → IsPartOf desk prepared part
    → new.end ≡ old.end + length part → (IsSome (content new.disk.now) → IsSome (content old.disk.now))
    → IfSome (content old.disk.now) (λ (file : List ℕ). content new.disk.now ≡ Some (with_entry file old.end part))
    → IfSome (content old.disk.now) (λ (file : List ℕ). Only (with_entry file old.end part) (images new.disk.now)) → IsStill content images new
still_more {D} content images old new still whole desk prepared reply entered is accepted part part_of end told bytes only =
    let one = commit_asked desk prepared in
    let sized = ap length part_of.part_is ∙ length-append (entry_part desk (text_asked prepared)) (0 ∷ []) in
    let longer = ap length entered.entries ∙ length-append old.book.entries (entry_of desk (Commit prepared.base prepared.edits) (brief_of reply) ∷ []) in
    let room = still.room in
    let short = part_of.short in
    let counted = length-part desk (text_asked prepared) in
    record {
      room = omega (arith, room, end, sized, counted, short, longer);
      standing = λ new_whole. stands (content old.disk.now) (content new.disk.now) refl refl;
    }
  where
    stands : (before now : Option (List ℕ)) → before ≡ content old.disk.now → now ≡ content new.disk.now
        → IfSome now (IsStanding new.book.opening (history_of new.book).commits new.end (images new.disk.now))
    stands before None was is_now = tt
    stands None (Some file) was is_now =
        absurd (false≢true (subst (λ (o : Option (List ℕ)). IsSome o) (sym was) (told (subst (λ (o : Option (List ℕ)). IsSome o) is_now refl))))
    stands (Some before) (Some file) was is_now =
        let one = commit_asked desk prepared in
        let c = old.book.opening in
        let commits = (history_of old.book).commits in
        let standing = some_at _ (content old.disk.now) before (sym was) (still.standing whole) in
        let there : Some file ≡ Some (with_entry before old.end part) = is_now ∙ some_at _ (content old.disk.now) before (sym was) bytes in
        let file_is : file ≡ with_entry before old.end part = cc in
        let more = stands_more c commits one old.end before part standing.list standing.place_is part_of.part_is accepted (images new.disk.now)
        (some_at _ (content old.disk.now) before (sym was) only) in
        let placed = subst (λ (n : ℕ). IsStanding c (commits ++ one ∷ []) n (images new.disk.now) (with_entry before old.end part)) (sym end) more in
        let opened = subst (λ (d : Cell). IsStanding d (commits ++ one ∷ []) new.end (images new.disk.now) (with_entry before old.end part))
        (sym entered.opening) placed in
        let listed = subst (λ (l : List AcceptedCommit). IsStanding new.book.opening l new.end (images new.disk.now) (with_entry before old.end part))
        (sym (commits_accepted old.book new.book desk prepared.base prepared.edits reply entered is)) opened in
        subst (λ (l : List ℕ). IsStanding new.book.opening (history_of new.book).commits new.end (images new.disk.now) l) (sym file_is) listed
