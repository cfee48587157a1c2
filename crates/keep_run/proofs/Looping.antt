-- A script's commands one after the other, and what a crash leaves meanwhile.
use Rattle.std.proofs.Common.{◌≡◌, inr, false, ℕ, suc, ◌+◌, ◌<◌, ◌≤◌, List, [], ◌∷◌, length, drop, get_or, Option, None, Some, refl, sym, ap, ◌∙◌, subst, arith}
use Rattle.std.specs.Prelude.{IfSome, IsSome}
use Rattle.std.proofs.Math.Seq.{drop-cons}
use Rattle.std.proofs.lemmas.Bool.{false≢true}
use Rattle.std.proofs.lemmas.List.{drop_all}
use Rattle.s57_types.specs.declared.cell.Cell.{Cell}
use Rattle.text_spec.specs.declared.command.Command.{Command}
use Rattle.history_spec.specs.Steps.{AcceptedCommit}
use Rattle.history_spec.specs.Served.{Draft}
use Rattle.commit_book.specs.Books.{BookState, entry_limit, history_of}
use Rattle.book_journal.specs.Journals.{IsJournalOf}
use Rattle.book_journal.specs.Standing.{IsStill}
use Rattle.book_journal.specs.declared.journal.Journal.{Journal}
use Rattle.book_journal.proofs.Told.{if_some}
use Rattle.crash_disk.specs.Disk.{LeavesOnly}
use Rattle.crash_disk.proofs.Moments.{started, then, weakened}
use Rattle.keep_run.specs.Runs.{IsKeptTo}
use Rattle.keep_run.specs.Sessions.{IsAround, IsDone, IsFit, IsRun, IsRunTo, draft_of, event_by}
use Rattle.keep_run.specs.declared.session.Session.{Session}
use Rattle.keep_run.proofs.Fits.{fit_one}
use Rattle.keep_run.proofs.Going.{all_done, meanwhile, one_more, yet}

-- the commands from a place on
rest_at : (list : List Command) (place : ℕ) (command : Command) → place < length list → command ≡ get_or list place command
    → drop place list ≡ command ∷ drop (suc place) list
rest_at list place command within is = drop-cons list place command within ∙ ap (λ (first : Command). first ∷ drop (suc place) list) (sym is)

module _ (c : Cell) (commits : List AcceptedCommit) (script list : List Command) (place : ℕ) (command : Command) (within : place < length list)
    (is : command ≡ get_or list place command) (book : BookState) (s : Session)
    (run : IsRunTo c commits script (drop place list) book (draft_of s) s.transcript) where
  begun : IsRunTo c commits script (command ∷ drop (suc place) list) book (draft_of s) s.transcript
  begun = subst (λ (rest : List Command). IsRunTo c commits script rest book (draft_of s) s.transcript) (rest_at list place command within is) run

  pub has_room : length book.entries < entry_limit
  has_room = let room = begun.room in omega (arith, room)

  pub fits_next : IsFit (draft_of s) (command ∷ [])
  fits_next = fit_one (draft_of s) command (drop (suc place) list) begun.fit

  pub next_done : (new : BookState) (t : Session) → IsDone book s command new t
      → IsRunTo c commits script (drop (place + 1) list) new (draft_of t) t.transcript
  next_done new t done =
      let next : suc place ≡ place + 1 = omega arith in
      subst (λ n. IsRunTo c commits script (drop n list) new (draft_of t) t.transcript) next
      (one_more c commits script book new s t (drop (suc place) list) [] command begun done)

  -- what a crash leaves up to its end
  module _ {D : Type 0} (moment : D → ℕ) (left_since : D → ℕ → List ℕ → Type 0) (content : D → Option (List ℕ)) (old mid new : D) where
    pub so_far : IfSome (content old) (λ _. LeavesOnly moment left_since old mid (IsKeptTo c commits script)) → (IsSome (content old) → IsSome (content mid))
        → IfSome (content mid) (λ _. LeavesOnly moment left_since mid new (IsAround book (event_by book s command)))
        → IfSome (content old) (λ _. LeavesOnly moment left_since old new (IsKeptTo c commits script))
    so_far before told during = by (content old) (content mid) before told during
      where
        by : (a b : Option (List ℕ)) → IfSome a (λ _. LeavesOnly moment left_since old mid (IsKeptTo c commits script)) → (IsSome a → IsSome b)
            → IfSome b (λ _. LeavesOnly moment left_since mid new (IsAround book (event_by book s command)))
            → IfSome a (λ _. LeavesOnly moment left_since old new (IsKeptTo c commits script))
        by None b x on y = tt
        by (Some a) None x on y = absurd (false≢true (on refl))
        by (Some a) (Some b) x on y =
            then moment left_since old mid new (IsKeptTo c commits script) x
            (weakened moment left_since mid new (IsAround book (event_by book s command)) (IsKeptTo c commits script) y
            (λ image around. meanwhile c commits script book s command (drop (suc place) list) image begun around))

-- before the first command
pub at_start : {D : Type 0} (content : D → Option (List ℕ)) (images : D → List ℕ → Type 0) (moment : D → ℕ) (left_since : D → ℕ → List ℕ → Type 0)
    (journal : Journal D) (script : List Command) (draft : Draft) (lines : List ℕ)
    → IsRunTo journal.book.opening (history_of journal.book).commits script script journal.book draft lines → IsStill content images journal
    → journal.broken ≡ false → ((image : List ℕ) → left_since journal.disk.now (moment journal.disk.now) image → images journal.disk.now image)
    → IfSome (content journal.disk.now) (λ _. LeavesOnly moment left_since journal.disk.now journal.disk.now
    (IsKeptTo journal.book.opening (history_of journal.book).commits script))
at_start content images moment left_since journal script draft lines run still whole only_now =
    let c = journal.book.opening in
    let commits = (history_of journal.book).commits in
    if_some _ _ (content journal.disk.now) (still.standing whole) (λ file told standing.
    started moment left_since journal.disk.now (IsKeptTo c commits script) (λ image left.
    yet c commits script journal.book script draft lines run image
    (subst (λ (l : List ℕ). IsJournalOf c l commits) (sym (standing.kept image (only_now image left))) (inr standing.list))))

-- all commands are done
pub ended : (c : Cell) (commits : List AcceptedCommit) (script list : List Command) (place : ℕ) (book : BookState) (s : Session) → length list ≤ place
    → IsRunTo c commits script (drop place list) book (draft_of s) s.transcript → IsRun c commits script book s.transcript
ended c commits script list place book s past run =
    all_done c commits script book (draft_of s) s.transcript
    (subst (λ (rest : List Command). IsRunTo c commits script rest book (draft_of s) s.transcript) (drop_all place list past) run)
