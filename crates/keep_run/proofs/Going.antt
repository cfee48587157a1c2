-- One command more of a script over a journal, and what a crash leaves meanwhile.
use mathlib.Core.List.{IsPrefix}
use Rattle.std.proofs.Common.{◌≡◌, inl, inr, ℕ, ◌+◌, ◌≤◌, List, [], ◌∷◌, ◌++◌, length, map, fold, refl, sym, ap, ◌∙◌, subst, length-append, append_assoc, arith}
use Rattle.std.proofs.lemmas.List.{append-nil, take-append-le}
use Rattle.s57_types.specs.declared.cell.Cell.{Cell}
use Rattle.cell_spec.specs.Edits.{apply_edits}
use Rattle.text_spec.specs.declared.command.Command.{Command}
use Rattle.text_spec.specs.declared.command.Command.TheVariants.{View, Commit, Drop, List as Findings, Push, Guard}
use Rattle.history_spec.specs.declared.reply.Reply.{Reply}
use Rattle.history_spec.specs.Entries.{brief_of, event_asked, replayed}
use Rattle.history_spec.specs.ReportText.{base_after, reply_line, transcript_from}
use Rattle.history_spec.specs.Served.{Draft, draft_after, local_lines, no_draft}
use Rattle.history_spec.specs.Sessions.{Request, event_of, history_after, offer, replies_from, request_step, requests_from, see}
use Rattle.history_spec.specs.Steps.{AcceptedCommit, Event, History, answer, cell_after, left_after, view}
use Rattle.room_laws.proofs.Steps.{IsNumbered, answer_numbered}
use Rattle.commit_book.specs.Books.{BookState, entry_of, history_of}
use Rattle.commit_book.proofs.Kept.{replayed_entered}
use Rattle.book_journal.specs.Journals.{IsJournalOf, state_after}
use Rattle.book_journal.specs.Keeping.{commit_limit}
use Rattle.book_journal.proofs.Committing.{cell_of_all}
use Rattle.keep_run.specs.Runs.{IsKeptTo, kept_at, kept_history, kept_lines, kept_replies, left_behind, replies_behind}
use Rattle.call_files.specs.Inputs.{IsScriptWithin}
use Rattle.keep_run.specs.Sessions.{IsAnswered, IsAround, IsDone, IsDoneAlone, IsEntered, IsFit, IsRun, IsRunTo, commits_left, draft_of, event_by}
use Rattle.keep_run.specs.declared.session.Session.{Session}
use Rattle.keep_run.proofs.Fits.{fit_edit, fit_guard, fit_none, fit_same, fit_script}
use Rattle.keep_run.proofs.Steps.{answers_alike, base_left, base_told, cells_alike, commits_alike, prefix_same, prefix_then, step_grows, steps_grow}

abbrev requested : List Request → List (ℕ × Request)
requested = map (λ (request : Request). (1, request))

abbrev replies_of : History → List Request → List Reply
replies_of h requests = map (λ (told : ℕ × Reply). told.1) (replies_from h (requested requests))

-- what a book has after an event
history_entered : (old new : BookState) (event : Event) (reply : Reply) (is : IsEntered old event new reply)
    → history_of new ≡ left_after 1 (event_asked is.asked) reply (history_of old)
history_entered old new event reply is =
    (λ i. replayed (is.entered.opening i) (is.entered.entries i))
    ∙ replayed_entered old.opening old.entries 1 is.asked reply is.entered.reply_is

module _ (c : Cell) (commits : List AcceptedCommit) (script : List Command) where
  abbrev last : History
  last = kept_history c commits script

  abbrev at : ℕ → Cell
  at = kept_at c commits script

  abbrev edited : List AcceptedCommit → Cell
  edited = fold (λ d (accepted : AcceptedCommit). apply_edits accepted.edits d) c

  module _ (book : BookState) (rest : List Command) (draft : Draft) (lines : List ℕ) (run : IsRunTo c commits script rest book draft lines) where
    -- what is accepted so far stands in front of what is accepted at the end
    pub so_far : IsPrefix (history_of book).commits last.commits
    so_far =
        prefix_then (history_of book).commits run.at.commits last.commits (prefix_same (history_of book).commits run.at.commits (sym run.commits_are))
        (subst (λ (h : History). IsPrefix run.at.commits h.commits) run.left_is
        (steps_grow run.at (requested (requests_from draft.edits draft.guards rest))))

    -- the newest cell
    newest : at (length run.at.commits) ≡ (history_of book).cell
    newest =
        let front = so_far in
        let now = (history_of book).commits in
        ap at (ap length run.commits_are)
        ∙ ap (λ (l : List AcceptedCommit). cell_after (length now) l c) (sym front.1)
        ∙ ap edited (take-append-le (length now) now front.0 (omega arith))
        ∙ ap (cell_after (length now) now) (sym run.opening)
        ∙ sym (cell_of_all book)

    pub yet : (file : List ℕ) → IsJournalOf book.opening file (history_of book).commits → IsKeptTo c commits script file
    yet file journal = record {
      kept = (history_of book).commits;
      behind = run.begun;
      among = so_far;
      journal = subst (λ (d : Cell). IsJournalOf d file (history_of book).commits) run.opening journal;
    }

  -- ---- a view or a commit
  module _ (book : BookState) (command : Command) (rest : List Command) (draft : Draft) (lines : List ℕ)
      (run : IsRunTo c commits script (command ∷ rest) book draft lines) (request : Request) where
    -- what the steps ask, and the state that they leave
    abbrev asked : Event
    asked = event_of run.at.cell.head.nall (run.at.bases 1) request

    abbrev next : History
    next = (request_step run.at (1, request)).1

    -- what the book is asked
    abbrev asked_now : Event
    asked_now = event_of (history_of book).cell.head.nall (length (history_of book).commits) request

    same_event : asked ≡ asked_now
    same_event = λ i. event_of (run.cell_is i).head.nall ((run.base_is ∙ ap length run.commits_are) i) request

    same_answer : answer run.at asked ≡ answer (history_of book) asked_now
    same_answer = ap (answer run.at) same_event ∙ answers_alike run.at (history_of book) asked_now run.cell_is run.commits_are

    commits_next : next.commits ≡ commits_left book asked_now
    commits_next =
        (λ i. (left_after 1 (same_event i) (same_answer i) run.at).commits)
        ∙ commits_alike run.at (history_of book) asked_now (answer (history_of book) asked_now) run.commits_are

    module _ (after : Draft) (asks : requests_from draft.edits draft.guards (command ∷ rest) ≡ request ∷ requests_from after.edits after.guards rest) where
      left_next : left_behind next after rest ≡ last
      left_next = ap (λ (requests : List Request). history_after run.at (requested requests)) (sym asks) ∙ run.left_is

      -- what a crash leaves around it
      pub around : (file : List ℕ) → IsAround book asked_now file → IsKeptTo c commits script file
      around file (inl journal) = yet book (command ∷ rest) draft lines run file journal
      around file (inr journal) = record {
        kept = commits_left book asked_now;
        behind = prefix_then commits (history_of book).commits (commits_left book asked_now) run.begun
            (step_grows (history_of book) asked_now (answer (history_of book) asked_now));
        among = prefix_then (commits_left book asked_now) next.commits last.commits
            (prefix_same (commits_left book asked_now) next.commits (sym commits_next))
            (subst (λ (h : History). IsPrefix next.commits h.commits) left_next (steps_grow next (requested (requests_from after.edits after.guards rest))));
        journal = subst (λ (d : Cell). IsJournalOf d file (commits_left book asked_now)) run.opening journal;
      }

      module _ (new : BookState) (reply : Reply) (entered : IsEntered book asked_now new reply) (fit : IsFit after rest)
          (tells : (base : ℕ) (one : Reply) (replies : List Reply) → transcript_from at base (length draft.edits) (command ∷ rest) (one ∷ replies)
          ≡ reply_line one ++ transcript_from at (base_after one base) (length after.edits) rest replies) where
        told : answer run.at asked ≡ reply
        told = same_answer ∙ ap (answer (history_of book)) (sym entered.event_is) ∙ sym entered.entered.reply_is

        event_is : asked ≡ event_asked entered.asked
        event_is = same_event ∙ sym entered.event_is

        next_is : next ≡ left_after 1 (event_asked entered.asked) reply run.at
        next_is = λ i. left_after 1 (event_is i) (told i) run.at

        numbered : IsNumbered run.at.commits reply
        numbered = subst (IsNumbered run.at.commits) told (answer_numbered run.at asked)

        grown : length new.entries ≡ length book.entries + 1
        grown = ap length entered.entered.entries ∙ length-append book.entries (entry_of 1 entered.asked (brief_of reply) ∷ [])

        new_is : history_of new ≡ left_after 1 (event_asked entered.asked) reply (history_of book)
        new_is = history_entered book new asked_now reply entered

        lines_next : kept_lines c commits script
            ≡ (lines ++ reply_line reply) ++ transcript_from at (length next.commits) (length after.edits) rest (replies_behind next after rest)
        lines_next =
            run.lines_are
            ∙ ap (λ (requests : List Request). lines ++ transcript_from at (length run.at.commits) (length draft.edits) (command ∷ rest)
            (replies_of run.at requests)) asks
            ∙ ap (λ (l : List ℕ). lines ++ l) (tells (length run.at.commits) (answer run.at asked) (replies_behind next after rest))
            ∙ ap (λ (base : ℕ). lines ++ (reply_line (answer run.at asked) ++ transcript_from at base (length after.edits) rest
            (replies_behind next after rest)))
            (base_told run.at asked (answer run.at asked) (answer_numbered run.at asked))
            ∙ ap (λ (one : Reply). lines ++ (reply_line one ++ transcript_from at (length next.commits) (length after.edits) rest
            (replies_behind next after rest)))
            told
            ∙ sym (append_assoc lines (reply_line reply) (transcript_from at (length next.commits) (length after.edits) rest (replies_behind next after rest)))

        pub answered : IsRunTo c commits script rest new after (lines ++ reply_line reply)
        answered = record {
          opening = entered.entered.opening ∙ run.opening;
          begun = subst (λ (h : History). IsPrefix commits h.commits) (sym new_is)
              (prefix_then commits (history_of book).commits (left_after 1 (event_asked entered.asked) reply (history_of book)).commits run.begun
              (step_grows (history_of book) (event_asked entered.asked) reply));
          room = let room = run.room in let more = grown in omega (arith, room, more);
          fit = fit;
          at = next;
          cell_is = ap (λ (h : History). h.cell) next_is
              ∙ cells_alike run.at (history_of book) (event_asked entered.asked) reply run.cell_is
              ∙ sym (ap (λ (h : History). h.cell) new_is);
          commits_are = ap (λ (h : History). h.commits) next_is
              ∙ commits_alike run.at (history_of book) (event_asked entered.asked) reply run.commits_are
              ∙ sym (ap (λ (h : History). h.commits) new_is);
          base_is = subst (λ (h : History). h.bases 1 ≡ length h.commits) (sym next_is)
              (base_left run.at (event_asked entered.asked) reply numbered run.base_is);
          left_is = left_next;
          lines_are = lines_next;
        }

  -- ---- another command
  module _ (book : BookState) (command : Command) (rest : List Command) (draft after : Draft) (lines : List ℕ)
      (run : IsRunTo c commits script (command ∷ rest) book draft lines)
      (asks : requests_from draft.edits draft.guards (command ∷ rest) ≡ requests_from after.edits after.guards rest) (fit : IsFit after rest)
      (tells : (base : ℕ) (replies : List Reply) → transcript_from at base (length draft.edits) (command ∷ rest) replies
      ≡ local_lines (at base) base draft command ++ transcript_from at base (length after.edits) rest replies) where
    abbrev alone_lines : List ℕ
    alone_lines = local_lines (history_of book).cell (length (history_of book).commits) draft command

    same_lines : local_lines (at (length run.at.commits)) (length run.at.commits) draft command ≡ alone_lines
    same_lines = λ i. local_lines (newest book (command ∷ rest) draft lines run i) (length (run.commits_are i)) draft command

    pub alone : IsRunTo c commits script rest book after (lines ++ local_lines (history_of book).cell (length (history_of book).commits) draft command)
    alone = record {
      opening = run.opening;
      begun = run.begun;
      room = let room = run.room in omega (arith, room);
      fit = fit;
      at = run.at;
      cell_is = run.cell_is;
      commits_are = run.commits_are;
      base_is = run.base_is;
      left_is = ap (λ (requests : List Request). history_after run.at (requested requests)) (sym asks) ∙ run.left_is;
      lines_are =
          run.lines_are
          ∙ ap (λ (requests : List Request). lines ++ transcript_from at (length run.at.commits) (length draft.edits) (command ∷ rest)
          (replies_of run.at requests)) asks
          ∙ ap (λ (l : List ℕ). lines ++ l) (tells (length run.at.commits) (replies_behind run.at after rest))
          ∙ ap (λ (l : List ℕ). lines ++ (l ++ transcript_from at (length run.at.commits) (length after.edits) rest (replies_behind run.at after rest)))
          same_lines
          ∙ sym (append_assoc lines alone_lines (transcript_from at (length run.at.commits) (length after.edits) rest (replies_behind run.at after rest)));
    }

  -- ---- each command
  module _ (book new : BookState) (s t : Session) (rest : List Command) (lines : List ℕ) where
    answered_so : (command : Command) (request : Request) (after : Draft) → IsRunTo c commits script (command ∷ rest) book (draft_of s) s.transcript
        → requests_from s.edits.items s.guards.items (command ∷ rest) ≡ request ∷ requests_from after.edits after.guards rest → IsFit after rest
        → ((base : ℕ) (one : Reply) (replies : List Reply) → transcript_from at base (length s.edits.items) (command ∷ rest) (one ∷ replies)
        ≡ reply_line one ++ transcript_from at (base_after one base) (length after.edits) rest replies)
        → IsAnswered book s (event_of (history_of book).cell.head.nall (length (history_of book).commits) request) after new t
        → IsRunTo c commits script rest new (draft_of t) t.transcript
    answered_so command request after run asks fit tells is =
        subst (λ (d : Draft). IsRunTo c commits script rest new d t.transcript) (sym is.draft_is)
        (subst (λ (l : List ℕ). IsRunTo c commits script rest new after l) (sym is.lines_are)
        (answered book command rest (draft_of s) s.transcript run request after asks new is.reply is.entered fit tells))

    alone_so : (command : Command) → IsRunTo c commits script (command ∷ rest) book (draft_of s) s.transcript
        → requests_from s.edits.items s.guards.items (command ∷ rest)
        ≡ requests_from (draft_after command (draft_of s)).edits (draft_after command (draft_of s)).guards rest
        → IsFit (draft_after command (draft_of s)) rest
        → ((base : ℕ) (replies : List Reply) → transcript_from at base (length s.edits.items) (command ∷ rest) replies
        ≡ local_lines (at base) base (draft_of s) command ++ transcript_from at base (length (draft_after command (draft_of s)).edits) rest replies)
        → IsDoneAlone book s command new t → IsRunTo c commits script rest new (draft_of t) t.transcript
    alone_so command run asks fit tells is =
        subst (λ (b : BookState). IsRunTo c commits script rest b (draft_of t) t.transcript) (sym is.same)
        (subst (λ (d : Draft). IsRunTo c commits script rest book d t.transcript) (sym is.draft_is)
        (subst (λ (l : List ℕ). IsRunTo c commits script rest book (draft_after command (draft_of s)) l) (sym is.lines_are)
        (alone book command rest (draft_of s) (draft_after command (draft_of s)) s.transcript run asks fit tells)))

    pub one_more : (command : Command) → IsRunTo c commits script (command ∷ rest) book (draft_of s) s.transcript → IsDone book s command new t
        → IsRunTo c commits script rest new (draft_of t) t.transcript
    one_more View run is =
        answered_so View see (draft_of s) run refl (fit_same (draft_of s) View rest run.fit) (λ base one replies. refl) is
    one_more Commit run is =
        answered_so Commit (offer s.edits.items s.guards.items) no_draft run refl (fit_none (draft_of s) Commit rest run.fit) (λ base one replies. refl) is
    one_more Drop run is = alone_so Drop run refl (fit_none (draft_of s) Drop rest run.fit) (λ base replies. refl) is
    one_more (Findings shown) run is =
        alone_so (Findings shown) run refl (fit_same (draft_of s) (Findings shown) rest run.fit) (λ base replies. refl) is
    one_more (Push edit) run is =
        let more = length-append s.edits.items (edit ∷ []) in
        alone_so (Push edit) run refl (fit_edit (draft_of s) edit rest run.fit)
        (λ base replies i. local_lines (at base) base (draft_of s) (Push edit) ++ transcript_from at base (sym more i) rest replies) is
    one_more (Guard name) run is =
        alone_so (Guard name) run refl (fit_guard (draft_of s) name (Guard name) rest run.fit) (λ base replies. refl) is

  -- a command that asks nothing leaves the commits
  unasked : (book : BookState) (s : Session) (command : Command) (rest : List Command) (file : List ℕ)
      → IsRunTo c commits script (command ∷ rest) book (draft_of s) s.transcript → IsAround book view file → IsKeptTo c commits script file
  unasked book s command rest file run (inl journal) = yet book (command ∷ rest) (draft_of s) s.transcript run file journal
  unasked book s command rest file run (inr journal) = yet book (command ∷ rest) (draft_of s) s.transcript run file journal

  -- what a crash leaves while a command is done
  pub meanwhile : (book : BookState) (s : Session) (command : Command) (rest : List Command) (file : List ℕ)
      → IsRunTo c commits script (command ∷ rest) book (draft_of s) s.transcript → IsAround book (event_by book s command) file
      → IsKeptTo c commits script file
  meanwhile book s View rest file run is = around book View rest (draft_of s) s.transcript run see (draft_of s) refl file is
  meanwhile book s Commit rest file run is =
      around book Commit rest (draft_of s) s.transcript run (offer s.edits.items s.guards.items) no_draft refl file is
  meanwhile book s Drop rest file run is = unasked book s Drop rest file run is
  meanwhile book s (Findings shown) rest file run is = unasked book s (Findings shown) rest file run is
  meanwhile book s (Push edit) rest file run is = unasked book s (Push edit) rest file run is
  meanwhile book s (Guard name) rest file run is = unasked book s (Guard name) rest file run is

  -- ---- the whole
  pub all_done : (book : BookState) (draft : Draft) (lines : List ℕ) → IsRunTo c commits script [] book draft lines → IsRun c commits script book lines
  all_done book draft lines run = record {
    opening = run.opening;
    cell_is = sym run.cell_is ∙ ap (λ (h : History). h.cell) run.left_is;
    commits_are = sym run.commits_are ∙ ap (λ (h : History). h.commits) run.left_is;
    lines_are = sym (run.lines_are ∙ append-nil lines);
  }

-- before the first command
pub not_yet : (book : BookState) (script : List Command) → length book.entries ≡ length (history_of book).commits
    → length (history_of book).commits ≤ commit_limit → IsScriptWithin script
    → IsRunTo book.opening (history_of book).commits script script book no_draft []
unfolding kept_history kept_replies
not_yet book script entries few within =
    let fit = fit_script script within in
    let short = fit.few in
    record {
      opening = refl;
      begun = prefix_same (history_of book).commits (history_of book).commits refl;
      room = omega (arith, entries, few, short);
      fit = fit;
      at = state_after book.opening (history_of book).commits;
      cell_is = sym (cell_of_all book);
      commits_are = refl;
      base_is = refl;
      left_is = refl;
      lines_are = refl;
    }
