-- An editor beside the log, while others are served and when it is served itself.
use mathlib.Core.List.{IsPrefix}
use Rattle.std.proofs.Common.{◌≡◌, ◌==◌, ℕ, ◌+◌, ◌<◌, ◌≤◌, Bool, true, false, List, [], ◌∷◌, ◌++◌, Option, Some, None, Result, Ok, Err, length}
use Rattle.std.proofs.Common.{count_by, cond, refl, sym, ap, ◌∙◌, subst, arith, append-nil}
use Rattle.std.specs.Prelude.{OnOk}
use Rattle.std.proofs.lemmas.List.Elements.{filter-append}
use Rattle.std.proofs.lemmas.List.Sums.{sum_by-cons}
use Rattle.s57_types.specs.declared.cell.Cell.{Cell}
use Rattle.text_spec.specs.declared.command.Command.{Command}
use Rattle.text_spec.specs.ScriptLines.{is_shared}
use Rattle.commit_book.specs.Books.{BookState, entry_of, history_of}
use Rattle.history_spec.specs.declared.entry.Entry.{Entry}
use Rattle.history_spec.specs.declared.reply.Reply.{Reply}
use Rattle.history_spec.specs.Entries.{AreAsked, base_told, brief_of, entries_of, replayed}
use Rattle.history_spec.specs.EntriesReport.{IsTranscript, cell_told}
use Rattle.history_spec.specs.ReportText.{base_after, reply_line, transcript_from}
use Rattle.history_spec.specs.Served.{Draft, IsServed, asked_by, draft_after}
use Rattle.history_spec.specs.Sessions.{requests_of}
use Rattle.room_laws.specs.Desks.{copy_after}
use Rattle.room_laws.proofs.Bases.{base_stays, cell_stays}
use Rattle.room_laws.proofs.Desks.{desk_moves}
use Rattle.room_laws.proofs.Interleaved.{same_number}
use Rattle.room_laws.proofs.Orders.{requests_count}
use Rattle.room_laws.proofs.Reports.{base_of_brief}
use Rattle.room_laws.proofs.Served.{asked_length, served_later, shared_served}
use Rattle.sessions.specs.Replays.{IsAskedOf, IsEditor, IsEndedAs, IsServedOnce, request_of}
use Rattle.sessions.specs.SessionStates.{IsNext, SessionState, StandsNext, StaysServed, shared_command}
use Rattle.sessions.specs.declared.editor.Editor.{Editor}
use Rattle.sessions.specs.declared.session.Shared.{Shared}
use Rattle.sessions.specs.declared.session.Shared.TheVariants as shared

-- the copy is the cell after the base however the history goes on
pub copy_stays : (c : Cell) (entries : List Entry) (base : ℕ) (copy : Cell) → base ≤ length (replayed c entries).commits → copy ≡ cell_told c entries base
    → (later : List Entry) → IsPrefix entries later → cell_told c later base ≡ copy
copy_stays c entries base copy within is later grown = cell_stays c entries later base grown within ∙ sym is

-- ---- the entries of a number, after one entry more

own_entry : (number : ℕ) (entries : List Entry) (e : Entry) → e.desk ≡ number → entries_of number (entries ++ e ∷ []) ≡ entries_of number entries ++ e ∷ []
own_entry number entries e own =
    filter-append (λ (x : Entry). x.desk == number) entries (e ∷ [])
    ∙ ap (λ (b : Bool). entries_of number entries ++ cond b (e ∷ []) []) (ap (λ n. n == number) own ∙ same_number number)

other_entry : (number : ℕ) (entries : List Entry) (e : Entry) → (e.desk == number) ≡ false → entries_of number (entries ++ e ∷ []) ≡ entries_of number entries
other_entry number entries e other =
    filter-append (λ (x : Entry). x.desk == number) entries (e ∷ [])
    ∙ ap (λ (b : Bool). entries_of number entries ++ cond b (e ∷ []) []) other
    ∙ append-nil (entries_of number entries)

-- an entry of another number changes nothing for an editor
pub other_served : (c : Cell) (entries : List Entry) (number : ℕ) (e : Editor) (one : Entry) → IsEditor c entries number e
    → (one.desk == number) ≡ false → IsEditor c (entries ++ one ∷ []) number e
other_served c entries number e one is other =
    let grown : IsPrefix entries (entries ++ one ∷ []) = (one ∷ [], refl) in
    record {
      served = subst (λ (own : List Entry). IsServed c (entries ++ one ∷ []) own e.base e.session.done e.session.draft e.session.lines)
          (sym (other_entry number entries one other))
          (served_later c entries (entries_of number entries) e.base e.session.done e.session.draft e.session.lines is.served (entries ++ one ∷ []) grown);
      within = base_stays c entries (entries ++ one ∷ []) e.base grown is.within;
      copy = is.copy ∙ sym (cell_stays c entries (entries ++ one ∷ []) e.base grown is.within);
    }

-- ---- an editor that is served

pub shared_is : (what : Shared) → is_shared (shared_command what) ≡ true
shared_is shared.View = refl
shared_is shared.Commit = refl

pub asks : (what : Shared) (draft : Draft) → asked_by (shared_command what) draft ≡ request_of what draft ∷ []
asks shared.View draft = refl
asks shared.Commit draft = refl

module _ (old new : BookState) (number base : ℕ) (copy : Cell) (s : SessionState) (what : Shared) (reply : Reply) (e : Editor)
    (asked : IsAskedOf old number base s.draft what new reply) where
  abbrev c : Cell
  c = old.opening

  abbrev one : Entry
  one = entry_of number asked.asked (brief_of reply)

  after_served : IsServed c old.entries (entries_of number old.entries) base s.done s.draft s.lines
      → IsServed c new.entries (entries_of number old.entries ++ one ∷ []) (base_told (brief_of reply) base) (s.done ++ shared_command what ∷ [])
      (draft_after (shared_command what) s.draft) (s.lines ++ reply_line reply)
  after_served served =
      shared_served c old.entries (entries_of number old.entries) base s.done s.draft s.lines served (shared_command what)
      (shared_is what) (request_of what s.draft) (asks what s.draft)
      new.entries one reply (one ∷ [], sym asked.entered.entries) asked.event refl

  pub served_once : IsServed c old.entries (entries_of number old.entries) base s.done s.draft s.lines
      → base ≤ length (replayed c old.entries).commits → copy ≡ cell_told c old.entries base
      → e.session.done ≡ s.done ++ shared_command what ∷ [] → e.session.draft ≡ draft_after (shared_command what) s.draft
      → e.session.lines ≡ s.lines ++ reply_line reply
      → e.base ≡ base_after reply base → e.bench ≡ copy_after reply (history_of new).cell copy → IsServedOnce old number new e
  served_once served within copy_is done draft lines base_is bench_is =
      let moved = desk_moves c old.entries new.entries number asked.asked base copy within copy_is reply asked.entered.reply_is asked.entered.entries in
      let own = sym (own_entry number old.entries one refl) ∙ ap (entries_of number) (sym asked.entered.entries) in
      let told = base_is ∙ base_of_brief reply base in
      let newest = ap (λ (d : Cell). copy_after reply (replayed d new.entries).cell copy) asked.entered.opening in
      record {
        opening = asked.entered.opening;
        entry = one;
        desk = refl;
        entries = asked.entered.entries;
        editor = record {
          served = subst (λ (own : List Entry). IsServed c new.entries own e.base e.session.done e.session.draft e.session.lines) own
              (subst (λ b. IsServed c new.entries (entries_of number old.entries ++ one ∷ []) b e.session.done e.session.draft e.session.lines) (sym told)
              (subst (λ d. IsServed c new.entries (entries_of number old.entries ++ one ∷ [])
              (base_told (brief_of reply) base) d e.session.draft e.session.lines) (sym done)
              (subst (λ d. IsServed c new.entries (entries_of number old.entries ++ one ∷ []) (base_told (brief_of reply) base)
              (s.done ++ shared_command what ∷ []) d e.session.lines) (sym draft)
              (subst (λ l. IsServed c new.entries (entries_of number old.entries ++ one ∷ []) (base_told (brief_of reply) base)
              (s.done ++ shared_command what ∷ []) (draft_after (shared_command what) s.draft) l) (sym lines)
              (after_served served)))));
          within = subst (λ b. b ≤ length (replayed c new.entries).commits) (sym base_is) moved.within;
          copy = bench_is ∙ newest ∙ moved.copy_is ∙ ap (cell_told c new.entries) (sym base_is);
        };
      }

-- ---- how many of its views and commits are answered

-- as many entries as views and commits that are done
pub served_count : (c : Cell) (seen entries : List Entry) (base : ℕ) (s : SessionState) → IsServed c seen entries base s.done s.draft s.lines
    → length entries ≡ count_by is_shared s.done
served_count c seen entries base s served = asked_length c.head.nall 0 (requests_of s.done) entries served.asked_are ∙ requests_count [] [] s.done

pub count_append : (cs ds : List Command) → count_by is_shared (cs ++ ds) ≡ count_by is_shared cs + count_by is_shared ds
count_append [] ds = omega arith
count_append (x ∷ cs) ds =
    let here = sum_by-cons (λ d. cond (is_shared d) 1 0) x (cs ++ ds) in
    let first = sum_by-cons (λ d. cond (is_shared d) 1 0) x cs in
    let rest = count_append cs ds in omega (arith, here, first, rest)

-- where one stands next, not all are done
one_is_left : (s : SessionState) (what : Shared) → StandsNext s (shared_command what) → count_by is_shared s.done < count_by is_shared s.script
one_is_left s what next =
    let all = ap (count_by is_shared) next.script_is ∙ count_append s.done (shared_command what ∷ next.rest) in
    let one = sum_by-cons (λ d. cond (is_shared d) 1 0) (shared_command what) next.rest
    ∙ ap (λ (b : Bool). cond b 1 0 + count_by is_shared next.rest) (shared_is what) in
    omega (arith, all, one)

-- where all are done, none stands next
pub at_end : (s : SessionState) (what : Option Shared) → IsNext s what → count_by is_shared s.done ≡ count_by is_shared s.script → s.done ≡ s.script
at_end s None next all = next
at_end s (Some what) next all = let less = one_is_left s what next in absurd (omega (arith, less, all))

-- and where some are left, it isn't at its end
pub not_at_end : (s : SessionState) → IsNext s None → count_by is_shared s.done < count_by is_shared s.script → ⊥
not_at_end s next less = let same = ap (count_by is_shared) next in omega (arith, same, less)

-- what was done of an editor's session since stays served
pub advanced : (c : Cell) (entries : List Entry) (number : ℕ) (e : Editor) (s : SessionState) → IsEditor c entries number e
    → StaysServed e.base e.bench e.session s
    → IsServed c entries (entries_of number entries) e.base s.done s.draft s.lines
advanced c entries number e s is stays = stays c entries (entries_of number entries) is.served (copy_stays c entries e.base e.bench is.within is.copy)

pub has_next : (c : Cell) (entries : List Entry) (number : ℕ) (e : Editor) (s : SessionState) → IsEditor c entries number e
    → StaysServed e.base e.bench e.session s → s.script ≡ e.session.script
    → length (entries_of number entries) < count_by is_shared e.session.script → IsNext s None → ⊥
has_next c entries number e s is stays same left next =
    let count = served_count c entries (entries_of number entries) e.base s (advanced c entries number e s is stays) in
    let all = ap (count_by is_shared) same in
    not_at_end s next (omega (arith, count, all, left))

-- the lines of an editor whose session is at its end
pub transcribed : (c : Cell) (entries : List Entry) (number : ℕ) (script : List Command) (base : ℕ) (s : SessionState)
    → IsServed c entries (entries_of number entries) base s.done s.draft s.lines → s.done ≡ script → (lines : List ℕ) → lines ≡ s.lines
    → IsTranscript c entries number script lines
transcribed c entries number script base s served done lines is = record {
  replies = served.replies;
  briefs = served.briefs;
  lines_are = is ∙ subst (λ d. s.lines ≡ transcript_from (cell_told c entries) 0 0 d served.replies) done (served.lines_are entries ([], append-nil entries));
}

-- all of them are done where its entries are all
pub ended : (c : Cell) (entries : List Entry) (number : ℕ) (e : Editor) (s : SessionState) (what : Option Shared) (lines : List ℕ)
    → IsEditor c entries number e → StaysServed e.base e.bench e.session s → s.script ≡ e.session.script
    → length (entries_of number entries) ≡ count_by is_shared e.session.script → IsNext s what → lines ≡ s.lines
    → IsEndedAs c entries number e.session.script lines
ended c entries number e s what lines is stays same all next lines_are =
    let served = advanced c entries number e s is stays in
    let count = sym (served_count c entries (entries_of number entries) e.base s served) ∙ all ∙ ap (count_by is_shared) (sym same) in
    let done = at_end s what next count ∙ same in
    record {
      asked = subst (λ script. AreAsked c.head.nall 0 (requests_of script) (entries_of number entries)) done served.asked_are;
      transcript = transcribed c entries number e.session.script e.base s served done lines lines_are;
    }

-- two things that hold where a call gives no error
pub both_ok : {X E : Type 0} {P Q R : Type 0} (r : Result X E) → OnOk r P → OnOk r Q → (P → Q → R) → OnOk r R
both_ok (Ok x) p q make = make p q
both_ok (Err e) p q make = tt
