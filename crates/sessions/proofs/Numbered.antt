-- Editors that are numbered from 1 on: one more, and one of them served.
use Rattle.std.proofs.Common.{◌≡◌, ◌≢◌, ◌⊎◌, ◌==◌, ℕ, suc, ◌+◌, ◌-◌, ◌<◌, ◌≤◌, true, false, List, [], ◌∷◌, ◌++◌, length, take, set, get_or, count_by}
use Rattle.std.proofs.Common.{All, sym, ap, ◌∙◌, subst, arith, ⊎_elim}
use Rattle.std.specs.Prelude.{slice_index_or}
use Rattle.std.proofs.lemmas.Bool.{cases_lt, cases_Bool, eqb-true}
use Rattle.std.proofs.lemmas.Bool.Decides.{nat_tests}
use Rattle.std.proofs.lemmas.List.{get_or_append_left, get_or_push, get_or-set_same, get_or-set_other, get_or-map, length-append, length-map, length-set}
use Rattle.std.proofs.lemmas.List.{map-append, map-set, set-get_or, take_more}
use Rattle.s57_types.specs.declared.cell.Cell.{Cell}
use Rattle.text_spec.specs.declared.command.Command.{Command}
use Rattle.text_spec.specs.OrderLine.{IsOrder}
use Rattle.text_spec.specs.ScriptLines.{is_shared}
use Rattle.commit_book.specs.Books.{BookState, entry_limit}
use Rattle.history_spec.specs.declared.entry.Entry.{Entry}
use Rattle.history_spec.specs.Entries.{AreAsked, AreTold, entries_of, order_of_entries}
use Rattle.history_spec.specs.Sessions.{requests_of, script_of}
use Rattle.room_laws.specs.Orders.{quotas_of}
use Rattle.sessions.specs.Replays.{AreEditors, AreEnded, AreEndedAs, AreServed, IsEditor, IsEndedAs, IsReplayed, IsServedOnce, IsShortScript, scripts_of}
use Rattle.sessions.specs.Replays.{session_limit}
use Rattle.sessions.specs.declared.run.Replayed.{Replayed}
use Rattle.sessions.specs.declared.editor.Editor.{Editor}
use Rattle.sessions.proofs.Editors.{other_served}
use Rattle.sessions.proofs.Ends.{ended_more}
use Rattle.sessions.proofs.Orders.{desks_within, none_left, one_left, room_left}

-- ---- one more
pub editors_more : (c : Cell) (entries : List Entry) (editors : List Editor) (e : Editor) → AreEditors c entries editors
    → IsEditor c entries (suc (length editors)) e → AreEditors c entries (editors ++ e ∷ [])
editors_more c entries editors e all one = λ i d within.
    let many = length-append editors (e ∷ []) in
    ⊎_elim (λ (low : i < length editors). subst (IsEditor c entries (suc i)) (sym (get_or_append_left editors (e ∷ []) d i low)) (all i d low))
    (λ (high : length editors ≤ i).
    let last : length editors ≡ i = omega (arith, within, many, high) in
    subst (IsEditor c entries (suc i)) (sym (get_or_push editors e d i last)) (subst (λ k. IsEditor c entries (suc k) e) last one))
    (cases_lt i (length editors))

pub scripts_more : (editors : List Editor) (scripts : List (List Command)) (e : Editor) (script : List Command) → scripts_of editors ≡ scripts
    → e.session.script ≡ script → scripts_of (editors ++ e ∷ []) ≡ scripts ++ script ∷ []
scripts_more editors scripts e script are is = map-append (λ (x : Editor). x.session.script) editors (e ∷ []) ∙ (λ i. are i ++ is i ∷ [])

-- ---- one is served
apart : (a b : ℕ) → a ≢ b → (suc a == suc b) ≡ false
apart a b other = ⊎_elim (λ (t : (suc a == suc b) ≡ true). absurd (other (let e = eqb-true (suc a) (suc b) t in omega (arith, e))))
    (λ (t : (suc a == suc b) ≡ false). t) (cases_Bool (suc a == suc b))

other_than : (n i : ℕ) → 1 ≤ n → i ≢ n - 1 → (n == suc i) ≡ false
other_than n i low other = ⊎_elim (λ (t : (n == suc i) ≡ true). absurd (other (let e = eqb-true n (suc i) t in omega (arith, e, low))))
    (λ (t : (n == suc i) ≡ false). t) (cases_Bool (n == suc i))

script_at : (editors : List Editor) (scripts : List (List Command)) (k : ℕ) (d : Editor) → scripts_of editors ≡ scripts → k < length editors
    → slice_index_or scripts k [] ≡ (slice_index_or editors k d).session.script
script_at editors scripts k d are within = ap (λ (l : List (List Command)). get_or l k []) (sym are)
    ∙ get_or-map (λ (x : Editor). x.session.script) editors k d [] within

module _ (c : Cell) (scripts : List (List Command)) (order : List ℕ) (j n : ℕ) (book : BookState) (editors : List Editor)
    (served : AreServed c scripts (take j order) book editors) where
  many : length editors ≡ length scripts
  many = sym (length-map editors (λ (x : Editor). x.session.script)) ∙ ap length served.scripts_are

  -- the one whose number stands next
  pub next_editor : (d : Editor) → 1 ≤ n → n ≤ length scripts → IsEditor book.opening book.entries n (slice_index_or editors (n - 1) d)
  next_editor d low high =
      let place : suc (n - 1) ≡ n = omega (arith, low) in
      subst (λ o. IsEditor o book.entries n (slice_index_or editors (n - 1) d)) (sym served.opening)
      (subst (λ k. IsEditor c book.entries k (slice_index_or editors (n - 1) d)) place (served.each (n - 1) d (let m = many in omega (arith, low, high, m))))

  pub next_left : (d : Editor) (e : ℕ) → IsOrder (quotas_of scripts) order → j < length order → slice_index_or order j e ≡ n → 1 ≤ n → n ≤ length scripts
      → length (entries_of n book.entries) < count_by is_shared (slice_index_or editors (n - 1) d).session.script
  next_left d e o within is low high =
      subst (λ script. length (entries_of n book.entries) < count_by is_shared script)
      (script_at editors scripts (n - 1) d served.scripts_are (let m = many in omega (arith, low, high, m)))
      (one_left scripts order o j book.entries served.order_is e n within is low high)

  pub next_room : IsOrder (quotas_of scripts) order → length scripts ≤ session_limit → All IsShortScript scripts → length book.entries < entry_limit
  next_room o few short = room_left scripts order o j book.entries served.order_is few short

  pub next_served : (d : Editor) (e : ℕ) (after : BookState) (one : Editor) → j < length order → slice_index_or order j e ≡ n
      → 1 ≤ n → n ≤ length scripts → one.session.script ≡ (slice_index_or editors (n - 1) d).session.script
      → IsServedOnce book n after one → AreServed c scripts (take (j + 1) order) after (set editors (n - 1) one)
  next_served d e after one within is low high same once =
      let inside : n - 1 < length editors = (let m = many in omega (arith, low, high, m)) in
      let place : suc (n - 1) ≡ n = omega (arith, low) in
      record {
        opening = once.opening ∙ served.opening;
        order_is = ap order_of_entries once.entries ∙ map-append (λ (x : Entry). x.desk) book.entries (once.entry ∷ [])
            ∙ (λ i. served.order_is i ++ (once.desk ∙ sym is) i ∷ []) ∙ sym (take_more order j e within);
        scripts_are = map-set (λ (x : Editor). x.session.script) editors (n - 1) one
            ∙ (λ i. set (served.scripts_are i) (n - 1) ((same ∙ sym (script_at editors scripts (n - 1) d served.scripts_are inside)) i))
            ∙ set-get_or scripts (n - 1) [];
        each = λ i f low_i.
            let there : i < length editors = subst (λ k. i < k) (length-set editors (n - 1) one) low_i in
            ⊎_elim
            (λ (t : (n == suc i) ≡ true).
            let number : n ≡ suc i = eqb-true n (suc i) t in
            let index : n - 1 ≡ i = omega (arith, number) in
            subst (IsEditor c after.entries (suc i)) (sym (ap (λ k. get_or (set editors (n - 1) one) k f) (sym index)
            ∙ get_or-set_same editors (n - 1) one f inside))
            (subst (λ k. IsEditor c after.entries k one) number (subst (λ o. IsEditor o after.entries n one) served.opening once.editor)))
            (λ (t : (n == suc i) ≡ false).
            subst (IsEditor c after.entries (suc i)) (sym (get_or-set_other editors (n - 1) i one f (λ here. different i t here)))
            (subst (λ (l : List Entry). IsEditor c l (suc i) (get_or editors i f)) (sym once.entries)
            (other_served c book.entries (suc i) (get_or editors i f) once.entry (served.each i f there) (ap (λ k. k == suc i) once.desk ∙ t))))
            (cases_Bool (n == suc i));
      }
    where
      different : (i : ℕ) → (n == suc i) ≡ false → i ≡ n - 1 → ⊥
      different i t here = (let place : n ≡ suc i = omega (arith, low, here) in grind (arith, nat_tests))

-- ---- at the end
pub all_ended : (c : Cell) (scripts : List (List Command)) (order : List ℕ) (book : BookState) (editors : List Editor)
    → AreServed c scripts order book editors → IsOrder (quotas_of scripts) order → AreEnded c book.entries editors
all_ended c scripts order book editors served o = record {
  each = served.each;
  all = λ i d within.
      none_left scripts order book.entries o served.order_is (suc i) (omega arith) (let m =
      sym (length-map editors (λ (x : Editor). x.session.script)) ∙ ap length served.scripts_are in omega (arith, within, m))
      ∙ (let place : suc i - 1 ≡ i = omega arith in ap (λ k. count_by is_shared (slice_index_or scripts k [])) place)
      ∙ ap (count_by is_shared) (script_at editors scripts i d served.scripts_are within);
}

desks_in_range : (scripts : List (List Command)) (order : List ℕ) (entries : List Entry) → IsOrder (quotas_of scripts) order
    → order_of_entries entries ≡ order → All (λ (e : Entry). (1 ≤ e.desk) × (e.desk ≤ length scripts)) entries
desks_in_range scripts order entries o is =
    desks_within (length scripts) entries (subst (All (λ i. (1 ≤ i) × (i ≤ length scripts))) (sym is)
    (subst (λ n. All (λ i. (1 ≤ i) × (i ≤ n)) order) (length-map scripts (count_by is_shared)) o.sessions))

-- the whole run
pub replayed_all : (c : Cell) (run : Replayed) (scripts : List (List Command)) (order : List ℕ) (before editors : List Editor)
    → scripts_of before ≡ scripts → AreServed c (scripts_of before) order run.book editors
    → IsOrder (quotas_of scripts) order → AreTold run.book.opening run.book.entries
    → ((d : Cell) (entries : List Entry) → AreEnded d entries editors → AreEndedAs d entries (scripts_of editors) run.transcripts.items)
    → IsReplayed c scripts order run
replayed_all c run scripts order before editors are served o told lines =
    let entries = run.book.entries in
    let same = served.scripts_are ∙ are in
    let whole : AreServed c scripts order run.book editors =
    record { opening = served.opening; order_is = served.order_is; scripts_are = same; each = served.each } in
    let all = subst (λ s. AreEndedAs c entries s run.transcripts.items) same (lines c entries (all_ended c scripts order run.book editors whole o)) in
    record {
      opening = served.opening;
      entries = record {
        told = subst (λ opening. AreTold opening entries) served.opening told;
        numbers = desks_in_range scripts order entries o served.order_is;
        each = λ i low high.
            let place : suc (i - 1) ≡ i = omega (arith, low) in
            subst (λ n. AreAsked c.head.nall 0 (requests_of (script_of scripts i)) (entries_of n entries)) place (all.asked (i - 1) (omega (arith, low, high)));
      };
      order_is = served.order_is;
      lines = all.transcripts;
    }

-- one session more is at its end
pub lines_more : (c : Cell) (entries : List Entry) (editors yielded : List Editor) (e : Editor) (texts : List (List ℕ)) (text : List ℕ)
    → length yielded < length editors → e ≡ get_or editors (length yielded) e → AreEnded c entries editors
    → AreEndedAs c entries (scripts_of yielded) texts
    → ((number : ℕ) → IsEditor c entries number e → length (entries_of number entries) ≡ count_by is_shared e.session.script
    → IsEndedAs c entries number e.session.script text)
    → AreEndedAs c entries (scripts_of (yielded ++ e ∷ [])) (texts ++ text ∷ [])
lines_more c entries editors yielded e texts text within is ended all one =
    let k = length yielded in
    let here : get_or editors k e ≡ e = sym is in
    let number : suc k ≡ suc (length (scripts_of yielded)) = ap suc (sym (length-map yielded (λ (x : Editor). x.session.script))) in
    let last = one (suc k) (subst (IsEditor c entries (suc k)) here (ended.each k e within))
    (ended.all k e within ∙ ap (λ (x : Editor). count_by is_shared x.session.script) here) in
    subst (λ s. AreEndedAs c entries s (texts ++ text ∷ [])) (sym (map-append (λ (x : Editor). x.session.script) yielded (e ∷ [])))
    (ended_more c entries (scripts_of yielded) texts e.session.script text all (subst (λ n. IsEndedAs c entries n e.session.script text) number last))
