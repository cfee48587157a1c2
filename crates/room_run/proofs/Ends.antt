-- What is left of sessions in threads is one history, with the lines of each session.
use mathlib.Core.List.{IsPrefix}
use Rattle.std.proofs.Common.{◌≡◌, ℕ, suc, ◌+◌, ◌-◌, ◌<◌, ◌≤◌, List, [], ◌∷◌, All, length, map, get_or, count_by, sym, ap, ◌∙◌, subst, arith}
use Rattle.std.specs.Prelude.{slice_index_or}
use Rattle.std.proofs.lemmas.List.{get_or-map, length-append, length-map}
use Rattle.std.proofs.lemmas.List.Elements.{All-cons, All-head, All-nil, All-tail}
use Rattle.s57_types.specs.declared.cell.Cell.{Cell}
use Rattle.text_spec.specs.declared.command.Command.{Command}
use Rattle.text_spec.specs.ScriptLines.{command_limit, is_shared}
use Rattle.history_spec.specs.declared.entry.Entry.{Entry}
use Rattle.history_spec.specs.Entries.{AreAsked, entries_of}
use Rattle.history_spec.specs.EntriesReport.{AreTranscripts, IsTranscript, cell_told}
use Rattle.history_spec.specs.ReportText.{transcript_from}
use Rattle.history_spec.specs.Served.{IsServed}
use Rattle.history_spec.specs.Sessions.{requests_of, script_of}
use Rattle.room_laws.proofs.Orders.{few_entries}
use Rattle.turn_gate.specs.Histories.{IsExact}
use Rattle.commit_book.specs.Books.{BookState, entry_limit}
use Rattle.sessions.specs.Replays.{IsShortScript, session_limit}
use Rattle.sessions.proofs.Orders.{count_within, script_short}
use Rattle.workroom.specs.Desks.{DeskState, RoomId}
use Rattle.workroom.specs.Rooms.{RoomState}
use Rattle.workroom.specs.Turns.{desk_of}
use Rattle.room_run.specs.Compilers.{IsAtDesk, IsEnd, IsOver, own_list}
use Rattle.room_run.specs.Rooms.{AreOpened, DoneWith, IsGathered, IsHeld, IsHeldIn, IsNotFull, IsOneOf, IsRun, IsRunEnd, outcome_of}
use Rattle.room_run.specs.declared.compiler.Compiler.{Compiler}
use Rattle.room_run.specs.declared.compiler.Ended.TheVariants as ended
use Rattle.room_run.specs.declared.gather.Outcome.{Outcome}
use Rattle.sessions.specs.declared.run.Replayed.{Replayed}
use Rattle.room_run.specs.declared.run.RunEnd.{RunEnd}
use Rattle.room_run.specs.declared.run.RunEnd.TheVariants as end

pub first_of : {X : Type 0} (xs : List X) → 1 ≤ length xs → X
first_of [] some = absurd (omega (arith, some))
first_of (x ∷ xs) some = x

-- a desk's own calls are the entries of its number
own_entries : (entries es : List Entry) (d : DeskState) → IsHeldIn entries d → d.own ≡ own_list d.number es ∷ [] → es ≡ entries_of d.number entries
own_entries entries es d held own = All-head (IsExact desk_of entries) (own_list d.number es) [] (subst (All (IsExact desk_of entries)) own held.exact)

-- a session that has ended, beside the log
pub record IsLeft (sticks : Type 0) (c : Cell) (entries : List Entry) (number : ℕ) (script : List Command) (k : Compiler) : Type 0 where
  pub opening : k.desk.room.opening ≡ c
  pub number_is : k.desk.number ≡ number
  pub over : IsOver sticks script k.desk k.session k.ended
  pub held : IsHeldIn entries k.desk

-- a session that is done
record IsDone (c : Cell) (entries : List Entry) (number : ℕ) (script : List Command) (k : Compiler) : Type 0 where
  asked : AreAsked c.head.nall 0 (requests_of script) (entries_of number entries)
  transcript : IsTranscript c entries number script k.session.lines

is_done : (sticks : Type 0) (c : Cell) (entries : List Entry) (number : ℕ) (script : List Command) (k : Compiler)
    → IsLeft sticks c entries number script k → k.ended ≡ ended.Done → IsDone c entries number script k
is_done sticks c entries number script k left done =
    let end : IsAtDesk k.desk k.session × (k.session.done ≡ script) = subst (IsEnd sticks script k.desk k.session) done left.over.end in
    let a = end.0 in
    let served = subst (λ o. IsServed o k.desk.seen a.entries k.desk.base k.session.done k.session.draft k.session.lines) left.opening a.served in
    let own : a.entries ≡ entries_of number entries = own_entries entries a.entries k.desk left.held a.own ∙ ap (λ n. entries_of n entries) left.number_is in
    record {
      asked = subst (λ es. AreAsked c.head.nall 0 (requests_of script) es) own
          (subst (λ cs. AreAsked c.head.nall 0 (requests_of cs) a.entries) end.1 served.asked_are);
      transcript = record {
        replies = served.replies;
        briefs = served.briefs ∙ ap (map (λ (e : Entry). e.brief)) own;
        lines_are = served.lines_are entries left.held.begins ∙ ap (λ cs. transcript_from (cell_told c entries) 0 0 cs served.replies) end.1;
      };
    }

few_own : (sticks : Type 0) (c : Cell) (entries : List Entry) (number : ℕ) (script : List Command) (k : Compiler)
    → IsLeft sticks c entries number script k → length script ≤ command_limit → length (entries_of number entries) ≤ command_limit
few_own sticks c entries number script k left short =
    let few = left.over.few in
    let own = ap length (own_entries entries few.entries k.desk left.held few.own ∙ ap (λ n. entries_of n entries) left.number_is) in
    let less = few.few in
    let count = count_within script in omega (arith, own, less, count, short)

prefix_length : {X : Type 0} (xs ys : List X) → IsPrefix xs ys → length xs ≤ length ys
prefix_length xs ys p = let all = ap length (sym p.1) ∙ length-append xs p.0 in omega (arith, all)

all_mapped : {X Y : Type 0} (P : Y → Type 0) (f : X → Y) (xs : List X) → All (λ x. P (f x)) xs → All P (map f xs)
all_mapped P f [] all = All-nil P
all_mapped P f (x ∷ xs) all = All-cons P (f x) (map f xs) (All-head (λ y. P (f y)) x xs all) (all_mapped P f xs (All-tail (λ y. P (f y)) x xs all))

transcripts_by : (c : Cell) (entries : List Entry) (n : ℕ) (scripts : List (List Command)) (texts : List (List ℕ)) → length texts ≡ length scripts
    → ((i : ℕ) → i < length scripts → IsTranscript c entries (n + i) (slice_index_or scripts i []) (slice_index_or texts i []))
    → AreTranscripts c entries n scripts texts
transcripts_by c entries n [] [] many each = tt
transcripts_by c entries n [] (t ∷ texts) many each = absurd (omega (arith, many))
transcripts_by c entries n (s ∷ scripts) [] many each = absurd (omega (arith, many))
transcripts_by c entries n (s ∷ scripts) (t ∷ texts) many each = (
  subst (λ k. IsTranscript c entries k s t) (let same : n + 0 ≡ n = omega arith in same) (each 0 (omega arith)),
  transcripts_by c entries (n + 1) scripts texts (omega (arith, many))
      (λ i within. subst (λ k. IsTranscript c entries k (slice_index_or scripts i []) (slice_index_or texts i []))
      (let same : n + suc i ≡ n + 1 + i = omega arith in same) (each (suc i) (omega (arith, within)))),
)

module _ (sticks : Type 0) (room : RoomState) (first : RoomId) (scripts : List (List Command)) (ks new : List Compiler) (book : BookState)
    (outcomes : List Outcome)
    (opened : AreOpened first scripts ks) (many : length new ≡ length ks) (run : (i : ℕ) (d : Compiler) → i < length ks
    → IsRun sticks (slice_index_or ks i d) (slice_index_or new i d))
    (gathered : IsGathered room new book outcomes) (desks : room.desks ≡ length scripts) (short : All IsShortScript scripts)
    (few : length scripts ≤ session_limit) where
  abbrev c : Cell
  c = first.opening

  as_many : length ks ≡ length scripts
  as_many = sym (length-map ks (λ (k : Compiler). k.session.script)) ∙ ap length opened.scripts_are

  script_is : (i : ℕ) (d : Compiler) → i < length ks → (slice_index_or ks i d).session.script ≡ slice_index_or scripts i []
  script_is i d within = sym (get_or-map (λ (k : Compiler). k.session.script) ks i d [] within)
      ∙ ap (λ (l : List (List Command)). get_or l i []) opened.scripts_are

  left_at : (i : ℕ) (d : Compiler) → i < length new → IsLeft sticks c book.entries (suc i) (slice_index_or scripts i []) (slice_index_or new i d)
  left_at i d within =
      let there : i < length ks = omega (arith, within, many) in
      let o = opened.each i d there in
      let r = run i d there in
      record {
        opening = ap (λ (id : RoomId). id.opening) (r.same.room ∙ o.fresh.room_is);
        number_is = r.same.number ∙ o.number_is;
        over = subst (λ script. IsOver sticks script (slice_index_or new i d).desk (slice_index_or new i d).session
            (slice_index_or new i d).ended) (script_is i d there) r.over;
        held = gathered.held i d within;
      }

  numbers : All (λ (e : Entry). (1 ≤ e.desk) × (e.desk ≤ length scripts)) book.entries
  numbers = subst (λ n. All (λ (e : Entry). (1 ≤ e.desk) × (e.desk ≤ n)) book.entries) desks gathered.numbers

  -- so many sessions can't fill the log
  room_left : (d : Compiler) → length book.entries < entry_limit
  room_left d =
      let all = few_entries command_limit (length scripts) book.entries numbers
      (λ i low high.
      let place : suc (i - 1) ≡ i = omega (arith, low) in
      let m = many in
      let n = as_many in
      let one = few_own sticks c book.entries (suc (i - 1)) (slice_index_or scripts (i - 1) []) (slice_index_or new (i - 1) d)
      (left_at (i - 1) d (omega (arith, low, high, m, n))) (script_short scripts (i - 1) short) in
      subst (λ n. length (entries_of n book.entries) ≤ command_limit) place one) in
      omega (arith, all, few)

  not_full : All (λ (k : Compiler). IsNotFull (outcome_of k)) new
  not_full = λ i d within full.
      let left = left_at i d within in
      let seen : length (slice_index_or new i d).desk.seen ≡ entry_limit =
      subst (IsEnd sticks (slice_index_or scripts i []) (slice_index_or new i d).desk (slice_index_or new i d).session) full left.over.end in
      let all = prefix_length (slice_index_or new i d).desk.seen book.entries left.held.begins in
      let less = room_left d in omega (arith, seen, all, less)

  pub none_full : All IsNotFull outcomes
  none_full = subst (All IsNotFull) (sym gathered.outcomes_are) (all_mapped IsNotFull outcome_of new not_full)

  outcome_at : (i : ℕ) (d : Compiler) (e : Outcome) → i < length new → slice_index_or outcomes i e ≡ outcome_of (slice_index_or new i d)
  outcome_at i d e within = ap (λ (l : List Outcome). get_or l i e) gathered.outcomes_are ∙ get_or-map outcome_of new i d e within

  pub run_end : (d : Compiler) (why : RunEnd) → IsOneOf outcomes why → IsRunEnd sticks scripts why
  run_end d end.NoMemory one = tt
  run_end d (end.Stuck stuck) one =
      let i = one.0 in
      let within : i < length new = (let a = one.1 in let b = ap length gathered.outcomes_are ∙ length-map new outcome_of in omega (arith, a, b)) in
      let left = left_at i d within in
      let here : (slice_index_or new i d).ended ≡ ended.Stuck stuck = ap (λ (o : Outcome). o.ended) (sym (outcome_at i d (outcome_of d) within))
      ∙ one.2 (outcome_of d) in
      let how = subst (IsEnd sticks (slice_index_or scripts i []) (slice_index_or new i d).desk (slice_index_or new i d).session) here left.over.end in
      let desk : stuck.desk ≡ suc i = how.1 ∙ left.number_is in
      let m = many in
      let n = as_many in
      let place : i ≡ stuck.desk - 1 = omega (arith, desk) in (
        how.0,
        omega (arith, desk),
        omega (arith, desk, within, m, n),
        how.2,
        subst (λ k. stuck.serial ≤ count_by is_shared (slice_index_or scripts k [])) place how.3,
      )

  module _ (texts : List (List ℕ)) (done : DoneWith outcomes texts) where
    done_at : (i : ℕ) (d : Compiler) → i < length new → IsDone c book.entries (suc i) (slice_index_or scripts i []) (slice_index_or new i d)
    done_at i d within =
        let count = ap length gathered.outcomes_are ∙ length-map new outcome_of in
        let ended = ap (λ (o : Outcome). o.ended) (sym (outcome_at i d (outcome_of d) within)) ∙ done.done i (outcome_of d) (omega (arith, within, count)) in
        is_done sticks c book.entries (suc i) (slice_index_or scripts i []) (slice_index_or new i d) (left_at i d within) ended

    text_at : (i : ℕ) (d : Compiler) → i < length new → slice_index_or texts i [] ≡ (slice_index_or new i d).session.lines
    text_at i d within =
        let count = ap length gathered.outcomes_are ∙ length-map new outcome_of in
        ap (λ (l : List (List ℕ)). get_or l i []) done.texts_are
        ∙ get_or-map (λ (o : Outcome). o.session.lines) outcomes i (outcome_of d) [] (omega (arith, within, count))
        ∙ ap (λ (o : Outcome). o.session.lines) (outcome_at i d (outcome_of d) within)

    pub all_held : (d : Compiler) (held : Replayed) → held.book ≡ book → held.transcripts.items ≡ texts → book.opening ≡ c → IsHeld c scripts held
    all_held d held book_is texts_are opening =
        let m = many in
        let n = as_many in
        let counted : length texts ≡ length scripts =
        ap length done.texts_are ∙ length-map outcomes (λ (o : Outcome). o.session.lines) ∙ ap length gathered.outcomes_are
        ∙ length-map new outcome_of ∙ many ∙ as_many in
        record {
          opening = ap (λ (b : BookState). b.opening) book_is ∙ opening;
          entries = subst (λ (b : BookState). Rattle.history_spec.specs.Entries.AreInterleaved c scripts b.entries) (sym book_is) (record {
            told = subst (λ o. Rattle.history_spec.specs.Entries.AreTold o book.entries) opening gathered.told;
            numbers = numbers;
            each = λ i low high.
                let place : suc (i - 1) ≡ i = omega (arith, low) in
                subst (λ k. AreAsked c.head.nall 0 (requests_of (script_of scripts i)) (entries_of k book.entries)) place
                (done_at (i - 1) d (omega (arith, low, high, m, n))).asked;
          });
          lines = subst (λ (b : BookState). AreTranscripts c b.entries 1 scripts held.transcripts.items) (sym book_is)
              (subst (AreTranscripts c book.entries 1 scripts) (sym texts_are)
              (transcripts_by c book.entries 1 scripts texts counted
              (λ i within.
              let there : i < length new = omega (arith, within, m, n) in
              subst (IsTranscript c book.entries (1 + i) (slice_index_or scripts i [])) (sym (text_at i d there))
              (subst (λ k. IsTranscript c book.entries k (slice_index_or scripts i []) (slice_index_or new i d).session.lines)
              (let same : suc i ≡ 1 + i = omega arith in same) (done_at i d there).transcript))));
        }
