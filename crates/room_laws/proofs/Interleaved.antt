-- Entries of sessions in one history, as a run of their scripts in the entries' order.
use Rattle.std.proofs.Common.{◌≡◌, ◌==◌, ℕ, suc, ◌+◌, ◌≤◌, Bool, true, false, if◌then◌else◌, List, [], ◌∷◌, ◌++◌, length, map, filter, filter_map, fold}
use Rattle.std.proofs.Common.{take, All, Option, Some, count_by, refl, sym, ap, ◌∙◌, subst, arith, append_assoc, append-nil, ◌⊎◌, ⊎_elim}
use Rattle.std.specs.Prelude.{slice_get}
use Rattle.std.specs.List.{cons_option, enumerate_from}
use Rattle.std.specs.Option.{option_map}
use Rattle.std.proofs.lemmas.Bool.{cases_Bool, eqb-true}
use Rattle.std.proofs.lemmas.Bool.Decides.{nat_tests}
use Rattle.std.proofs.lemmas.List.{length-append, map-append, length-map}
use Rattle.std.proofs.lemmas.List.Sums.{length-filter}
use Rattle.std.proofs.lemmas.List.Elements.{filter-append, All-head, All-tail}
use Rattle.std.proofs.Math.Seq.{take-append_seam}
use Rattle.s57_types.specs.declared.cell.Cell.{Cell}
use Rattle.text_spec.specs.declared.command.Command.{Command}
use Rattle.history_spec.specs.declared.entry.Entry.{Entry}
use Rattle.history_spec.specs.declared.reply.Reply.{Reply}
use Rattle.history_spec.specs.Entries.{AreInterleaved, AreToldFrom, AreAsked, order_of_entries, entries_of, entry_step, stepped, brief_of, base_told}
use Rattle.history_spec.specs.Entries.{event_asked}
use Rattle.history_spec.specs.Sessions.{Request, event_of, request_at, request_step, requests_of, script_of, replies_from, history_after}
use Rattle.history_spec.specs.Steps.{History, opening, step, answer}
use Rattle.room_laws.specs.Interleaved.{IsRunOfEntries, told_brief, entered_brief}
use Rattle.history_spec.specs.Served.{later_base}
use Rattle.room_laws.proofs.Steps.{level_left, bases_left, answer_numbered}

later_snoc : (base : ℕ) (es : List Entry) (e : Entry) → later_base base (es ++ e ∷ []) ≡ base_told e.brief (later_base base es)
later_snoc base [] e = refl
later_snoc base (x ∷ es) e = later_snoc (base_told x.brief base) es e

-- what the entry behind others asks
pub record IsRequested (nall base : ℕ) (requests : List Request) (place : ℕ) (e : Entry) : Type 0 where
  pub request : Request
  pub there : slice_get requests place ≡ Some request
  pub event : event_asked e.asked ≡ event_of nall base request

asked_at : (nall base : ℕ) (rs : List Request) (xs : List Entry) (e : Entry) (ys : List Entry) → AreAsked nall base rs (xs ++ e ∷ ys)
    → IsRequested nall (later_base base xs) rs (length xs) e
asked_at nall base [] [] e ys all = absurd all
asked_at nall base [] (x ∷ xs) e ys all = absurd all
asked_at nall base (r ∷ rs) [] e ys all = record { request = r; there = refl; event = all.0 }
asked_at nall base (r ∷ rs) (x ∷ xs) e ys all = let i = asked_at nall (base_told x.brief base) rs xs e ys all.1 in
    record { request = i.request; there = i.there; event = i.event }

pub same_number : (n : ℕ) → (n == n) ≡ true
same_number n = grind (arith, nat_tests)

turned : (i n : ℕ) → (i == n) ≡ (n == i)
turned i n = grind (arith, nat_tests)

entries_cons : (e : Entry) (es : List Entry) → entries_of e.desk (e ∷ es) ≡ e ∷ entries_of e.desk es
entries_cons e es = ap (λ (b : Bool). if b then e ∷ entries_of e.desk es else entries_of e.desk es) (same_number e.desk)

-- how often a desk stands in an order of entries
pub desk_count : (d : ℕ) (es : List Entry) → count_by (λ other. other == d) (order_of_entries es) ≡ length (entries_of d es)
desk_count d es = sym (length-filter (λ other. other == d) (order_of_entries es)) ∙ by_entry es
  where
    by_entry : (es : List Entry) → length (filter (λ other. other == d) (order_of_entries es)) ≡ length (entries_of d es)
    by_entry [] = refl
    by_entry (e ∷ es) = ⊎_elim
        (λ (t : (e.desk == d) ≡ true). ap (λ (b : Bool). length
        (if b then e.desk ∷ filter (λ other. other == d) (order_of_entries es) else filter (λ other. other == d) (order_of_entries es))) t
        ∙ (ap suc (by_entry es) ∙ ap (λ (b : Bool). length (if b then e ∷ entries_of d es else entries_of d es)) (sym t)))
        (λ (t : (e.desk == d) ≡ false). ap (λ (b : Bool). length
        (if b then e.desk ∷ filter (λ other. other == d) (order_of_entries es) else filter (λ other. other == d) (order_of_entries es))) t
        ∙ (by_entry es ∙ ap (λ (b : Bool). length (if b then e ∷ entries_of d es else entries_of d es)) (sym t)))
        (cases_Bool (e.desk == d))

module _ (c : Cell) (scripts : List (List Command)) (entries : List Entry) (r : AreInterleaved c scripts entries) where
  abbrev Order : List ℕ
  Order = order_of_entries entries

  -- the requests of the entries behind some
  abbrev requests_behind : List Entry → List Entry → List (ℕ × Request)
  requests_behind done rest = filter_map (request_at scripts Order) (enumerate_from (length done) (order_of_entries rest))

  -- a state in the run: bases are those that the entries' answers gave
  pub record IsPoint (done : List Entry) (h : History) : Type 0 where
    pub bases : (i : ℕ) → h.bases i ≡ later_base 0 (entries_of i done)
    pub level : h.cell.head.nall ≡ c.head.nall

  pub record IsRest (h : History) (done rest : List Entry) : Type 0 where
    pub state : history_after h (requests_behind done rest) ≡ fold (stepped) h rest
    pub replies : map told_brief (replies_from h (requests_behind done rest)) ≡ map entered_brief rest

  point_more : (done : List Entry) (h : History) (e : Entry) → IsPoint done h → e.brief ≡ brief_of (entry_step h e).0 → IsPoint (done ++ e ∷ []) (stepped h e)
  point_more done h e p told = record {
    bases = λ i.
        let left = bases_left e.desk (event_asked e.asked) (answer h (event_asked e.asked)) h i (answer_numbered h (event_asked e.asked)) in
        left ∙ (ap (λ b. if i == e.desk then base_told b (h.bases e.desk) else h.bases i) (sym told) ∙ by_desk i (cases_Bool (e.desk == i)));
    level = level_left e.desk (event_asked e.asked) (answer h (event_asked e.asked)) h ∙ p.level;
  }
    where
      by_desk : (i : ℕ) → ((e.desk == i) ≡ true) ⊎ ((e.desk == i) ≡ false)
          → (if i == e.desk then base_told e.brief (h.bases e.desk) else h.bases i) ≡ later_base 0 (entries_of i (done ++ e ∷ []))
      by_desk i = ⊎_elim
          (λ (t : (e.desk == i) ≡ true).
          ap (λ (b : Bool). if b then base_told e.brief (h.bases e.desk) else h.bases i) (turned i e.desk ∙ t)
          ∙ (ap (base_told e.brief) (p.bases e.desk ∙ ap (λ n. later_base 0 (entries_of n done)) (eqb-true e.desk i t))
          ∙ (sym (later_snoc 0 (entries_of i done) e) ∙ ap (later_base 0)
          (ap (λ (b : Bool). entries_of i done ++ (if b then e ∷ [] else [])) (sym t)
          ∙ sym (filter-append (λ (x : Entry). x.desk == i) done (e ∷ []))))))
          (λ (t : (e.desk == i) ≡ false).
          ap (λ (b : Bool). if b then base_told e.brief (h.bases e.desk) else h.bases i) (turned i e.desk ∙ t) ∙ (p.bases i
          ∙ ap (later_base 0) (sym (append-nil (entries_of i done))
          ∙ (ap (λ (b : Bool). entries_of i done ++ (if b then e ∷ [] else [])) (sym t)
          ∙ sym (filter-append (λ (x : Entry). x.desk == i) done (e ∷ []))))))

  -- the request at the place of an entry
  place_is : (done : List Entry) (h : History) (e : Entry) (rest : List Entry) → entries ≡ done ++ e ∷ rest → IsPoint done h
      → (1 ≤ e.desk) × (e.desk ≤ length scripts)
      → (request : Request) × (request_at scripts Order (length done, e.desk) ≡ Some (e.desk, request)) × (request_step h (e.desk, request) ≡ entry_step h e)
  place_is done h e rest is p within =
      let d = e.desk in
      let all = subst (AreAsked c.head.nall 0 (requests_of (script_of scripts d)))
      (ap (entries_of d) is ∙ (filter-append (λ (x : Entry). x.desk == d) done (e ∷ rest) ∙ ap (λ (l : List Entry). entries_of d done ++ l)
      (entries_cons e rest))) (r.each d within.0 within.1) in
      let q = asked_at c.head.nall 0 (requests_of (script_of scripts d)) (entries_of d done) e (entries_of d rest) all in
      let taken : take (length done) Order ≡ order_of_entries done =
      ap (λ (l : List Entry). take (length done) (order_of_entries l)) is ∙ (ap (take (length done)) (map-append (λ (x : Entry). x.desk) done (e ∷ rest))
      ∙ (ap (λ n. take n (order_of_entries done ++ order_of_entries (e ∷ rest))) (sym (length-map done (λ (x : Entry). x.desk)))
      ∙ take-append_seam (order_of_entries done) (order_of_entries (e ∷ rest)))) in
      let place : count_by (λ other. other == d) (take (length done) Order) ≡ length (entries_of d done) =
      ap (count_by (λ other. other == d)) taken ∙ desk_count d done in (
        q.request,
        ap (λ n. option_map (λ request. (d, request)) (slice_get (requests_of (script_of scripts d)) n)) place
            ∙ ap (option_map (λ request. (d, request))) q.there,
        ap (step h d) (ap (λ n. event_of n (h.bases d) q.request) p.level ∙ (ap (λ b. event_of c.head.nall b q.request) (p.bases d) ∙ sym q.event)),
      )

  rest_is : (done : List Entry) (h : History) (rest : List Entry) → entries ≡ done ++ rest → IsPoint done h → AreToldFrom h rest
      → All (λ (e : Entry). (1 ≤ e.desk) × (e.desk ≤ length scripts)) rest → IsRest h done rest
  rest_is done h [] is p told numbers = record { state = refl; replies = refl }
  rest_is done h (e ∷ rest) is p told numbers =
      let q = place_is done h e rest is p (All-head (λ (e : Entry). (1 ≤ e.desk) × (e.desk ≤ length scripts)) e rest numbers) in
      let more = rest_is (done ++ e ∷ []) (stepped h e) rest (is ∙ sym (append_assoc done (e ∷ []) rest)) (point_more done h e p told.0) told.1
      (All-tail (λ (e : Entry). (1 ≤ e.desk) × (e.desk ≤ length scripts)) e rest numbers) in
      let places : length done + 1 ≡ length (done ++ e ∷ []) = sym (length-append done (e ∷ [])) in
      let first : requests_behind done (e ∷ rest) ≡ (e.desk, q.0) ∷ requests_behind (done ++ e ∷ []) rest =
      ap (λ (o : Option (ℕ × Request)). cons_option o (filter_map (request_at scripts Order) (enumerate_from (length done + 1) (order_of_entries rest)))) q.1
      ∙ ap (λ n. (e.desk, q.0) ∷ filter_map (request_at scripts Order) (enumerate_from n (order_of_entries rest))) places in record {
        state = ap (history_after h) first ∙ (ap (λ (s : Reply × History). history_after s.1 (requests_behind (done ++ e ∷ []) rest)) q.2 ∙ more.state);
        replies = ap (λ l. map told_brief (replies_from h l)) first
            ∙ (ap (λ (s : Reply × History). (e.desk, brief_of s.0) ∷ map told_brief (replies_from s.1 (requests_behind (done ++ e ∷ []) rest))) q.2
            ∙ (λ i. (e.desk, sym told.0 i) ∷ more.replies i));
      }

  pub run_of_entries : IsRunOfEntries c scripts entries
  run_of_entries = let all = rest_is [] (opening c) entries refl (record { bases = λ i. refl; level = refl }) r.told r.numbers in
      record { state = all.state; replies = all.replies }
