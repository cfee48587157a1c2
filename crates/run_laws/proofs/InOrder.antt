-- In an order of the sessions each place is the next request of its session.
use Rattle.std.proofs.Common.{◌≡◌, ◌==◌, ℕ, zero, suc, ◌+◌, ◌-◌, ◌<◌, ◌≤◌, Bool, true, false, List, [], ◌∷◌, ◌++◌, length, drop, take, All, Option, Some, refl}
use Rattle.std.proofs.Common.{sym, ap, ◌∙◌, subst, arith, cond, ⊎_elim, append_assoc, append-nil, count_by, filter_map, map, filter}
use Rattle.std.specs.Prelude.{slice_get}
use Rattle.std.specs.List.{cons_option, enumerate_from}
use Rattle.std.specs.Option.{option_map}
use Rattle.std.proofs.lemmas.Bool.{cases_Bool, eqb-true}
use Rattle.std.proofs.lemmas.List.{length-append, length-map, drop_all}
use Rattle.std.proofs.lemmas.List.Sums.{sum_by-append, sum_by-cons, sum_by_push}
use Rattle.std.proofs.lemmas.List.Elements.{All-head, All-tail}
use Rattle.std.proofs.Math.Seq.{take-append_seam}
use Rattle.text_spec.specs.declared.command.Command.{Command}
use Rattle.text_spec.specs.ScriptLines.{is_shared}
use Rattle.text_spec.specs.OrderLine.{IsOrder}
use Rattle.history_spec.specs.Sessions.{Request, ordered_requests, request_at, requests_of, script_of}
use Rattle.room_laws.specs.Orders.{quotas_of}
use Rattle.room_laws.proofs.Interleaved.{same_number}
use Rattle.room_laws.proofs.Orders.{quota_there, requests_count}
use Rattle.run_laws.specs.Requests.{requests_by, sessions_of}

-- an item of a list, and the list from it on
pub record IsNext {X : Type 0} (xs : List X) (k : ℕ) : Type 0 where
  pub item : X
  pub there : slice_get xs k ≡ Some item
  pub behind : drop k xs ≡ item ∷ drop (suc k) xs

next_item : {X : Type 0} (xs : List X) (k : ℕ) → k < length xs → IsNext xs k
next_item [] k within = absurd (omega (arith, within))
next_item (x ∷ xs) zero within = record { item = x; there = refl; behind = refl }
next_item (x ∷ xs) (suc k) within = let n = next_item xs k (omega (arith, within)) in record { item = n.item; there = n.there; behind = n.behind }

-- how often a session stands in an order
abbrev times : ℕ → List ℕ → ℕ
times session = count_by (λ other. other == session)

times_more : (i d : ℕ) (done : List ℕ) (b : Bool) → (d == i) ≡ b → times i (done ++ d ∷ []) ≡ times i done + cond b 1 0
times_more i d done b is = sum_by_push (λ other. cond (other == i) 1 0) done d ∙ ap (λ t. times i done + cond t 1 0) is

module _ (scripts : List (List Command)) (order : List ℕ) (is : IsOrder (quotas_of scripts) order) where
  abbrev asked : ℕ → List Request
  asked session = requests_of (script_of scripts session)

  -- a session stands in the order as often as it has requests
  as_many : (i : ℕ) → 1 ≤ i → i ≤ length scripts → times i order ≡ length (asked i)
  as_many i low high =
      is.each i low (subst (λ n. i ≤ n) (sym (length-map scripts (count_by is_shared))) high)
      ∙ (quota_there scripts (i - 1) ∙ sym (requests_count [] [] (script_of scripts i)))

  -- the requests behind some places
  abbrev requests_behind : List ℕ → List ℕ → List (ℕ × Request)
  requests_behind done rest = filter_map (request_at scripts order) (enumerate_from (length done) rest)

  pub record IsRest (done rest : List ℕ) : Type 0 where
    pub sessions : sessions_of (requests_behind done rest) ≡ rest
    pub each : (i : ℕ) → 1 ≤ i → i ≤ length scripts → requests_by i (requests_behind done rest) ≡ drop (times i done) (asked i)

  -- a session that stands behind others has a request there
  next_request : (done : List ℕ) (d : ℕ) (rest : List ℕ) → order ≡ done ++ d ∷ rest → 1 ≤ d → d ≤ length scripts → IsNext (asked d) (times d done)
  next_request done d rest at low high =
      let all = as_many d low high in
      let parts : times d order ≡ times d done + times d (d ∷ rest) = ap (times d) at ∙ sum_by-append (λ other. cond (other == d) 1 0) done (d ∷ rest) in
      let own : times d (d ∷ rest) ≡ 1 + times d rest = sum_by-cons (λ other. cond (other == d) 1 0) d rest
      ∙ ap (λ t. cond t 1 0 + times d rest) (same_number d) in
      next_item (asked d) (times d done) (omega (arith, all, parts, own))

  -- one place and the places behind it
  first_behind : (done : List ℕ) (d : ℕ) (rest : List ℕ) → order ≡ done ++ d ∷ rest → (n : IsNext (asked d) (times d done))
      → requests_behind done (d ∷ rest) ≡ (d, n.item) ∷ requests_behind (done ++ d ∷ []) rest
  first_behind done d rest at n =
      let taken : take (length done) order ≡ done = ap (take (length done)) at ∙ take-append_seam done (d ∷ rest) in
      let here : request_at scripts order (length done, d) ≡ Some (d, n.item) =
      ap (λ l. option_map (λ request. (d, request)) (slice_get (asked d) (times d l))) taken ∙ ap (option_map (λ request. (d, request))) n.there in
      ap (λ (o : Option (ℕ × Request)). cons_option o (filter_map (request_at scripts order) (enumerate_from (length done + 1) rest))) here
      ∙ ap (λ k. (d, n.item) ∷ filter_map (request_at scripts order) (enumerate_from k rest)) (sym (length-append done (d ∷ [])))

  -- what a session has from one place on
  one_behind : (done : List ℕ) (d : ℕ) (n : IsNext (asked d) (times d done)) (later : List (ℕ × Request)) (i : ℕ)
      → requests_by i later ≡ drop (times i (done ++ d ∷ [])) (asked i) → requests_by i ((d, n.item) ∷ later) ≡ drop (times i done) (asked i)
  one_behind done d n later i rest = ⊎_elim
      (λ (t : (d == i) ≡ true).
      let P : ℕ → Type 0 = λ j. n.item ∷ drop (times j (done ++ d ∷ [])) (asked j) ≡ drop (times j done) (asked j) in
      let more : times d (done ++ d ∷ []) ≡ suc (times d done) = times_more d d done true (same_number d) ∙ omega arith in
      ap (λ (b : Bool). map (λ (r : ℕ × Request). r.1)
      (cond b ((d, n.item) ∷ filter (λ (r : ℕ × Request). r.0 == i) later) (filter (λ (r : ℕ × Request). r.0 == i) later))) t
      ∙ (ap (λ l. n.item ∷ l) rest ∙ subst P (eqb-true d i t) (ap (λ k. n.item ∷ drop k (asked d)) more ∙ sym n.behind)))
      (λ (t : (d == i) ≡ false).
      ap (λ (b : Bool). map (λ (r : ℕ × Request). r.1)
      (cond b ((d, n.item) ∷ filter (λ (r : ℕ × Request). r.0 == i) later) (filter (λ (r : ℕ × Request). r.0 == i) later))) t
      ∙ (rest ∙ ap (λ k. drop k (asked i)) (times_more i d done false t ∙ omega arith)))
      (cases_Bool (d == i))

  rest_is : (done rest : List ℕ) → order ≡ done ++ rest → All (λ i. (1 ≤ i) × (i ≤ length scripts)) rest → IsRest done rest
  rest_is done [] at within = record {
    sessions = refl;
    each = λ i low high. sym (drop_all (times i done) (asked i)
        (let all = sym (as_many i low high) ∙ ap (times i) (at ∙ append-nil done) in omega (arith, all)));
  }
  rest_is done (d ∷ rest) at within =
      let here = All-head (λ i. (1 ≤ i) × (i ≤ length scripts)) d rest within in
      let n = next_request done d rest at here.0 here.1 in
      let first = first_behind done d rest at n in
      let later = rest_is (done ++ d ∷ []) rest (at ∙ sym (append_assoc done (d ∷ []) rest))
      (All-tail (λ i. (1 ≤ i) × (i ≤ length scripts)) d rest within) in record {
        sessions = ap sessions_of first ∙ ap (λ l. d ∷ l) later.sessions;
        each = λ i low high. ap (requests_by i) first ∙ one_behind done d n (requests_behind (done ++ d ∷ []) rest) i (later.each i low high);
      }

  all_served : IsRest [] order
  all_served = rest_is [] order refl (subst (λ n. All (λ i. (1 ≤ i) × (i ≤ n)) order) (length-map scripts (count_by is_shared)) is.sessions)

  pub sessions_in_order : sessions_of (ordered_requests scripts order) ≡ order
  sessions_in_order = all_served.sessions

  pub each_in_order : (i : ℕ) → 1 ≤ i → i ≤ length scripts → requests_by i (ordered_requests scripts order) ≡ asked i
  each_in_order i low high = all_served.each i low high
