-- The rule at the start, where handles are given out and joined, and at the end.
use mathlib.Core.List.{IsPrefix, map-append}
use mathlib.Core.Logic.{dite}
use mathlib.Core.Option.{some, none, some-injective}
use native.Mathlib.Decide.{ℕ_discrete}
use lib.ListN.{get_elem?}
use lib.Seq.{set-get_or}
use Rattle.std.proofs.Common.{◌≡◌, ◌≢◌, ℕ, ◌+◌, ◌%◌, ◌^◌, ◌<◌, ◌≤◌, ◌||◌, if◌then◌else◌, Bool, true, false, List, [], ◌∷◌, ◌++◌, length, replicate}
use Rattle.std.proofs.Common.{get_or, set, All, Contains, Option, Some, None, sym, refl, ap, ◌∙◌, subst, ⊎_elim, arith, length-set, length-append}
use Rattle.std.proofs.Common.{get_or-set_other, get_or-set_same}
use Rattle.std.proofs.lemmas.Bool.{cases_Bool}
use Rattle.std.proofs.lemmas.List.Elements.{Contains-append_left, Contains-append_right, All-weaker, All-nil, All-cons, All-append, All-same}
use Rattle.atomic_table.specs.Table.{State, Me, step, Allows, Splits, Joins, Final, Seen, opening, keeps}
use Rattle.atomic_table.proofs.Lists.{set_else, at_longer, at_last}
use Rattle.turn_gate.specs.declared.view.HandleView.{HandleView}
use Rattle.turn_gate.specs.declared.view.OwnList.{OwnList}
use Rattle.turn_gate.specs.Histories.{longer, numbers_of, entries_by, IsExact}
use Rattle.turn_gate.specs.TicketLockRule.{LockState, Keeps, IsSound, IsAt, TicketLockRule, count_if, count_some, opening_view}
use Rattle.turn_gate.specs.Outcomes.{DrawsNumber, ComparesHistories, giving_view, new_view, joined_view, spent_view}
use Rattle.turn_gate.proofs.Prefixes.{longer_prefix}
use Rattle.turn_gate.proofs.Entries.{entries_by-unused, entries_by-none_before, exact_between}
use Rattle.turn_gate.proofs.Views.{put, put_here, put_else, moved, moved_here, moved_else, set_at, at_end, only, each_stays, at_stays, at_stays_longer}
use Rattle.turn_gate.proofs.Views.{none_marked, stays_sound, value_of, waiting_set, waiting_more}

module _ {V E O : Type 0} (origin : V → O) (entries : V → List E) (number : E → ℕ) (start : O) where
  abbrev Rule : State (Option V) (HandleView E O) → Type 0
  Rule = TicketLockRule origin entries number start

  abbrev Mine : Type 0
  Mine = Me (Option V) (HandleView E O)

  pub starts : (x : V) → origin x ≡ start → entries x ≡ [] → Rule (opening (1 ∷ replicate 18 0) (Some x ∷ []) (opening_view start))
  starts x from empty = let c : LockState E = record {
    published = [];
    given = 1;
    issued = 0;
    served = 0;
    keeper = λ _. 0;
    holder =
        λ _. 0;
    drawer = 0;
  } in record {
    lock = c;
    wide = refl;
    deep = refl;
    tickets = refl;
    turns = refl;
    queue = refl;
    queued = λ t low high. absurd (omega arith);
    bounded = (omega arith, omega arith);
    numbered = All-nil (λ (e : E). number e < 1);
    keepers = λ n l. (opening_view start, refl, (let zero' : 0 ≡ n = omega arith in subst (λ (z : ℕ). Contains (0 ∷ []) z) zero' (0, omega arith, refl)));
    each = only (IsSound {V = V} {E = E} {O = O} number start c 1 (some (Some x) ∷ [])) (opening_view start) record {
      observed = ([], refl);
      joined = All-nil (λ (l : List E). IsPrefix l []);
      origin = λ o e. sym (ap (value_of start) e);
      own = All-cons (Keeps number c 0 []) (record { number = 0; entries = [] }) []
          (record { low = omega arith; keeper = refl; seen = refl; whole = refl }) (All-nil (Keeps number c 0 []));
      ticket = λ t e. absurd (cc);
      mark = λ no. absurd (cc);
      draws = λ _. (refl, refl, refl);
    };
    home = λ _. (x, refl, empty, from);
  }

  -- a step that leaves the lock and the slot as they are, and of its view the ticket, the own lists and the mark
  changes_view : (s : State (Option V) (HandleView E O)) (h : Rule s) (words : List ℕ) (id : ℕ) (v w : HandleView E O) → get_elem? s.views id ≡ some v
      → w.ticket ≡ v.ticket → w.own ≡ v.own → w.marked ≡ v.marked
      → length words ≡ length s.words → get_or words 1 0 ≡ get_or s.words 1 0 → get_or words 2 0 ≡ get_or s.words 2 0
      → ((j : ℕ) (u : HandleView E O) → get_elem? (set s.views id w) j ≡ some u
      → IsSound {V = V} {E = E} {O = O} number start h.lock (get_or words 0 0) s.homes j u)
      → Rule record { words = words; homes = s.homes; views = set s.views id w }
  changes_view s h words id v w at same_ticket same_own same_mark same_length same_tickets same_turns each = let c : LockState E = h.lock in record {
    lock = c;
    wide = same_length ∙ h.wide;
    deep = h.deep;
    tickets = same_tickets ∙ h.tickets;
    turns = same_turns ∙ h.turns;
    queue = let more = waiting_set s.views id v w at in let one : count_some w.ticket ≡ count_some v.ticket = ap count_some same_ticket in
        let queue = h.queue in omega arith;
    queued = λ t low high. at_stays (λ u. u.ticket ≡ Some t) s.views id v w (c.holder t) at (λ _ e. same_ticket ∙ e) (h.queued t low high);
    bounded = (rw (length-set s.views id w) h.bounded.0, h.bounded.1);
    numbered = h.numbered;
    keepers = λ m l. at_stays (λ u. Contains (numbers_of u.own) m) s.views id v w (c.keeper m) at
        (λ _ p. subst (λ (own : List (OwnList E)). Contains (numbers_of own) m) (sym same_own) p) (h.keepers m l);
    each = each;
    home = λ all. h.home (none_marked s.views id v w at (sym same_mark ∙ all id w (set_at s.views id v w at)) all);
  }

  pub draws_number : (slots id : ℕ) (me : Mine) → me.0.draws ≡ true → me.0.drawn ≡ false
      → Allows Rule slots id me 0 (λ n. (n + 1) % 2 ^ 64) (DrawsNumber (step slots 0 1 0 none) me)
  draws_number slots id me root nothing s h deep at small =
      let c : LockState E = h.lock in let v : HandleView E O = me.0 in let n : ℕ = (get_or s.words 0 0 + 1) % 2 ^ 64 in let w : HandleView E O =
      record v { drawn = true } in
      let k = h.each id v at in let wide = h.wide in let r = k.draws root in let r₂ = r.2 in let none' : count_if v.drawn ≡ 0 =
      ap count_if nothing in let bounded₁ = h.bounded.1 in
      let next : get_or (set s.words 0 n) 0 0 ≡ c.given + 1 = get_or-set_same s.words 0 n 0 (omega arith) ∙ (let g : n ≡ c.given + 1 = omega arith in g) in
      let K : ℕ → HandleView E O → Type 0 = IsSound {V = V} {E = E} {O = O} number start c (get_or (set s.words 0 n) 0 0) s.homes in (
        w,
        keeps,
        tt,
        changes_view s h (set s.words 0 n) id v w at refl refl refl (length-set s.words 0 n) (get_or-set_other s.words 0 1 n 0 (omega arith))
            (get_or-set_other s.words 0 2 n 0 (omega arith))
            (each_stays K s.views id w record {
              observed = k.observed;
              joined = k.joined;
              origin = k.origin;
              own = k.own;
              ticket = k.ticket;
              mark = k.mark;
              draws = λ _. (r.0, r.1, next);
            } (λ j u other e. let y = h.each j u e in stays_sound number start c c.given c.keeper (get_or s.words 0 0) (get_or (set s.words 0 n) 0 0)
            s.homes s.homes j u y y.own y.mark (λ b. absurd (other (sym (y.draws b).0 ∙ r.0))))),
        refl,
      )

  pub compares_histories : (slots id : ℕ) (me : Mine) → Allows Rule slots id me 0 (λ n. n) (ComparesHistories number (step slots 0 0 0 none) me)
  compares_histories slots id me s h deep at small =
      let c : LockState E = h.lock in let v : HandleView E O = me.0 in let w : HandleView E O = record v { joined = [] } in let k = h.each id v at in
      let K : ℕ → HandleView E O → Type 0 = IsSound {V = V} {E = E} {O = O} number start c (get_or s.words 0 0) s.homes in (
        w,
        keeps,
        tt,
        subst (λ (ws : List ℕ). Rule record { words = ws; homes = s.homes; views = set s.views id w }) (sym (set-get_or s.words 0 0))
            (changes_view s h s.words id v w at refl refl refl refl refl refl (each_stays K s.views id w record {
              observed = k.observed;
              joined = All-nil (λ (l : List E). IsPrefix l v.observed);
              origin = k.origin;
              own = k.own;
              ticket = k.ticket;
              mark = k.mark;
              draws = k.draws;
            } (λ j u _ e. h.each j u e))),
        (refl, (All-weaker (Keeps number c id v.observed) (IsExact number v.observed) (λ o p. p.seen) v.own k.own, k.joined)),
      )

  pub splits_handle : (id : ℕ) (v : HandleView E O) → v.draws ≡ true → v.drawn ≡ true → v.given < 2 ^ 32 → v.ticket ≡ None
      → v.marked ≡ false → Splits Rule id v (giving_view v) (new_view v)
  splits_handle id v root drawn low free unmarked s h at =
      let c : LockState E = h.lock in let w : HandleView E O = giving_view v in let o : HandleView E O = new_view v in let k =
      h.each id v at in let r = k.draws root in let r₁ = r.1 in let r₂ = r.2 in
      let one : count_if v.drawn ≡ 1 = ap count_if drawn in let bounded₀ = h.bounded.0 in
      let n : ℕ = length s.views in let vs : List (HandleView E O) = set s.views id w in let long : length vs ≡ n = length-set s.views id w in
      let c' : LockState E = record c { given = c.given + 1; keeper = put c.keeper c.given n } in
      let K : ℕ → HandleView E O → Type 0 = IsSound {V = V} {E = E} {O = O} number start c' (get_or s.words 0 0) s.homes in
      let none' : entries_by number v.given c.published ≡ [] = ap (λ (z : ℕ). entries_by number z c.published) r.1
      ∙ entries_by-unused number c.given c.published h.numbered in
      let stay : (j : ℕ) (u : HandleView E O) → All (Keeps number c j u.observed) u.own → All (Keeps number c' j u.observed) u.own =
      (λ j u all. All-weaker (Keeps number c j u.observed) (Keeps number c' j u.observed) (λ a p. let low' = p.low in record {
        low = let g : a.number < c.given + 1 = omega arith in g;
        keeper = put_else c.keeper c.given n a.number (λ e. omega arith) ∙ p.keeper;
        seen = p.seen;
        whole = p.whole;
      }) u.own all) in
      let olds : (j : ℕ) (u : HandleView E O) → get_elem? vs j ≡ some u → K j u = each_stays K s.views id w record {
        observed = k.observed;
        joined = k.joined;
        origin = k.origin;
        own = stay id v k.own;
        ticket = k.ticket;
        mark = k.mark;
        draws = λ _. (r.0, ap (λ (z : ℕ). z + 1) r.1, omega arith);
      } (λ j u other e. let y = h.each j u e in stays_sound number start c (c.given + 1) (put c.keeper c.given n) (get_or s.words 0 0) (get_or s.words 0 0)
      s.homes s.homes j u y (stay j u y.own) y.mark (λ b. absurd (other (sym (y.draws b).0 ∙ r.0)))) in
      let new : K n o = record {
        observed = k.observed;
        joined = All-nil (λ (l : List E). IsPrefix l v.observed);
        origin = k.origin;
        own = All-cons (Keeps number c' n v.observed) (record { number = v.given; entries = [] }) [] (record {
          low = let g : v.given < c.given + 1 = omega arith in g;
          keeper = ap (put c.keeper c.given n) r.1 ∙ put_here c.keeper c.given n;
          seen = sym (entries_by-none_before number v.given v.observed c.published k.observed none');
          whole = sym none';
        }) (All-nil (Keeps number c' n v.observed));
        ticket = λ t e. absurd (cc);
        mark = λ no. absurd (cc);
        draws = λ no. absurd (cc);
      } in record {
        lock = c';
        wide = h.wide;
        deep = h.deep;
        tickets = h.tickets;
        turns = h.turns;
        queue = let more = waiting_set s.views id v w at in let last = waiting_more vs o in let queue = h.queue in omega arith;
        queued = λ t low' high. at_stays_longer (λ u. u.ticket ≡ Some t) vs o (c.holder t)
            (at_stays (λ u. u.ticket ≡ Some t) s.views id v w (c.holder t) at (λ _ e. e) (h.queued t low' high));
        bounded = (
          let more = length-append vs (o ∷ []) in (let g : length (vs ++ o ∷ []) ≤ c.given + 1 = omega arith in g),
          (let g : c.given + 1 ≤ 2 ^ 32 = omega arith in g),
        );
        numbered = All-weaker (λ (e : E). number e < c.given) (λ (e : E). number e < c.given + 1) (λ e l. omega arith) c.published h.numbered;
        keepers = λ m l. dite (ℕ_discrete m c.given)
            (λ last. (
              o,
              ap (get_elem? (vs ++ o ∷ [])) (ap (put c.keeper c.given n) last ∙ put_here c.keeper c.given n) ∙ at_last vs o n long,
              (let same : v.given ≡ m = r.1 ∙ sym last in subst (λ (z : ℕ). Contains (v.given ∷ []) z) same (0, omega arith, refl)),
            ))
            (λ before. let P : HandleView E O → Type 0 = (λ u. Contains (numbers_of u.own) m) in
            subst (λ (z : ℕ). IsAt (vs ++ o ∷ []) z P) (sym (put_else c.keeper c.given n m before))
            (at_stays_longer P vs o (c.keeper m) (at_stays P s.views id v w (c.keeper m) at (λ _ p. p) (h.keepers m (omega arith)))));
        each = λ j u e. ⊎_elim (olds j u) (λ (t : (j ≡ length vs) × (o ≡ u)). subst (λ (z : ℕ × HandleView E O). K z.0 z.1)
            (λ i. (sym (t.0 ∙ long) i, t.1 i)) new) (at_end vs o u j e);
        home = λ all. h.home (none_marked s.views id v w at unmarked (λ j u e. all j u (at_longer vs (o ∷ []) j u e)));
      }

  pub joins_handles : (id : ℕ) (v : HandleView E O) (other : ℕ) (w : HandleView E O) → v.ticket ≡ None → v.marked ≡ false
      → w.ticket ≡ None → w.marked ≡ false → Joins Rule id v other w (joined_view v w) spent_view
  joins_handles id v other w free unmarked free' unmarked' s h at apart there =
      let c : LockState E = h.lock in let b : HandleView E O = joined_view v w in let o : HandleView E O = spent_view in
      let vs : List (HandleView E O) = set s.views id b in
      let at' : get_elem? s.views other ≡ some w = sym (set_else s.views id other b apart) ∙ there in let k = h.each id v at in let k' = h.each other w at' in
      let c' : LockState E = record c { keeper = moved c.keeper other id; drawer = moved (λ _. c.drawer) other id 0 } in
      let K : ℕ → HandleView E O → Type 0 = IsSound {V = V} {E = E} {O = O} number start c' (get_or s.words 0 0) s.homes in
      let L : List E = longer v.observed w.observed in
      let over : IsPrefix L c.published × IsPrefix v.observed L × IsPrefix w.observed L =
      longer_prefix v.observed w.observed c.published k.observed k'.observed in
      let mine : K id b = record {
        observed = over.0;
        joined = All-cons (λ (l : List E). IsPrefix l L) v.observed (w.observed ∷ []) over.1
            (All-cons (λ (l : List E). IsPrefix l L) w.observed [] over.2 (All-nil (λ (l : List E). IsPrefix l L)));
        origin = k.origin;
        own = All-append (Keeps number c' id L) v.own w.own
            (All-weaker (Keeps number c id v.observed) (Keeps number c' id L)
            (λ a p. record {
              low = p.low;
              keeper = moved_else c.keeper other id a.number (λ e. apart (sym e ∙ p.keeper)) ∙ p.keeper;
              seen =
                  exact_between number v.observed L c.published a over.1 over.0 p.seen p.whole;
              whole = p.whole;
            }) v.own k.own)
            (All-weaker (Keeps number c other w.observed) (Keeps number c' id L)
            (λ a p. record {
              low = p.low;
              keeper = moved_here c.keeper other id a.number p.keeper;
              seen =
                  exact_between number w.observed L c.published a over.2 over.0 p.seen p.whole;
              whole = p.whole;
            }) w.own k'.own);
        ticket = k.ticket;
        mark = λ m. let no : true ≡ false = sym m ∙ unmarked in absurd (cc);
        draws = ⊎_elim
            (λ (e : v.draws ≡ true). let r = k.draws e in λ _. (
              moved_else (λ _. c.drawer) other id 0 (λ z. apart (sym z ∙ r.0)) ∙ r.0,
              ap (λ (z : Bool). if z then v.given else w.given) e ∙ r.1,
              r.2 ∙ ap (λ (z : Bool). c.given + count_if z) (sym (ap (λ (z : Bool). if z then v.drawn else w.drawn) e)),
            ))
            (λ (e : v.draws ≡ false). λ has. let r = k'.draws (sym (ap (λ (z : Bool). z || w.draws) e) ∙ has) in (
              moved_here (λ _. c.drawer) other id 0 r.0,
              ap (λ (z : Bool). if z then v.given else w.given) e ∙ r.1,
              r.2 ∙ ap (λ (z : Bool). c.given + count_if z) (sym (ap (λ (z : Bool). if z then v.drawn else w.drawn) e)),
            )) (cases_Bool v.draws);
      } in
      let gone : K other o = record {
        observed = (c.published, refl);
        joined = All-nil (λ (l : List E). IsPrefix l []);
        origin = λ z e. absurd (cc);
        own = All-nil (Keeps number c' other []);
        ticket = λ t e. absurd (cc);
        mark = λ no. absurd (cc);
        draws = λ no. absurd (cc);
      } in
      let rest : (j : ℕ) (u : HandleView E O) → get_elem? vs j ≡ some u → j ≢ other → K j u =
      each_stays (λ j u. j ≢ other → K j u) s.views id b (λ _. mine) (λ j u far e not. let y = h.each j u e in record {
        observed = y.observed;
        joined = y.joined;
        origin = y.origin;
        own = All-weaker (Keeps number c j u.observed) (Keeps number c' j u.observed)
            (λ a p. record {
              low = p.low;
              keeper = moved_else c.keeper other id a.number (λ z. not (sym p.keeper ∙ z)) ∙ p.keeper;
              seen =
                  p.seen;
              whole = p.whole;
            }) u.own y.own;
        ticket = y.ticket;
        mark = y.mark;
        draws = λ has. let r = y.draws has in (moved_else (λ _. c.drawer) other id 0 (λ z. not (sym r.0 ∙ z)) ∙ r.0, r.1, r.2);
      }) in
      let at_b : get_elem? (set vs other o) id ≡ some b = set_else vs other id o (λ e. apart (sym e)) ∙ set_at s.views id v b at in
      let numbers_b : numbers_of b.own ≡ numbers_of v.own ++ numbers_of w.own = map-append (λ (a : OwnList E). a.number) v.own w.own in
      let P : ℕ → HandleView E O → Type 0 = (λ m u. Contains (numbers_of u.own) m) in
      let keeps_on : (m : ℕ) → IsAt s.views (c.keeper m) (P m) → IsAt (set vs other o) (c'.keeper m) (P m) = (λ m a. dite (ℕ_discrete (c.keeper m) other)
      (λ e. let same : a.0 ≡ w = some-injective a.0 w (sym a.1 ∙ (ap (get_elem? s.views) e ∙ at')) in (
        b,
        ap (get_elem? (set vs other o)) (moved_here c.keeper other id m e) ∙ at_b,
        subst (λ (l : List ℕ). Contains l m) (sym numbers_b)
            (Contains-append_right (numbers_of v.own) (numbers_of w.own) m (subst (P m) same a.2)),
      ))
      (λ ne. subst (λ (z : ℕ). IsAt (set vs other o) z (P m)) (sym (moved_else c.keeper other id m ne))
      (at_stays (P m) vs other w o (c.keeper m) there (λ e. absurd (ne e))
      (at_stays (P m) s.views id v b (c.keeper m) at (λ _ p. subst (λ (l : List ℕ). Contains l m) (sym numbers_b)
      (Contains-append_left (numbers_of v.own) (numbers_of w.own) m p)) a)))) in record {
        lock = c';
        wide = h.wide;
        deep = h.deep;
        tickets = h.tickets;
        turns = h.turns;
        queue = let one = waiting_set s.views id v b at in let two = waiting_set vs other w o there in let queue = h.queue in
            let z : count_some w.ticket ≡ 0 = ap count_some free' in omega arith;
        queued = λ t low high. at_stays (λ u. u.ticket ≡ Some t) vs other w o (c.holder t) there (λ _ e. let no : None ≡ Some t =
            sym free' ∙ e in absurd (cc)) (at_stays (λ u. u.ticket ≡ Some t) s.views id v b (c.holder t) at (λ _ e. e) (h.queued t low high));
        bounded = (rw (length-set vs other o, length-set s.views id b) h.bounded.0, h.bounded.1);
        numbered = h.numbered;
        keepers = λ m l. keeps_on m (h.keepers m l);
        each = each_stays K vs other o gone (λ j u far e. rest j u e far);
        home = λ all. h.home (none_marked s.views id v b at unmarked (none_marked vs other w o there unmarked' all));
      }

  -- at the end a handle whose turn has come knows the numbers of all entries
  pub ends : (words : List ℕ) (slots : List (Option V)) (id n : ℕ) (v : HandleView E O) → v.marked ≡ true → v.draws ≡ true
      → v.given ≡ n + 1 → Final (Seen Rule id v) words slots → All (λ e. number e ≤ n) v.observed
  ends words slots id n v marked root given f = let h = f.1.0 in let k = h.each id v f.1.1 in let r = (k.draws root).1 in
      All-same (λ e. number e ≤ n) v.observed h.lock.published (k.mark marked).1
      (All-weaker (λ (e : E). number e < h.lock.given) (λ (e : E). number e ≤ n) (λ e l. omega arith) h.lock.published h.numbered)
