-- The steps of a turn keep the rule.
use mathlib.Core.List.{IsPrefix}
use mathlib.Core.Logic.{dite}
use mathlib.Core.Option.{some, none, some-injective}
use native.Mathlib.Decide.{ℕ_discrete}
use lib.ListN.{get_elem?}
use lib.Seq.{set-get_or}
use Rattle.std.proofs.Common.{◌≡◌, ◌≢◌, ℕ, ◌+◌, ◌%◌, ◌^◌, ◌<◌, ◌≤◌, true, false, List, [], ◌∷◌, ◌++◌, get_or, set, Contains, Option, Some, None, sym, refl}
use Rattle.std.proofs.Common.{ap, ◌∙◌, subst, ⊎_elim, arith, append-nil, unwrap_or, length-set, get_or-set_other, get_or-set_same}
use Rattle.std.proofs.lemmas.Bool.{cases_Bool}
use Rattle.std.proofs.lemmas.List.Elements.{All-weaker, All-push, All-map, All-same, All-nil}
use Rattle.atomic_table.specs.Table.{State, Me, step, Allows, keeps, takes, gives, stepped, rest}
use Rattle.atomic_table.proofs.Lists.{set_again, set_here, one_turn}
use Rattle.turn_gate.specs.declared.view.HandleView.{HandleView}
use Rattle.turn_gate.specs.Histories.{numbers_of, entries_by, IsExact, exact_list, Appends}
use Rattle.turn_gate.specs.TicketLockRule.{LockState, Keeps, IsSound, IsAt, TicketLockRule, waiting, count_some}
use Rattle.turn_gate.specs.Outcomes.{TakesTicket, LooksForTurn, CallsSleepers, PassesTurn, view_after_turn}
use Rattle.turn_gate.proofs.Prefixes.{prefix_refl}
use Rattle.turn_gate.proofs.Entries.{entries_by-stay, appends_prefix, numbers_of-exact, at_number}
use Rattle.turn_gate.proofs.Views.{put, put_here, put_else, set_at, each_stays, at_stays, none_marked, stays_sound, value_of, waiting_set, waiting_fits}

abbrev pub value_or : {V : Type 0} → V → List (ℕ × Option V) → V
value_or d [] = d
value_or d (x ∷ xs) = unwrap_or x.1 d

module _ {V E O : Type 0} (origin : V → O) (entries : V → List E) (number : E → ℕ) (start : O) where
  abbrev Rule : State (Option V) (HandleView E O) → Type 0
  Rule = TicketLockRule origin entries number start

  abbrev Mine : Type 0
  Mine = Me (Option V) (HandleView E O)

  pub takes_ticket : (slots id : ℕ) (me : Mine) → me.0.marked ≡ false → me.0.ticket ≡ None
      → Allows Rule slots id me 1 (λ n. (n + 1) % 2 ^ 64) (TakesTicket (step slots 1 1 0 none) me)
  takes_ticket slots id me unmarked free s h deep at small =
      let c : LockState E = h.lock in let v : HandleView E O = me.0 in let t : ℕ = c.issued in let n : ℕ = (get_or s.words 1 0 + 1) % 2 ^ 64 in
      let w : HandleView E O = record v { ticket = Some t } in
      let c' : LockState E = record c { issued = t + 1; holder = put c.holder t id } in let k = h.each id v at in let wide =
      h.wide in let is = h.tickets in let queue = h.queue in
      let next : get_or (set s.words 1 n) 0 0 ≡ get_or s.words 0 0 = get_or-set_other s.words 1 0 n 0 (omega arith) in
      let K : ℕ → HandleView E O → Type 0 = IsSound {V = V} {E = E} {O = O} number start c' (get_or (set s.words 1 n) 0 0) s.homes in
      let none' : (r : ℕ) → v.ticket ≢ Some r = (λ r e. let no : None ≡ Some r = sym free ∙ e in absurd (cc)) in (
        w,
        keeps,
        tt,
        record {
          lock = c';
          wide = length-set s.words 1 n ∙ h.wide;
          deep = h.deep;
          tickets = get_or-set_same s.words 1 n 0 (omega arith) ∙ (let g : n ≡ (t + 1) % 2 ^ 64 = omega arith in g);
          turns = get_or-set_other s.words 1 2 n 0 (omega arith) ∙ h.turns;
          queue = let more = waiting_set s.views id v w at in let none'' : count_some v.ticket ≡ 0 = ap count_some free in omega arith;
          queued = λ r low high. dite (ℕ_discrete r t)
              (λ new. (
                w,
                ap (get_elem? (set s.views id w)) (ap (put c.holder t id) new ∙ put_here c.holder t id) ∙ set_at s.views id v w at,
                ap Some (sym new),
              ))
              (λ old. subst (λ (z : ℕ). IsAt (set s.views id w) z (λ u. u.ticket ≡ Some r)) (sym (put_else c.holder t id r old))
              (at_stays (λ u. u.ticket ≡ Some r) s.views id v w (c.holder r) at (λ _ e. absurd (none' r e)) (h.queued r low (omega arith))));
          bounded = (rw (length-set s.views id w) h.bounded.0, h.bounded.1);
          numbered = h.numbered;
          keepers = λ m l. at_stays (λ u. Contains (numbers_of u.own) m) s.views id v w (c.keeper m) at (λ _ p. p) (h.keepers m l);
          each = each_stays K s.views id w record {
            observed = k.observed;
            joined = k.joined;
            origin = k.origin;
            own = All-weaker (Keeps number c id v.observed) (Keeps number c' id v.observed)
                (λ o p. record { low = p.low; keeper = p.keeper; seen = p.seen; whole = p.whole }) v.own k.own;
            ticket = λ r e. let same : t ≡ r = ap (value_of t) e in (
              (let queued : c.served ≤ t = omega arith in let g : c.served ≤ r = omega arith in g),
              (let g : r < t + 1 = omega arith in g),
              ap (put c.holder t id) (sym same) ∙ put_here c.holder t id,
            );
            mark = λ m. let no : true ≡ false = sym m ∙ unmarked in absurd (cc);
            draws = λ r. let q = k.draws r in (q.0, q.1, next ∙ q.2);
          } (λ j u other e. let x = h.each j u e in record {
            observed = x.observed;
            joined = x.joined;
            origin = x.origin;
            own = All-weaker (Keeps number c j u.observed) (Keeps number c' j u.observed)
                (λ o p. record { low = p.low; keeper = p.keeper; seen = p.seen; whole = p.whole }) u.own x.own;
            ticket = λ r e'. let q = x.ticket r e' in let q₁ = q.1 in
                (q.0, (let g : r < t + 1 = omega arith in g), put_else c.holder t id r (λ b. omega arith) ∙ q.2);
            mark = x.mark;
            draws = λ r. let q = x.draws r in (q.0, q.1, next ∙ q.2);
          });
          home = λ all. h.home (none_marked s.views id v w at unmarked all);
        },
        (t, h.tickets, refl),
      )

  pub looks_for_turn : (slots id : ℕ) (me : Mine) (t : ℕ) → me.1 ≡ [] → me.0.marked ≡ false → me.0.ticket ≡ Some t
      → Allows Rule slots id me 2 (λ n. n) (LooksForTurn origin entries number (step slots 2 0 0 none) me)
  looks_for_turn slots id me t bare unmarked is s h deep at small =
      let c : LockState E = h.lock in let v : HandleView E O = me.0 in let n : ℕ = get_or s.words 2 0 in let k = h.each id v at in
      let here = h.deep in dite (ℕ_discrete n (t % 2 ^ 64))
      (λ hit. let q = k.ticket t is in let q₀ = q.0 in let q₁ = q.1 in let fits = waiting_fits s.views in let queue = h.queue in
      let bounded₀ = h.bounded.0 in let bounded₁ = h.bounded.1 in
      let my_turn : c.served ≡ t = one_turn c.served t (2 ^ 64) (omega arith) (omega arith) (sym h.turns ∙ hit) in
      let none' : (j : ℕ) (u : HandleView E O) → get_elem? s.views j ≡ some u → u.marked ≡ false =
      (λ j u a. ⊎_elim (λ (m : u.marked ≡ true). let g = h.each j u a in let mk = (g.mark m).0 in let tk = g.ticket c.served mk in
      let same : j ≡ id = sym tk.2 ∙ (ap c.holder my_turn ∙ q.2) in
      ap (λ (z : HandleView E O). z.marked) (some-injective u v (sym a ∙ (ap (get_elem? s.views) same ∙ at))) ∙ unmarked)
      (λ (m : u.marked ≡ false). m) (cases_Bool u.marked)) in
      let home = h.home none' in let x : V = home.0 in let w : HandleView E O = record v { observed = entries x; joined = []; marked = true } in
      let homes' = set s.homes 0 none in
      let K : ℕ → HandleView E O → Type 0 = IsSound {V = V} {E = E} {O = O} number start c (get_or s.words 0 0) homes' in (
        w,
        takes 0 (Some x),
        home.1,
        subst (λ (ws : List ℕ). Rule record { words = ws; homes = homes'; views = set s.views id w }) (sym (set-get_or s.words 2 0)) record {
          lock = c;
          wide = h.wide;
          deep = length-set s.homes 0 none ∙ h.deep;
          tickets = h.tickets;
          turns = h.turns;
          queue = let more = waiting_set s.views id v w at in omega arith;
          queued = λ r low high. at_stays (λ u. u.ticket ≡ Some r) s.views id v w (c.holder r) at (λ _ e. e) (h.queued r low high);
          bounded = (rw (length-set s.views id w) h.bounded.0, h.bounded.1);
          numbered = h.numbered;
          keepers = λ m l. at_stays (λ u. Contains (numbers_of u.own) m) s.views id v w (c.keeper m) at (λ _ p. p) (h.keepers m l);
          each = each_stays K s.views id w record {
            observed = subst (λ (l : List E). IsPrefix l c.published) (sym home.2) (prefix_refl c.published);
            joined = All-nil (λ (l : List E). IsPrefix l (entries x));
            origin = k.origin;
            own = All-weaker (Keeps number c id v.observed) (Keeps number c id (entries x))
                (λ o p. record {
                  low = p.low;
                  keeper = p.keeper;
                  seen = p.whole ∙ ap (entries_by number o.number) (sym home.2);
                  whole =
                      p.whole;
                }) v.own k.own;
            ticket = k.ticket;
            mark = λ _. (is ∙ ap Some (sym my_turn), home.2, set_here s.homes 0 none (omega arith));
            draws = k.draws;
          } (λ j u other e. let y = h.each j u e in stays_sound number start c c.given c.keeper (get_or s.words 0 0) (get_or s.words 0 0) s.homes homes'
              j u y y.own (λ m. let no : true ≡ false = sym m ∙ none' j u e in absurd (cc)) y.draws);
          home = λ all. let no : true ≡ false = all id w (set_at s.views id v w at) in absurd (cc);
        },
        (λ t' is'. let same : t ≡ t' = ap (value_of t) (sym is ∙ is') in (
          λ _. (
            x,
            ap (λ (cs : List (ℕ × Option V)). (0, Some x) ∷ cs) bare,
            record {
              view = refl;
              observed = subst (λ (l : List E). IsPrefix v.observed l) (sym home.2) k.observed;
              exact = All-weaker (Keeps number c id v.observed) (IsExact number (entries x))
                  (λ o p. p.whole ∙ ap (entries_by number o.number) (sym home.2)) v.own k.own;
              same_origin = λ o e. home.3 ∙ sym (k.origin o e);
            },
          ),
          λ no. absurd (no (hit ∙ ap (λ (z : ℕ). z % 2 ^ 64) same)),
        )),
      ))
      (λ miss. (
        v,
        keeps,
        tt,
        subst (λ (z : List ℕ × List (HandleView E O)). Rule record { words = z.0; homes = s.homes; views = z.1 })
            (λ i. (sym (set-get_or s.words 2 0) i, sym (set_again s.views id v at) i)) h,
        (λ t' is'. let same : t' ≡ t = ap (value_of t) (sym is' ∙ is) in ((λ e. absurd (miss (e ∙ ap (λ (z : ℕ). z % 2 ^ 64) same))), λ _. refl)),
      ))

  pub calls_sleepers : (slots id : ℕ) (me : Mine) (word : ℕ) → 3 ≤ word → Allows Rule slots id me word (λ n. (n + 1) % 2 ^ 64)
      (CallsSleepers (step slots word 1 0 none) me)
  calls_sleepers slots id me word high s h deep at small =
      let n : ℕ = (get_or s.words word 0 + 1) % 2 ^ 64 in let stays : (i : ℕ) → i < 3 → get_or (set s.words word n) i 0 ≡ get_or s.words i 0 =
      (λ i low. get_or-set_other s.words word i n 0 (omega arith)) in (
        me.0,
        keeps,
        tt,
        subst (λ (vs : List (HandleView E O)). Rule record { words = set s.words word n; homes = s.homes; views = vs })
            (sym (set_again s.views id me.0 at)) record {
              lock = h.lock;
              wide = length-set s.words word n ∙ h.wide;
              deep = h.deep;
              tickets = stays 1 (omega arith) ∙ h.tickets;
              turns = stays 2 (omega arith) ∙ h.turns;
              queue = h.queue;
              queued = h.queued;
              bounded = h.bounded;
              numbered = h.numbered;
              keepers = h.keepers;
              each = λ j u e. subst (λ (drawn : ℕ). IsSound {V = V} {E = E} {O = O} number start h.lock drawn s.homes j u)
                  (sym (stays 0 (omega arith))) (h.each j u e);
              home = h.home;
            },
        refl,
      )

  pub passes_turn : (slots id : ℕ) (me : Mine) (x : V) (m : ℕ) → me.1 ≡ (0, Some x) ∷ [] → me.0.marked ≡ true → me.0.origin ≡ Some (origin x)
      → Contains (numbers_of me.0.own) m → Appends number m me.0.observed (entries x)
      → Allows Rule slots id me 2 (λ n. (n + 1) % 2 ^ 64) (PassesTurn entries number (step slots 2 1 0 none) me)
  passes_turn slots id me x m carried marked from keeps_it grown₀ s h deep at small =
      let c : LockState E = h.lock in let v : HandleView E O = me.0 in let n : ℕ = (get_or s.words 2 0 + 1) % 2 ^ 64 in let k =
      h.each id v at in let mk = k.mark marked in let q = k.ticket c.served mk.0 in
      let here = h.deep in let wide = h.wide in let is = h.turns in let queue = h.queue in
      let grown : Appends number m c.published (entries x) = subst (λ (l : List E). Appends number m l (entries x)) mk.1 grown₀ in
      let mine = at_number number (λ b. (b < c.given) × (c.keeper b ≡ id)) v.own m
      (All-weaker (Keeps number c id v.observed) (λ o. (o.number < c.given) × (c.keeper o.number ≡ id))
      (λ o p. (p.low, p.keeper)) v.own k.own) keeps_it in let low = mine.0 in
      let w : HandleView E O = view_after_turn number (entries x) v in let c' : LockState E =
      record c { published = entries x; served = c.served + 1 } in let homes' = set s.homes 0 (some (Some x)) in
      let next : get_or (set s.words 2 n) 0 0 ≡ get_or s.words 0 0 = get_or-set_other s.words 2 0 n 0 (omega arith) in
      let K : ℕ → HandleView E O → Type 0 = IsSound {V = V} {E = E} {O = O} number start c' (get_or (set s.words 2 n) 0 0) homes' in (
        w,
        gives,
        tt,
        subst (λ (cs : List (ℕ × Option V)). Rule (stepped s 2 n id cs w gives)) (sym carried) record {
          lock = c';
          wide = length-set s.words 2 n ∙ h.wide;
          deep = length-set s.homes 0 (some (Some x)) ∙ h.deep;
          tickets = get_or-set_other s.words 2 1 n 0 (omega arith) ∙ h.tickets;
          turns = get_or-set_same s.words 2 n 0 (omega arith) ∙ (let g : n ≡ (c.served + 1) % 2 ^ 64 = omega arith in g);
          queue = let more = waiting_set s.views id v w at in let one : count_some v.ticket ≡ 1 = ap count_some mk.0 in
              let g : c.served + 1 + waiting (set s.views id w) ≡ c.issued = omega arith in g;
          queued = λ r low' high. at_stays (λ u. u.ticket ≡ Some r) s.views id v w (c.holder r) at
              (λ _ e. let same : c.served ≡ r = ap (value_of r) (sym mk.0 ∙ e) in absurd (omega arith)) (h.queued r (omega arith) high);
          bounded = (rw (length-set s.views id w) h.bounded.0, h.bounded.1);
          numbered = All-same (λ a. number a < c.given) (entries x) (c.published ++ grown.0) grown.2 (⊎_elim
              (λ (e : grown.0 ≡ []). All-same (λ a. number a < c.given) (c.published ++ grown.0) c.published
              (ap (λ (l : List E). c.published ++ l) e ∙ append-nil c.published) h.numbered)
              (λ (e : (a : E) × (number a ≡ m) × (grown.0 ≡ a ∷ [])). All-same (λ a. number a < c.given) (c.published ++ grown.0)
              (c.published ++ e.0 ∷ []) (ap (λ (l : List E). c.published ++ l) e.2)
              (All-push (λ a. number a < c.given) c.published e.0 h.numbered (subst (λ (z : ℕ). z < c.given) (sym e.1) low))) grown.1);
          keepers = λ b l. at_stays (λ u. Contains (numbers_of u.own) b) s.views id v w (c.keeper b) at
              (λ _ p. subst (λ (z : List ℕ). Contains z b) (sym (numbers_of-exact number (entries x) v.own)) p) (h.keepers b l);
          each = each_stays K s.views id w record {
            observed = prefix_refl (entries x);
            joined = All-nil (λ (l : List E). IsPrefix l (entries x));
            origin = k.origin;
            own = All-map (Keeps number c' id (entries x)) (exact_list number (entries x)) v.own
                (All-weaker (Keeps number c id v.observed) (λ o. Keeps number c' id (entries x) (exact_list number (entries x) o))
                (λ o p. record { low = p.low; keeper = p.keeper; seen = refl; whole = refl }) v.own k.own);
            ticket = λ r e. absurd (cc);
            mark = λ no. absurd (cc);
            draws = λ r. let g = k.draws r in (g.0, g.1, next ∙ g.2);
          } (λ j u other e. let y = h.each j u e in let apart : (r : ℕ) → u.ticket ≡ Some r → r ≢ c.served =
              (λ r l b. other (sym (y.ticket r l).2 ∙ (ap c.holder b ∙ q.2))) in record {
                observed = appends_prefix number m u.observed c.published (entries x) y.observed grown;
                joined = y.joined;
                origin = y.origin;
                own = All-weaker (Keeps number c j u.observed) (Keeps number c' j u.observed)
                    (λ o p. record {
                      low = p.low;
                      keeper = p.keeper;
                      seen = p.seen;
                      whole =
                          p.whole ∙ sym (entries_by-stay number o.number m c.published (entries x)
                          (λ z. other (sym p.keeper ∙ (ap c.keeper z ∙ mine.1))) grown);
                    }) u.own y.own;
                ticket = λ r l. let g = y.ticket r l in let g₀ = g.0 in let far = apart r l in ((let b : c.served + 1 ≤ r = omega arith in b), g.1, g.2);
                mark = λ m'. let b = (y.mark m').0 in absurd (apart c.served b refl);
                draws = λ r. let g = y.draws r in (g.0, g.1, next ∙ g.2);
              });
          home = λ _. (x, set_here s.homes 0 (some (Some x)) (omega arith), refl, k.origin (origin x) from);
        },
        (λ y is'. let same : x ≡ y = ap (value_or x) (sym carried ∙ is') in λ i. (view_after_turn number (entries (same i)) v, rest (carried i))),
      )
