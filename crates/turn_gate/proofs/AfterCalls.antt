-- What a handle knows after a turn and after a join.
use mathlib.Core.List.{IsPrefix, map-append}
use Rattle.std.proofs.Common.{◌≡◌, ℕ, ◌||◌, if◌then◌else◌, Bool, List, [], map, All, Contains, sym, refl, ap, ◌∙◌, subst}
use Rattle.std.proofs.lemmas.List.Elements.{All-map, All-weaker, Contains-append_left}
use Rattle.turn_gate.specs.declared.view.HandleView.{HandleView}
use Rattle.turn_gate.specs.declared.view.OwnList.{OwnList}
use Rattle.turn_gate.specs.Histories.{numbers_of, IsExact, exact_list, extended, Appends}
use Rattle.turn_gate.specs.Outcomes.{HasTurn, AreCompared, joined_view, view_after_turn}
use Rattle.turn_gate.specs.Handles.{HandleState, TakesTurn, KeepsNumber, IsDrawer}
use Rattle.turn_gate.proofs.Entries.{numbers_of-exact, exact_lists-extended}

module _ {V E O : Type 0} (origin : V → O) (entries : V → List E) (number : E → ℕ) where
  -- v is the view before the turn, w the one in it and u the one after it; the operation made y of x
  module _ (v w u : HandleView E O) (x y : V) (n : ℕ) where
    pub turn_taken : (relates : List E → List E → Type 0) (old new : HandleState E O) → HasTurn origin entries number v w x
        → Appends number n (entries x) (entries y) → relates (entries x) (entries y) → u ≡ view_after_turn number (entries y) w
        → old.number ≡ n → old.observed ≡ v.observed → old.own ≡ v.own → new.observed ≡ u.observed → new.own ≡ u.own → TakesTurn number relates old new
    turn_taken relates old new has grown told last is_n is_observed is_own is_observed' is_own' =
        let observed : new.observed ≡ entries y = is_observed' ∙ ap (λ z. z.observed) last in
        let own : u.own ≡ map (exact_list number (entries y)) v.own = ap (λ z. z.own) last ∙ ap (λ z. map (exact_list number (entries y)) z.own) has.view in
        let renewed : u.own ≡ map (extended n grown.0) v.own =
        own ∙ (ap (λ (l : List E). map (exact_list number l) v.own) grown.2 ∙ exact_lists-extended number n
        (entries x) grown.0 v.own grown.1 has.exact) in record {
          before = entries x;
          added = grown.0;
          begins = subst (λ (l : List E). IsPrefix l (entries x)) (sym is_observed) has.observed;
          relation = subst (λ (l : List E). relates (entries x) l) (sym observed) told;
          own_entry = subst (λ (m : ℕ). Rattle.turn_gate.specs.Histories.IsAtMostOne number m grown.0) (sym is_n) grown.1;
          observed = observed ∙ grown.2;
          own = is_own' ∙ (renewed ∙ λ i. map (extended (sym is_n i) grown.0) (sym is_own i));
        }

    pub turn_kept : (given : ℕ) → HasTurn origin entries number v w x → u ≡ view_after_turn number (entries y) w → KeepsNumber v n
        → IsDrawer v n given → KeepsNumber u n × IsDrawer u n given × All (IsExact number u.observed) u.own
    turn_kept given has last keeps draws =
        let P : HandleView E O → Type 0 = (λ z. KeepsNumber z n × IsDrawer z n given × All (IsExact number z.observed) z.own) in
        subst P (sym (last ∙ ap (view_after_turn number (entries y)) has.view)) (
          subst (λ (l : List ℕ). Contains l n) (sym (numbers_of-exact number (entries y) v.own)) keeps,
          draws,
          All-map (IsExact number (entries y)) (exact_list number (entries y)) v.own
              (All-weaker (IsExact number (entries x)) (λ o. IsExact number (entries y) (exact_list number (entries y) o))
              (λ o p. refl) v.own has.exact),
        )

module _ {E O : Type 0} (number : E → ℕ) (v w j u : HandleView E O) (n given : ℕ) where
  pub join_kept : j ≡ joined_view v w → u ≡ record j { joined = [] } → AreCompared number j → KeepsNumber v n → IsDrawer v n given
      → KeepsNumber u n × IsDrawer u n given × All (IsExact number u.observed) u.own
  join_kept is_j is_u told keeps draws =
      let P : HandleView E O → Type 0 = (λ z. KeepsNumber z n × IsDrawer z n given) in
      let both : P (joined_view v w) = (
        subst (λ (l : List ℕ). Contains l n) (sym (map-append (λ (o : OwnList E). o.number) v.own w.own))
            (Contains-append_left (numbers_of v.own) (numbers_of w.own) n keeps),
        (
          (λ zero'. let d = draws.0 zero' in (
            ap (λ (b : Bool). b || w.draws) d.0,
            ap (λ (b : Bool). if b then v.given else w.given) d.0 ∙ d.1,
            ap (λ (b : Bool). if b then v.drawn else w.drawn) d.0 ∙ d.2,
          )),
          draws.1,
        ),
      ) in
      let at_j : P j = subst P (sym is_j) both in
      subst (λ (z : HandleView E O). KeepsNumber z n × IsDrawer z n given × All (IsExact number z.observed) z.own) (sym is_u) (at_j.0, at_j.1, told.0)
