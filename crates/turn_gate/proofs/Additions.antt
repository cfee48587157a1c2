-- For a crate above: what a turn added, where the operation's relation tells the history after it.
use Rattle.std.proofs.Common.{◌≡◌, ◌==◌, ℕ, Bool, List, [], ◌∷◌, ◌++◌, if◌then◌else◌, true, false, map, sym, refl, ap, ◌∙◌, ⊎_elim, append-nil}
use Rattle.std.proofs.lemmas.Bool.{cases_Bool}
use mathlib.Core.Option.{some-injective}
use lib.ListN.{get_elem?}
use Rattle.turn_gate.specs.declared.view.OwnList.{OwnList}
use Rattle.turn_gate.specs.Histories.{extended}
use Rattle.turn_gate.specs.Handles.{HandleState, TakesTurn}

module _ {A : Type 0} where
  pub same_rest : (front xs ys : List A) → front ++ xs ≡ front ++ ys → xs ≡ ys
  same_rest [] xs ys e = e
  same_rest (x ∷ front) xs ys e = same_rest front xs ys (cc e)

  same_one : (x y : A) → x ∷ [] ≡ y ∷ [] → x ≡ y
  same_one x y e = some-injective x y (ap (λ (l : List A). get_elem? l 0) e)

own_lists-unextended : {E : Type 0} (n : ℕ) (own : List (OwnList E)) → map (extended n []) own ≡ own
own_lists-unextended n [] = refl
own_lists-unextended n (o ∷ os) = λ i. first i ∷ own_lists-unextended n os i
  where
    longer_by_none : record o { entries = o.entries ++ [] } ≡ o
    longer_by_none i = record o { entries = append-nil o.entries i }

    first : extended n [] o ≡ o
    first = ⊎_elim
        (λ (e : (o.number == n) ≡ true). ap (λ (b : Bool). if b then record o { entries = o.entries ++ [] } else o) e ∙ longer_by_none)
        (λ (e : (o.number == n) ≡ false). ap (λ (b : Bool). if b then record o { entries = o.entries ++ [] } else o) e)
        (cases_Bool (o.number == n))

module _ {E O : Type 0} (number : E → ℕ) (relates : List E → List E → Type 0) (old new : HandleState E O) (t : TakesTurn number relates old new) where
  -- an entry that came bears the handle's number, and its own list has it
  pub added_one : (e : E) → new.observed ≡ t.before ++ e ∷ [] → (number e ≡ old.number) × (new.own ≡ map (extended old.number (e ∷ [])) old.own)
  added_one e is =
      let only : t.added ≡ e ∷ [] = same_rest t.before t.added (e ∷ []) (sym t.observed ∙ is) in (
        ⊎_elim (λ (no : t.added ≡ []). let nothing : e ∷ [] ≡ [] = sym only ∙ no in absurd (cc nothing))
            (λ (a : (x : E) × (number x ≡ old.number) × (t.added ≡ x ∷ [])). ap number (same_one e a.0 (sym only ∙ a.2)) ∙ a.1) t.own_entry,
        t.own ∙ ap (λ (l : List E). map (extended old.number l) old.own) only,
      )

  -- where none came, own lists are as they were
  pub added_none : new.observed ≡ t.before → new.own ≡ old.own
  added_none is =
      let none' : t.added ≡ [] = same_rest t.before t.added [] (sym t.observed ∙ (is ∙ sym (append-nil t.before))) in
      t.own ∙ (ap (λ (l : List E). map (extended old.number l) old.own) none' ∙ own_lists-unextended old.number old.own)
