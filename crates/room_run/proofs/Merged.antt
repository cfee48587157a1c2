-- One desk that takes over others.
use mathlib.Core.List.{IsPrefix}
use Rattle.std.proofs.Common.{◌≡◌, List, [], ◌∷◌, ◌++◌, All, map, sym, ◌∙◌, subst}
use Rattle.std.proofs.lemmas.List.{map-append}
use Rattle.std.proofs.lemmas.List.Elements.{All-from_recursion, All-nil, All-push, recursion_from_All}
use Rattle.cell_spec.proofs.EachItem.{each_back, each_front}
use Rattle.turn_gate.proofs.Prefixes.{prefix_trans}
use Rattle.turn_gate.specs.Histories.{IsExact}
use Rattle.workroom.specs.Desks.{DeskState, merged_desk}
use Rattle.workroom.specs.Turns.{desk_of}
use Rattle.room_run.specs.Rooms.{IsHeldIn, KeepsDesks, outcome_of}
use Rattle.room_run.specs.declared.compiler.Compiler.{Compiler}
use Rattle.room_run.specs.declared.gather.Outcome.{Outcome}

pub left_all : {X : Type 0} (P : X → Type 0) (xs ys : List X) → All P (xs ++ ys) → All P xs
left_all P xs ys all = All-from_recursion P xs (each_front P xs ys (recursion_from_All P (xs ++ ys) all))

pub right_all : {X : Type 0} (P : X → Type 0) (xs ys : List X) → All P (xs ++ ys) → All P ys
right_all P xs ys all = All-from_recursion P ys (each_back P xs ys (recursion_from_All P (xs ++ ys) all))

-- one desk more is taken over
pub keeps_more : (first old new : DeskState) (ks : List Compiler) (k : Compiler) → KeepsDesks first ks old → new ≡ merged_desk old k.desk
    → IsPrefix old.seen new.seen → IsPrefix k.desk.seen new.seen
    → KeepsDesks first (ks ++ k ∷ []) new
keeps_more first old new ks k keeps merged begins from_begins = λ history held.
    let own : All (IsExact desk_of history) (old.own ++ k.desk.own) = subst (λ (d : DeskState). All (IsExact desk_of history) d.own) merged held.exact in
    let before = keeps history (record {
      begins = prefix_trans old.seen new.seen history begins held.begins;
      exact =
          left_all (IsExact desk_of history) old.own k.desk.own own;
    }) in
    let one : IsHeldIn history k.desk = record {
      begins = prefix_trans k.desk.seen new.seen history from_begins held.begins;
      exact =
          right_all (IsExact desk_of history) old.own k.desk.own own;
    } in
    (before.0, All-push (λ (x : Compiler). IsHeldIn history x.desk) ks k before.1 one)

pub keeps_none : (d : DeskState) → KeepsDesks d [] d
keeps_none d = λ history held. (held, All-nil (λ (x : Compiler). IsHeldIn history x.desk))

pub outcomes_more : (outcomes : List Outcome) (ks : List Compiler) (k : Compiler) (o : Outcome) → outcomes ≡ map outcome_of ks
    → o ≡ outcome_of k → outcomes ++ o ∷ [] ≡ map outcome_of (ks ++ k ∷ [])
outcomes_more outcomes ks k o are is = (λ i. are i ++ is i ∷ []) ∙ sym (map-append outcome_of ks (k ∷ []))
