-- What contracts see of a handle, and what the calls of the lock do to it.
use mathlib.Core.Bool.{false≢true}
use mathlib.Core.List.{IsPrefix}
use Rattle.std.specs.Prelude.{◌≡◌, ℕ, ◌+◌, ◌<◌, true, false, List, [], ◌∷◌, ◌++◌, map, Contains, Option, Some, None, IsSome}
use Rattle.atomic_table.specs.Seated.{TableId}
use Rattle.atomic_table.specs.declared.shared.Seat.{Seat}
use Rattle.turn_gate.specs.declared.view.HandleView.{HandleView}
use Rattle.turn_gate.specs.declared.view.OwnList.{OwnList}
use Rattle.turn_gate.specs.Histories.{numbers_of, extended, IsAtMostOne}
use Rattle.turn_gate.specs.TicketLockRule.{IsFree}

-- which lock it is
abbrev pub GateId : Type 0
GateId = TableId

pub record HandleState (E O : Type 0) : Type 0 where
  -- the lock that it belongs to
  pub gate : GateId
  -- its number, and how many handles it has given out
  pub number : ℕ
  pub given : ℕ
  -- the initial state of the lock's value
  pub origin : O
  -- the beginning of the history that it has observed
  pub observed : List E
  -- its own operations, for each number that it keeps
  pub own : List (OwnList E)

abbrev pub no_operations : {E : Type 0} → ℕ → OwnList E
no_operations n = record { number = n; entries = [] }

module _ {E O : Type 0} where
  -- the handle that comes with a new lock
  abbrev pub first_handle : GateId → O → HandleState E O
  first_handle gate origin = record { gate = gate; number = 0; given = 0; origin = origin; observed = []; own = no_operations 0 ∷ [] }

  -- the handle that the root gives out next
  abbrev pub new_handle : HandleState E O → HandleState E O
  new_handle root = record {
    gate = root.gate;
    number = root.given + 1;
    given = 0;
    origin = root.origin;
    observed = root.observed;
    own =
        no_operations (root.given + 1) ∷ [];
  }

-- One turn of a handle: the history when it came begins with what the handle had observed, and the handle has observed it with what the operation added.
pub record TakesTurn {E O : Type 0} (number : E → ℕ) (relates : List E → List E → Type 0) (old new : HandleState E O) : Type 0 where
  -- the value's history when the turn came, and what the operation added to it
  pub before : List E
  pub added : List E
  pub begins : IsPrefix old.observed before
  pub relation : relates before new.observed
  pub own_entry : IsAtMostOne number old.number added
  pub observed : new.observed ≡ before ++ added
  -- the own list of the handle's number has what was added, and the others stay
  pub own : new.own ≡ map (extended old.number added) old.own

-- the initial state, where it is told
abbrev pub told_origin : {O : Type 0} → (o : Option O) → IsSome o → O
told_origin (Some o) is = o
told_origin None is = absurd (false≢true is)

module _ {V E O : Type 0} where
  -- between two calls a place is free, has nothing to compare, and knows the initial state
  abbrev pub IsIdle : Seat (Option V) (HandleView E O) → Type 0
  IsIdle place = IsFree place × (place.me.0.joined ≡ []) × IsSome place.me.0.origin

  abbrev pub state_of : (place : Seat (Option V) (HandleView E O)) → ℕ → ℕ → IsIdle place → HandleState E O
  state_of place number given idle = record {
    gate = place.table_id;
    number = number;
    given = given;
    origin =
        told_origin place.me.0.origin idle.2;
    observed = place.me.0.observed;
    own = place.me.0.own;
  }

module _ {E O : Type 0} where
  abbrev pub KeepsNumber : HandleView E O → ℕ → Type 0
  KeepsNumber v n = Contains (numbers_of v.own) n

  -- the handle with number 0 draws numbers, and has given out all but its own; the others give out none
  abbrev pub IsDrawer : HandleView E O → ℕ → ℕ → Type 0
  IsDrawer v number given = (number ≡ 0 → (v.draws ≡ true) × (v.given ≡ given + 1) × (v.drawn ≡ false)) × (0 < number → given ≡ 0)
