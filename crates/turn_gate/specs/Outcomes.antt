-- What each step of the rule tells the handle that makes it.
use mathlib.Core.List.{IsPrefix}
use Rattle.std.specs.Prelude.{◌≡◌, ◌≢◌, ℕ, ◌+◌, ◌%◌, ◌^◌, true, false, List, [], ◌∷◌, ◌++◌, ◌||◌, if◌then◌else◌, map, All, Option, Some, None}
use Rattle.atomic_table.specs.Table.{Me, Step}
use Rattle.turn_gate.specs.declared.view.HandleView.{HandleView}
use Rattle.turn_gate.specs.Histories.{longer, exact_list, IsExact}

-- a view after its turn, where the value's history is now es
abbrev pub view_after_turn : {E O : Type 0} → (E → ℕ) → List E → HandleView E O → HandleView E O
view_after_turn number es v = record v { observed = es; joined = []; own = map (exact_list number es) v.own; ticket = None; marked = false }

-- The turn has come, and the value is x: its history goes on from what was observed, and has no entry of the kept numbers that isn't in their own lists.
pub record HasTurn {V E O : Type 0} (origin : V → O) (entries : V → List E) (number : E → ℕ) (before after : HandleView E O) (x : V) : Type 0 where
  pub view : after ≡ record before { observed = entries x; joined = []; ticket = after.ticket; marked = true }
  pub observed : IsPrefix before.observed (entries x)
  pub exact : All (IsExact number (entries x)) before.own
  pub same_origin : (o : O) → before.origin ≡ Some o → origin x ≡ o

-- own lists are exact, and what was joined begins what is observed
abbrev pub AreCompared : {E O : Type 0} → (E → ℕ) → HandleView E O → Type 0
AreCompared number v = All (IsExact number v.observed) v.own × All (λ front. IsPrefix front v.observed) v.joined

module _ {E O : Type 0} where
  -- the view that drew a number, when it is given to a new handle
  abbrev pub giving_view : HandleView E O → HandleView E O
  giving_view v = record v { given = v.given + 1; drawn = false }

  -- the view of that new handle
  abbrev pub new_view : HandleView E O → HandleView E O
  new_view v = record {
    observed = v.observed;
    joined = [];
    own = record { number = v.given; entries = [] } ∷ [];
    ticket =
        None;
    marked = false;
    draws = false;
    given = 0;
    drawn = false;
    origin = v.origin;
  }

  -- two views made one: the longer history, the own lists of both, and the right to draw if either had it
  abbrev pub joined_view : HandleView E O → HandleView E O → HandleView E O
  joined_view v w = record v {
    observed = longer v.observed w.observed;
    joined = v.observed ∷ w.observed ∷ [];
    own = v.own ++ w.own;
    draws =
        v.draws || w.draws;
    given = if v.draws then v.given else w.given;
    drawn = if v.draws then v.drawn else w.drawn;
  }

  -- the other view, which keeps nothing
  abbrev pub spent_view : HandleView E O
  spent_view = record { observed = []; joined = []; own = []; ticket = None; marked = false; draws = false; given = 0; drawn = false; origin = None }

module _ {V E O : Type 0} where
  -- the number found is the ticket, but for multiples of 2 ^ 64
  abbrev pub TakesTicket : Step (Option V) → Me (Option V) (HandleView E O) → ℕ → Me (Option V) (HandleView E O) → Type 0
  TakesTicket s before found after = (t : ℕ) × (found ≡ t % 2 ^ 64) × (after ≡ (record before.0 { ticket = Some t }, before.1))

  -- the value comes to the handle if the number found is its ticket
  abbrev pub LooksForTurn : (V → O) → (V → List E) → (E → ℕ) → Step (Option V) → Me (Option V) (HandleView E O) → ℕ → Me (Option V) (HandleView E O) → Type 0
  LooksForTurn origin entries number s before found after = (t : ℕ) → before.0.ticket ≡ Some t
      → (found ≡ t % 2 ^ 64 → (x : V) × (after.1 ≡ (0, Some x) ∷ []) × HasTurn origin entries number before.0 after.0 x) × (found ≢ t % 2 ^ 64 → after ≡ before)

  -- the handle has observed the history of the value that it gave back
  abbrev pub PassesTurn : (V → List E) → (E → ℕ) → Step (Option V) → Me (Option V) (HandleView E O) → ℕ → Me (Option V) (HandleView E O) → Type 0
  PassesTurn entries number s before found after = (x : V) → before.1 ≡ (0, Some x) ∷ [] → after ≡ (view_after_turn number (entries x) before.0, [])

  -- nothing that the rule speaks of changes
  abbrev pub CallsSleepers : Step (Option V) → Me (Option V) (HandleView E O) → ℕ → Me (Option V) (HandleView E O) → Type 0
  CallsSleepers s before found after = after ≡ before

  abbrev pub DrawsNumber : Step (Option V) → Me (Option V) (HandleView E O) → ℕ → Me (Option V) (HandleView E O) → Type 0
  DrawsNumber s before found after = after ≡ (record before.0 { drawn = true }, before.1)

  abbrev pub ComparesHistories : (E → ℕ) → Step (Option V) → Me (Option V) (HandleView E O) → ℕ → Me (Option V) (HandleView E O) → Type 0
  ComparesHistories number s before found after = (after ≡ (record before.0 { joined = [] }, before.1)) × AreCompared number before.0
