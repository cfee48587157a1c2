-- The rule of the ticket lock: what is true of its words, its slot and the views of its handles between any two steps. This project's own rule.
-- Word 0 counts the numbers drawn, word 1 the tickets taken and word 2 the turns that are over, each modulo 2 ^ 64. Of the other words, on
-- which those who wait sleep, the rule says nothing. The slot holds the value, or is out with the handle whose turn it is.
use mathlib.Core.List.{IsPrefix}
use mathlib.Core.Option.{some, none}
use mathlib.Core.Option as maybe
use lib.ListN.{get_elem?}
use Rattle.std.specs.Prelude.{◌≡◌, ℕ, ◌+◌, ◌%◌, ◌^◌, ◌<◌, ◌≤◌, Bool, true, false, List, [], ◌∷◌, length, slice_index, All, Contains, Option, Some, None}
use Rattle.atomic_table.specs.Table.{State}
use Rattle.atomic_table.specs.Seated.{TableId}
use Rattle.atomic_table.specs.declared.shared.Seat.{Seat}
use Rattle.turn_gate.specs.declared.view.HandleView.{HandleView}
use Rattle.turn_gate.specs.declared.view.OwnList.{OwnList}
use Rattle.turn_gate.specs.Histories.{numbers_of, Appends, IsExact}

-- What no word says.
pub record LockState (E : Type 0) : Type 0 where
  -- the longest history that was observed
  pub published : List E
  -- the numbers below it are kept by a view
  pub given : ℕ
  -- how many tickets were taken, and how many turns are over
  pub issued : ℕ
  pub served : ℕ
  -- by number: the view that keeps it
  pub keeper : ℕ → ℕ
  -- by ticket: the view that holds it
  pub holder : ℕ → ℕ
  -- the view that may draw
  pub drawer : ℕ

-- three words that count, sixteen to sleep on, and a slot
abbrev pub IsSized : TableId → Type 0
IsSized id = (id.words ≡ 19) × (id.slots ≡ 1)

-- at this place stands something of which P is true
abbrev pub IsAt : {A : Type 0} → List A → ℕ → (A → Type 0) → Type 0
IsAt {A} xs i P = (x : A) × (get_elem? xs i ≡ some x) × P x

abbrev pub count_if : Bool → ℕ
count_if false = 0
count_if true = 1

abbrev pub count_some : {A : Type 0} → Option A → ℕ
count_some None = 0
count_some (Some a) = 1

module _ {E O : Type 0} where
  -- the view of the first handle
  abbrev pub opening_view : O → HandleView E O
  opening_view start = record {
    observed = [];
    joined = [];
    own = record { number = 0; entries = [] } ∷ [];
    ticket = None;
    marked =
        false;
    draws = true;
    given = 1;
    drawn = false;
    origin = Some start;
  }

  -- how many views hold a ticket
  abbrev pub waiting : List (HandleView E O) → ℕ
  waiting [] = 0
  waiting (v ∷ vs) = count_some v.ticket + waiting vs

-- the view keeps this own list: its number was given, no other view keeps it, and its entries are those of the whole history, which the view has observed
pub record Keeps {E : Type 0} (number : E → ℕ) (lock : LockState E) (id : ℕ) (observed : List E) (o : OwnList E) : Type 0 where
  pub low : o.number < lock.given
  pub keeper : lock.keeper o.number ≡ id
  pub seen : IsExact number observed o
  pub whole : IsExact number lock.published o

-- What is true of each view. `drawn` is the word 0.
pub record IsSound {V E O : Type 0} (number : E → ℕ) (start : O) (lock : LockState E) (drawn : ℕ) (homes : List (maybe.Option (Option V)))
    (id : ℕ) (v : HandleView E O) : Type 0 where
  pub observed : IsPrefix v.observed lock.published
  pub joined : All (λ front. IsPrefix front v.observed) v.joined
  pub origin : (o : O) → v.origin ≡ Some o → o ≡ start
  pub own : All (Keeps number lock id v.observed) v.own
  -- a ticket is one of those to be served, and no other view holds it
  pub ticket : (t : ℕ) → v.ticket ≡ Some t → (lock.served ≤ t) × (t < lock.issued) × (lock.holder t ≡ id)
  -- only the ticket that is served is marked; then the slot is out, and the whole history is observed
  pub mark : v.marked ≡ true → (v.ticket ≡ Some lock.served) × (v.observed ≡ lock.published) × (get_elem? homes 0 ≡ some none)
  -- one view draws, and knows the word
  pub draws : v.draws ≡ true → (lock.drawer ≡ id) × (v.given ≡ lock.given) × (drawn ≡ lock.given + count_if v.drawn)

module _ {V E O : Type 0} (origin : V → O) (entries : V → List E) (number : E → ℕ) (start : O) where
  pub record TicketLockRule (s : State (Option V) (HandleView E O)) : Type 0 where
    pub lock : LockState E
    pub wide : length s.words ≡ 19
    pub deep : length s.homes ≡ 1
    pub tickets : slice_index s.words 1 ≡ lock.issued % 2 ^ 64
    pub turns : slice_index s.words 2 ≡ lock.served % 2 ^ 64
    -- each ticket that is to be served is held by a view, and there are no others
    pub queue : lock.served + waiting s.views ≡ lock.issued
    pub queued : (t : ℕ) → lock.served ≤ t → t < lock.issued → IsAt s.views (lock.holder t) (λ v. v.ticket ≡ Some t)
    -- so no two tickets of the queue are equal modulo 2 ^ 64
    pub bounded : (length s.views ≤ lock.given) × (lock.given ≤ 2 ^ 32)
    pub numbered : All (λ e. number e < lock.given) lock.published
    -- each number that was given is kept by a view
    pub keepers : (n : ℕ) → n < lock.given → IsAt s.views (lock.keeper n) (λ v. Contains (numbers_of v.own) n)
    pub each : (id : ℕ) (v : HandleView E O) → get_elem? s.views id ≡ some v → IsSound number start lock (slice_index s.words 0) s.homes id v
    -- while no view is marked the slot is at home, with the whole history
    pub home : ((id : ℕ) (v : HandleView E O) → get_elem? s.views id ≡ some v → v.marked ≡ false) → (x : V)
        × (get_elem? s.homes 0 ≡ some (some (Some x))) × (entries x ≡ lock.published) × (origin x ≡ start)

-- a place at a lock that is so sized
abbrev pub IsPlaceOf : {S V : Type 0} → TableId → Seat S V → Type 0
IsPlaceOf lock place = (place.table_id ≡ lock) × IsSized lock

module _ {S E O : Type 0} where
  -- a place with no slot, no mark and no ticket
  abbrev pub IsFree : Seat S (HandleView E O) → Type 0
  IsFree place = (place.me.1 ≡ []) × (place.me.0.marked ≡ false) × (place.me.0.ticket ≡ None)

-- the history is the one that the view observed, or has one entry more, of a number that the view keeps
abbrev pub GoesOn : {E O : Type 0} → (E → ℕ) → HandleView E O → List E → Type 0
GoesOn number v history = (n : ℕ) × Contains (numbers_of v.own) n × Appends number n v.observed history

abbrev pub IsSamePlace : {S V : Type 0} → Seat S V → Seat S V → Type 0
IsSamePlace old new = (new.table_id ≡ old.table_id) × (new.id ≡ old.id)
