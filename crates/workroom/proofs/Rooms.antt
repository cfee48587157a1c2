-- The entries that a workroom's log has when it ends.
use Rattle.std.proofs.Common.{◌≡◌, ◌==◌, ℕ, zero, suc, ◌≤◌, Bool, true, false, List, [], ◌∷◌, All, refl, sym, ap, subst, ◌∙◌, ◌++◌, arith}
use Rattle.std.specs.Prelude.{cond}
use Rattle.std.proofs.lemmas.List.Elements.{All-cons, All-head, All-nil, All-tail}
use Rattle.history_spec.specs.declared.entry.Entry.{Entry}
use Rattle.turn_gate.specs.declared.view.OwnList.{OwnList}
use Rattle.turn_gate.specs.Handles.{no_operations}
use Rattle.turn_gate.specs.Histories.{IsExact, entries_by}
use Rattle.workroom.specs.Turns.{desk_of}

positive : (n : ℕ) → (n == 0) ≡ false → 1 ≤ n
positive zero is = absurd (cc is)
positive (suc n) is = omega arith

none_behind : (e : Entry) (es : List Entry) → entries_by desk_of 0 (e ∷ es) ≡ [] → ((e.desk == 0) ≡ false) × (entries_by desk_of 0 es ≡ [])
none_behind e es none = by_number (e.desk == 0) refl
  where
    by_number : (b : Bool) → (e.desk == 0) ≡ b → ((e.desk == 0) ≡ false) × (entries_by desk_of 0 es ≡ [])
    by_number true is = absurd (let x : e ∷ entries_by desk_of 0 es ≡ [] =
        sym (ap (λ (t : Bool). cond t (e ∷ entries_by desk_of 0 es) (entries_by desk_of 0 es)) is) ∙ none in cc x)
    by_number false is = (is, sym (ap (λ (t : Bool). cond t (e ∷ entries_by desk_of 0 es) (entries_by desk_of 0 es)) is) ∙ none)

-- entries of which none bears the number 0 bear numbers from 1 on
pub none_by_zero : (most : ℕ) (entries : List Entry) → entries_by desk_of 0 entries ≡ [] → All (λ (e : Entry). e.desk ≤ most) entries
    → All (λ (e : Entry). (1 ≤ e.desk) × (e.desk ≤ most)) entries
none_by_zero most [] none low = All-nil (λ (e : Entry). (1 ≤ e.desk) × (e.desk ≤ most))
none_by_zero most (e ∷ entries) none low =
    let behind = none_behind e entries none in
    All-cons (λ (e : Entry). (1 ≤ e.desk) × (e.desk ≤ most)) e entries (positive e.desk behind.0, All-head (λ (e : Entry). e.desk ≤ most) e entries low)
    (none_by_zero most entries behind.1 (All-tail (λ (e : Entry). e.desk ≤ most) e entries low))

-- own lists of the lock's handle, which made no call, and of a desk
pub closed_own : (entries : List Entry) (merged root seat desk : List (OwnList Entry)) → merged ≡ root ++ seat → root ≡ no_operations 0 ∷ []
    → seat ≡ desk → All (IsExact desk_of entries) merged
    → (entries_by desk_of 0 entries ≡ []) × All (IsExact desk_of entries) desk
closed_own entries merged root seat desk is none same exact =
    let all : All (IsExact desk_of entries) (no_operations 0 ∷ desk) = subst (All (IsExact desk_of entries)) (is ∙ (λ i. none i ++ same i)) exact in
    (sym (All-head (IsExact desk_of entries) (no_operations 0) desk all), All-tail (IsExact desk_of entries) (no_operations 0) desk all)
