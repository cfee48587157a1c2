-- The order of entries is an order of the scripts, and no history of few entries of each session is long.
use Rattle.std.proofs.Common.{◌≡◌, ◌==◌, ℕ, zero, suc, ◌-◌, ◌*◌, ◌≤◌, Bool, true, false, List, [], ◌∷◌, length, filter, All, count_by, refl, sym, ap, ◌∙◌}
use Rattle.std.proofs.Common.{subst, arith, cond, ⊎_elim}
use Rattle.std.specs.Prelude.{slice_index_or, not}
use Rattle.std.proofs.lemmas.Bool.{cases_Bool}
use Rattle.std.proofs.lemmas.Bool.Decides.{nat_tests}
use Rattle.std.proofs.lemmas.List.{length-map}
use Rattle.std.proofs.lemmas.List.Sums.{sum_by-cons}
use Rattle.std.proofs.lemmas.List.Filters.{length-filter_both}
use Rattle.std.proofs.lemmas.List.Elements.{All-cons, All-nil, All-head, All-tail}
use Rattle.s57_types.specs.declared.cell.Cell.{Cell}
use Rattle.s57_types.specs.declared.name.RecName.{RecName}
use Rattle.cell_spec.specs.declared.edit.Edit.{Edit}
use Rattle.text_spec.specs.declared.command.Command.{Command}
use Rattle.text_spec.specs.declared.command.Command.TheVariants.{View, Commit, Drop, List as Findings, Push, Guard}
use Rattle.text_spec.specs.ScriptLines.{is_shared}
use Rattle.text_spec.specs.OrderLine.{IsOrder}
use Rattle.history_spec.specs.declared.entry.Entry.{Entry}
use Rattle.history_spec.specs.Entries.{AreInterleaved, entries_of, order_of_entries}
use Rattle.history_spec.specs.Sessions.{requests_from, requests_of, script_of}
use Rattle.room_laws.specs.Orders.{quotas_of}
use Rattle.room_laws.proofs.Interleaved.{desk_count}
use Rattle.room_laws.proofs.Served.{asked_length}

-- as many requests as shared commands
pub requests_count : (edits : List Edit) (guards : List RecName) (cs : List Command) → length (requests_from edits guards cs) ≡ count_by is_shared cs
requests_count edits guards [] = refl
requests_count edits guards (View ∷ cs) = ap suc (requests_count edits guards cs) ∙ sym (sum_by-cons (λ c. cond (is_shared c) 1 0) View cs ∙ omega arith)
requests_count edits guards (Commit ∷ cs) = ap suc (requests_count [] [] cs) ∙ sym (sum_by-cons (λ c. cond (is_shared c) 1 0) Commit cs ∙ omega arith)
requests_count edits guards (Drop ∷ cs) = requests_count [] [] cs ∙ sym (sum_by-cons (λ c. cond (is_shared c) 1 0) Drop cs ∙ omega arith)
requests_count edits guards (Findings shown ∷ cs) = requests_count edits guards cs
    ∙ sym (sum_by-cons (λ c. cond (is_shared c) 1 0) (Findings shown) cs ∙ omega arith)
requests_count edits guards (Push edit ∷ cs) = requests_count _ guards cs ∙ sym (sum_by-cons (λ c. cond (is_shared c) 1 0) (Push edit) cs ∙ omega arith)
requests_count edits guards (Guard name ∷ cs) = requests_count edits _ cs ∙ sym (sum_by-cons (λ c. cond (is_shared c) 1 0) (Guard name) cs ∙ omega arith)

pub quota_there : (scripts : List (List Command)) (k : ℕ) → slice_index_or (quotas_of scripts) k 0 ≡ count_by is_shared (slice_index_or scripts k [])
quota_there [] k = refl
quota_there (s ∷ scripts) zero = refl
quota_there (s ∷ scripts) (suc k) = quota_there scripts k

pub order_is : (c : Cell) (scripts : List (List Command)) (entries : List Entry) → AreInterleaved c scripts entries
    → IsOrder (quotas_of scripts) (order_of_entries entries)
order_is c scripts entries r = record {
  sessions = subst (λ n. All (λ i. (1 ≤ i) × (i ≤ n)) (order_of_entries entries)) (sym (length-map scripts (count_by is_shared))) (numbers entries r.numbers);
  each = λ i low high.
      let within : i ≤ length scripts = subst (λ n. i ≤ n) (length-map scripts (count_by is_shared)) high in
      desk_count i entries ∙ (asked_length c.head.nall 0 (requests_of (script_of scripts i)) (entries_of i entries) (r.each i low within)
      ∙ (requests_count [] [] (script_of scripts i) ∙ sym (quota_there scripts (i - 1))));
}
  where
    numbers : (es : List Entry) → All (λ (e : Entry). (1 ≤ e.desk) × (e.desk ≤ length scripts)) es
        → All (λ i. (1 ≤ i) × (i ≤ length scripts)) (order_of_entries es)
    numbers [] all = All-nil (λ i. (1 ≤ i) × (i ≤ length scripts))
    numbers (e ∷ es) all = All-cons (λ i. (1 ≤ i) × (i ≤ length scripts)) e.desk (order_of_entries es)
        (All-head (λ (e : Entry). (1 ≤ e.desk) × (e.desk ≤ length scripts)) e es all)
        (numbers es (All-tail (λ (e : Entry). (1 ≤ e.desk) × (e.desk ≤ length scripts)) e es all))

-- a history of at most k sessions with at most m entries each
sub_filter : (d : ℕ) (p : Entry → Bool) (es : List Entry) → length (entries_of d (filter p es)) ≤ length (entries_of d es)
sub_filter d p [] = omega arith
sub_filter d p (e ∷ es) = let less = sub_filter d p es in by_test (p e) (e.desk == d) less refl refl
  where
    by_test : (a b : Bool) → length (entries_of d (filter p es)) ≤ length (entries_of d es) → p e ≡ a → (e.desk == d) ≡ b
        → length (entries_of d (cond (p e) (e ∷ filter p es) (filter p es))) ≤ length (cond (e.desk == d) (e ∷ entries_of d es) (entries_of d es))
    by_test false false less is at = rw (is, at) less
    by_test false true less is at = rw (is, at) (omega (arith, less))
    by_test true false less is at = subst (λ (t : Bool). length (entries_of d (cond t (e ∷ filter p es) (filter p es))) ≤ length
        (cond (e.desk == d) (e ∷ entries_of d es) (entries_of d es))) (sym is)
        (subst (λ (t : Bool). length (cond t (e ∷ entries_of d (filter p es)) (entries_of d (filter p es))) ≤ length
        (cond t (e ∷ entries_of d es) (entries_of d es))) (sym at) less)
    by_test true true less is at = subst (λ (t : Bool). length (entries_of d (cond t (e ∷ filter p es) (filter p es))) ≤ length
        (cond (e.desk == d) (e ∷ entries_of d es) (entries_of d es))) (sym is)
        (subst (λ (t : Bool). length (cond t (e ∷ entries_of d (filter p es)) (entries_of d (filter p es))) ≤ length
        (cond t (e ∷ entries_of d es) (entries_of d es))) (sym at) (omega (arith, less)))

below : (k : ℕ) (es : List Entry) → All (λ (e : Entry). (1 ≤ e.desk) × (e.desk ≤ suc k)) es
    → All (λ (e : Entry). (1 ≤ e.desk) × (e.desk ≤ k)) (filter (λ (e : Entry). not (e.desk == suc k)) es)
below k [] all = All-nil (λ (e : Entry). (1 ≤ e.desk) × (e.desk ≤ k))
below k (e ∷ es) all =
    let h = All-head (λ (e : Entry). (1 ≤ e.desk) × (e.desk ≤ suc k)) e es all in
    let rest = below k es (All-tail (λ (e : Entry). (1 ≤ e.desk) × (e.desk ≤ suc k)) e es all) in
    ⊎_elim
    (λ (t : (e.desk == suc k) ≡ true). subst (λ (b : Bool). All (λ (e : Entry). (1 ≤ e.desk) × (e.desk ≤ k))
    (cond (not b) (e ∷ filter (λ (e : Entry). not (e.desk == suc k)) es) (filter (λ (e : Entry). not (e.desk == suc k)) es))) (sym t) rest)
    (λ (t : (e.desk == suc k) ≡ false). subst (λ (b : Bool). All (λ (e : Entry). (1 ≤ e.desk) × (e.desk ≤ k))
    (cond (not b) (e ∷ filter (λ (e : Entry). not (e.desk == suc k)) es) (filter (λ (e : Entry). not (e.desk == suc k)) es))) (sym t)
    (All-cons (λ (e : Entry). (1 ≤ e.desk) × (e.desk ≤ k)) e (filter (λ (e : Entry). not (e.desk == suc k)) es) (h.0, lower e.desk k h.1 t) rest))
    (cases_Bool (e.desk == suc k))
  where
    lower : (n k : ℕ) → n ≤ suc k → (n == suc k) ≡ false → n ≤ k
    lower n k le other = grind (arith, nat_tests)

pub few_entries : (m k : ℕ) (es : List Entry) → All (λ (e : Entry). (1 ≤ e.desk) × (e.desk ≤ k)) es
    → ((i : ℕ) → 1 ≤ i → i ≤ k → length (entries_of i es) ≤ m) → length es ≤ k * m
few_entries m zero [] all each = omega arith
few_entries m zero (e ∷ es) all each = let h = All-head (λ (e : Entry). (1 ≤ e.desk) × (e.desk ≤ 0)) e es all in absurd (omega (arith, h.0, h.1))
few_entries m (suc k) es all each =
    let others = filter (λ (e : Entry). not (e.desk == suc k)) es in
    let split = length-filter_both (λ (e : Entry). e.desk == suc k) (λ (e : Entry). not (e.desk == suc k)) (λ e. refl) es in
    let more = few_entries m k others (below k es all) (λ i low high. let a = sub_filter i (λ (e : Entry). not (e.desk == suc k)) es in
    let b = each i low (omega (arith, high)) in omega (arith, a, b)) in
    let one = each (suc k) (omega arith) (omega arith) in omega (arith, split, more, one)
