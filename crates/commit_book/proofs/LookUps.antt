-- How many look-ups deciding a commit makes at most.
use Rattle.std.proofs.Common.{◌≡◌, ℕ, ◌+◌, ◌*◌, ◌≤◌, ◌&&◌, ◌||◌, Bool, true, false, List, [], ◌∷◌, None, cond, drop, filter, filter_map, flat_map, length}
use Rattle.std.proofs.Common.{map, refl, sym, ap, subst, ◌∙◌, arith}
use Rattle.std.specs.Prelude.{IsPermutation, MatchBool, not, sum_by}
use Rattle.std.specs.List.{enumerate_from, list_any}
use Rattle.std.proofs.lemmas.Cmp.{eq_by_cmp_equiv}
use Rattle.std.specs.Option.{option_map_or}
use Rattle.std.proofs.Math.Bool.{or-true}
use Rattle.std.proofs.Math.Seq.{drop-length}
use Rattle.std.proofs.lemmas.List.Sorted.{list_any-IsPermutation}
use Rattle.std.proofs.lemmas.List.Sums.{sum_by-cons, sum_by-le-sum_by}
use Rattle.s57_types.specs.declared.cell.Cell.{Cell}
use Rattle.cell_spec.specs.declared.edit.Edit.{Edit}
use Rattle.cell_spec.specs.declared.finding.Row.{Row}
use Rattle.cell_spec.specs.declared.key.Key.{Key}
use Rattle.cell_spec.specs.declared.key.Subject.{Subject}
use Rattle.cell_spec.specs.Edits.{apply_edits, is_applicable, touched_keys}
use Rattle.cell_spec.specs.Names.{same_subject}
use Rattle.cell_spec.proofs.SubjectOrder.{total_subjects}
use Rattle.rule_spec.specs.Affected.{RowsAreExact, affected_list, change_by, considered, each_once, exact_row, has_valid_row, is_still_valid, judged_anew}
use Rattle.rule_spec.specs.Affected.{lookup_budget, plan_budget, reads_counted}
use Rattle.rule_spec.specs.Findings.{is_subject}
use Rattle.rule_spec.specs.Reads.{read_set}
use Rattle.history_spec.specs.EntriesReport.{cell_told}
use Rattle.history_spec.specs.Steps.{AcceptedCommit, clash_with, first_of, newer_answer}
use Rattle.cell_bench.specs.Benches.{PreparedCommit}
use Rattle.cell_bench.specs.Rejudging.{planning_look_ups, reads_anew}
use Rattle.room_laws.proofs.Bases.{newest_cell}
use Rattle.commit_book.specs.declared.accepted.Accepted.{Accepted as Taken}
use Rattle.commit_book.specs.Books.{BookState, IsKept, history_of, touched_in}
use Rattle.commit_book.specs.Prepared.{AreRight, commit_budget, keys_touched, stale_keys}
use Rattle.commit_book.proofs.Numbered.{numbered_behind}
use Rattle.commit_book.proofs.Taken.{touched_above}

-- ---- the budget of a plan
abbrev counted : List Edit → Cell → Subject → ℕ
counted edits c s = reads_counted c s + reads_counted (apply_edits edits c) s

-- by whether the cell takes the edits
plan_by : (edits : List Edit) (c : Cell) (stale : List Key) (rows : List Row) (taken : Bool) → is_applicable edits c ≡ taken
    → plan_budget edits c stale rows
    ≡ cond taken (4 * (sum_by (counted edits c) (judged_anew (change_by edits c) stale rows) + length (touched_keys edits c) + length edits)) (4 * length edits)
unfolding lookup_budget
plan_by edits c stale rows taken is =
    ap (λ b. cond b (4 * (sum_by (counted edits c) (judged_anew (change_by edits c) stale rows) + length (touched_keys edits c) + length edits))
    (4 * length edits)) is

chosen_by : (own rest sum : ℕ) (chosen : Bool) → rest ≡ sum → cond chosen (own + rest) rest ≡ cond chosen own 0 + sum
chosen_by own rest sum true is = omega (arith, is)
chosen_by own rest sum false is = omega (arith, is)

-- a sum over those that a test chooses
sum_chosen : {X : Type 0} (f : X → ℕ) (p : X → Bool) (xs : List X) → sum_by f (filter p xs) ≡ sum_by (λ x. cond (p x) (f x) 0) xs
sum_chosen f p [] = refl
sum_chosen f p (x ∷ xs) =
    first (p x)
    ∙ chosen_by (f x) (sum_by f (filter p xs)) (sum_by (λ y. cond (p y) (f y) 0) xs) (p x) (sum_chosen f p xs)
    ∙ sym (sum_by-cons (λ y. cond (p y) (f y) 0) x xs)
  where
    first : (chosen : Bool) → sum_by f (cond chosen (x ∷ filter p xs) (filter p xs)) ≡ cond chosen (f x + sum_by f (filter p xs)) (sum_by f (filter p xs))
    first true = sum_by-cons f x (filter p xs)
    first false = refl

-- what a subject of the edited cell without a valid row reads is counted
each_counted : (before reads : ℕ) (there valid : Bool) → cond there (cond valid 0 reads) 0 ≤ cond there (cond (not valid) (before + cond there reads 0) 0) 0
each_counted before reads true true = omega arith
each_counted before reads true false = omega arith
each_counted before reads false valid = omega arith

reads_within : (edits : List Edit) (c : Cell) (stale : List Key) (rows : List Row)
    → sum_by (reads_anew (apply_edits edits c) stale rows) (affected_list (change_by edits c))
    ≤ sum_by (counted edits c) (judged_anew (change_by edits c) stale rows)
unfolding affected_list
reads_within edits c stale rows =
    let d = apply_edits edits c in
    let all = each_once (considered (change_by edits c)) in
    let anew : Subject → Bool = λ s. not (has_valid_row stale rows s) in
    let read = sum_chosen (reads_anew d stale rows) (is_subject d) all in
    let judged : sum_by (counted edits c) (filter anew (filter (is_subject d) all)) ≡ sum_by
    (λ s. cond (is_subject d s) (cond (anew s) (counted edits c s) 0) 0) all =
    sum_chosen (counted edits c) anew (filter (is_subject d) all) ∙ sum_chosen (λ s. cond (anew s) (counted edits c s) 0) (is_subject d) all in
    let each = sum_by-le-sum_by (λ s. cond (is_subject d s) (reads_anew d stale rows s) 0)
    (λ s. cond (is_subject d s) (cond (anew s) (counted edits c s) 0) 0) all
    (λ s. each_counted (reads_counted c s) (length (read_set d s)) (is_subject d s) (has_valid_row stale rows s)) in
    omega (arith, read, judged, each)

-- planning edits that the cell takes, and one look-up more for each of them
pub with_touched : (edits : List Edit) (c : Cell) (stale : List Key) (rows : List Row) → is_applicable edits c ≡ true
    → planning_look_ups edits c stale rows + length edits ≤ plan_budget edits c stale rows
with_touched edits c stale rows taken = omega (arith, plan_by edits c stale rows true taken, reads_within edits c stale rows)

-- each edit has one at least
one_each : (edits : List Edit) (c : Cell) (stale : List Key) (rows : List Row) (taken : Bool) → is_applicable edits c ≡ taken
    → length edits ≤ plan_budget edits c stale rows
one_each edits c stale rows true taken = let is = plan_by edits c stale rows true taken in omega (arith, is)
one_each edits c stale rows false taken = let is = plan_by edits c stale rows false taken in omega (arith, is)

-- ---- with no newer commit nothing is judged
itself : (s : Subject) → same_subject s s ≡ true
itself s = (eq_by_cmp_equiv total_subjects).refl s

with_true : (b : Bool) → (b && true) ≡ b
with_true true = refl
with_true false = refl

row_of : (d : Cell) (s : Subject) (subjects : List Subject) → has_valid_row [] (map (exact_row d) subjects) s ≡ list_any (same_subject s) subjects
row_of d s [] = refl
row_of d s (t ∷ subjects) = λ i. with_true (same_subject s t) i || row_of d s subjects i

none_left : (q : Subject → Bool) (subjects : List Subject) → ((s : Subject) → list_any (same_subject s) subjects ≡ true → q s ≡ false) → filter q subjects ≡ []
none_left q [] fails = refl
none_left q (s ∷ subjects) fails =
    ap (λ b. cond b (s ∷ filter q subjects) (filter q subjects)) (fails s (ap (λ b. b || list_any (same_subject s) subjects) (itself s)))
    ∙ none_left q subjects (λ t there. fails t (ap (λ b. same_subject t s || b) there ∙ or-true (same_subject t s)))

none_judged : (edits : List Edit) (c : Cell) (rows : List Row) → IsPermutation rows (map (exact_row (apply_edits edits c)) (affected_list (change_by edits c)))
    → judged_anew (change_by edits c) [] rows ≡ []
none_judged edits c rows moved =
    let d = apply_edits edits c in
    let affected = affected_list (change_by edits c) in
    none_left (λ s. not (has_valid_row [] rows s)) affected
    (λ s there. ap not (list_any-IsPermutation (λ (row : Row). same_subject s row.subject && is_still_valid [] row) rows
    (map (exact_row d) affected) moved ∙ row_of d s affected ∙ there))

alone_by : (edits : List Edit) (c : Cell) (rows : List Row) (taken : Bool) → is_applicable edits c ≡ taken
    → MatchBool taken (IsPermutation rows (map (exact_row (apply_edits edits c)) (affected_list (change_by edits c)))) (rows ≡ [])
    → plan_budget edits c [] rows ≤ 4 * (length (touched_keys edits c) + length edits)
alone_by edits c rows true taken right =
    let is = plan_by edits c [] rows true taken in
    let none : sum_by (counted edits c) (judged_anew (change_by edits c) [] rows) ≡ 0 = ap (sum_by (counted edits c)) (none_judged edits c rows right) in
    omega (arith, is, none)
alone_by edits c rows false taken right = let is = plan_by edits c [] rows false taken in omega (arith, is)

-- ---- the budget of a commit
commit_by : (book : BookState) (p : PreparedCommit) → newer_answer (history_of book).commits p.base p.edits.edits p.edits.guards ≡ None
    → commit_budget book p ≡ plan_budget p.edits.edits (history_of book).cell (stale_keys book.opening (history_of book).commits p.base) p.rows
unfolding commit_budget
commit_by book p none =
    ap (λ newer. option_map_or (λ reply. 4 * length p.edits.edits) newer
    (plan_budget p.edits.edits (history_of book).cell (stale_keys book.opening (history_of book).commits p.base) p.rows)) none

-- where no newer commit stands against the edits, each has a look-up
pub edits_within : (book : BookState) (p : PreparedCommit) → newer_answer (history_of book).commits p.base p.edits.edits p.edits.guards ≡ None
    → length p.edits.edits ≤ commit_budget book p
edits_within book p none =
    let h = history_of book in
    let is = commit_by book p none in
    let each = one_each p.edits.edits h.cell (stale_keys book.opening h.commits p.base) p.rows (is_applicable p.edits.edits h.cell) refl in
    omega (arith, is, each)

-- of a book by what it keeps, where no newer commit stands against the edits
pub budget_kept : (book inside : BookState) (bench : Cell) (accepted : List Taken) → inside ≡ book
    → IsKept inside.opening inside.entries bench accepted → (p : PreparedCommit)
    → newer_answer (history_of book).commits p.base p.edits.edits p.edits.guards ≡ None
    → plan_budget p.edits.edits bench (flat_map touched_in (drop p.base accepted)) p.rows ≡ commit_budget book p
budget_kept book inside bench accepted known kept p none =
    let stale = touched_above p.base inside.opening accepted kept.taken ∙ ap (λ commits. stale_keys inside.opening commits p.base) kept.commits_are in
    (λ i. plan_budget p.edits.edits (kept.cell_is i) (stale i) p.rows)
    ∙ ap (λ (b : BookState). plan_budget p.edits.edits (history_of b).cell (stale_keys b.opening (history_of b).commits p.base) p.rows) known
    ∙ sym (commit_by book p none)

none_above : (commits : List AcceptedCommit) (base : ℕ) → base ≡ length commits → drop base commits ≡ []
none_above commits base newest = ap (λ n. drop n commits) newest ∙ drop-length commits

none_newer : (commits : List AcceptedCommit) (p : PreparedCommit) → p.base ≡ length commits → newer_answer commits p.base p.edits.edits p.edits.guards ≡ None
none_newer commits p newest =
    ap (λ numbered. first_of (filter_map (clash_with p.edits.edits p.edits.guards) numbered))
    (sym (numbered_behind p.base 1 commits) ∙ ap (enumerate_from (1 + p.base)) (none_above commits p.base newest))

-- on the newest cell
pub budget_alone : (book : BookState) (p : PreparedCommit) → AreRight book.opening book.entries p → p.base ≡ length (history_of book).commits
    → commit_budget book p ≤ 4 * (length (touched_keys p.edits.edits (history_of book).cell) + length p.edits.edits)
budget_alone book p right newest =
    let h = history_of book in
    let cell : cell_told book.opening book.entries p.base ≡ h.cell = ap (cell_told book.opening book.entries) newest
    ∙ sym (newest_cell book.opening book.entries) in
    let stale : stale_keys book.opening h.commits p.base ≡ [] =
    ap (keys_touched (cell_told book.opening book.entries p.base)) (none_above h.commits p.base newest) in
    let is : commit_budget book p ≡ plan_budget p.edits.edits h.cell [] p.rows =
    commit_by book p (none_newer h.commits p newest) ∙ ap (λ keys. plan_budget p.edits.edits h.cell keys p.rows) stale in
    let few = alone_by p.edits.edits h.cell p.rows (is_applicable p.edits.edits h.cell) refl (subst (λ d. RowsAreExact p.edits.edits d p.rows) cell right) in
    omega (arith, is, few)
