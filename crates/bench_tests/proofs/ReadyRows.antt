-- Rows of all affected subjects are ready, and with them no subject is judged anew.
use Rattle.std.proofs.Common.{◌≡◌, ◌+◌, ◌*◌, ◌≤◌, ◌&&◌, ◌||◌, Bool, true, false, List, [], ◌∷◌, cond, filter, length, map, refl, sym, ap, ◌∙◌, subst, arith}
use Rattle.std.specs.Prelude.{All, IsTrue, not}
use Rattle.std.specs.List.{list_any}
use Rattle.std.proofs.lemmas.Cmp.{eq_by_cmp_equiv}
use Rattle.std.proofs.lemmas.List.Elements.{All-head, All-map, All-tail, All-weaker, filter_passes}
use Rattle.std.proofs.lemmas.Map.Views.{All-from_any}
use Rattle.s57_types.specs.declared.cell.Cell.{Cell}
use Rattle.cell_spec.specs.declared.edit.Edit.{Edit}
use Rattle.cell_spec.specs.declared.finding.Row.{Row}
use Rattle.cell_spec.specs.declared.key.Key.{Key}
use Rattle.cell_spec.specs.declared.key.Subject.{Subject}
use Rattle.cell_spec.specs.Edits.{apply_edits, is_applicable, touched_keys}
use Rattle.cell_spec.specs.Names.{same_subject}
use Rattle.cell_spec.proofs.SubjectOrder.{total_subjects}
use Rattle.rule_spec.specs.Affected.{affected_list, change_by, considered, each_once, exact_row, has_valid_row, is_single, is_still_valid, judged_anew}
use Rattle.rule_spec.specs.Affected.{lookup_budget, plan_budget}
use Rattle.rule_spec.specs.Findings.{is_subject}
use Rattle.cell_bench.specs.Benches.{AreReady}
use Rattle.bench_tests.specs.ReadyRows.{AreRowsAfter}

-- each row is right, whatever is stale
pub rows_are_ready : (c : Cell) (edits : List Edit) (stale : List Key) (rows : List Row) → AreRowsAfter c edits rows → AreReady c edits stale rows
rows_are_ready c edits stale rows are found =
    let d = apply_edits edits c in
    let is_right = λ (row : Row). IsTrue (is_still_valid stale row) → row ≡ exact_row d row.subject in
    subst (λ those. All is_right those) (sym are) (All-map is_right (exact_row d) (affected_list (change_by edits c)) (λ k e within valid. refl))

none_passes : {X : Type 0} (p : X → Bool) (xs : List X) → All (λ x. p x ≡ false) xs → filter p xs ≡ []
none_passes p [] fail = refl
none_passes p (x ∷ xs) fail =
    ap (λ b. cond b (x ∷ filter p xs) (filter p xs)) (All-head (λ x. p x ≡ false) x xs fail)
    ∙ none_passes p xs (All-tail (λ x. p x ≡ false) x xs fail)

and_so : (b : Bool) → (b && true) ≡ b
and_so true = refl
and_so false = refl

-- without a stale key the row of a subject is valid
has_its_row : (d : Cell) (ss : List Subject) (s : Subject) → has_valid_row [] (map (exact_row d) ss) s ≡ list_any (same_subject s) ss
has_its_row d [] s = refl
has_its_row d (t ∷ ss) s = λ i. and_so (same_subject s t) i || has_its_row d ss s i

pub none_is_judged : (c : Cell) (edits : List Edit) (rows : List Row) → AreRowsAfter c edits rows → judged_anew (change_by edits c) [] rows ≡ []
none_is_judged c edits rows are =
    let d = apply_edits edits c in
    let ss = affected_list (change_by edits c) in
    let fails = λ (s : Subject). not (has_valid_row [] (map (exact_row d) ss) s) ≡ false in
    ap (λ those. judged_anew (change_by edits c) [] those) are
    ∙ none_passes (λ s. not (has_valid_row [] (map (exact_row d) ss) s)) ss
    (All-from_any (eq_by_cmp_equiv total_subjects) fails ss (λ s there. ap not (has_its_row d ss s ∙ there)))

budget_by : (edits : List Edit) (c : Cell) (rows : List Row) (judged : List Subject) (taken : Bool) → is_applicable edits c ≡ taken
    → judged_anew (change_by edits c) [] rows ≡ judged → judged ≡ [] → plan_budget edits c [] rows ≤ 4 * (length (touched_keys edits c) + length edits)
unfolding lookup_budget
budget_by edits c rows judged true taken is none =
    let whole : plan_budget edits c [] rows ≡ lookup_budget edits c [] =
    ap (λ b. cond b (lookup_budget edits c (judged_anew (change_by edits c) [] rows)) (4 * length edits)) taken
    ∙ ap (lookup_budget edits c) (is ∙ none) in
    omega (arith, whole)
budget_by edits c rows judged false taken is none =
    let whole : plan_budget edits c [] rows ≡ 4 * length edits =
    ap (λ b. cond b (lookup_budget edits c (judged_anew (change_by edits c) [] rows)) (4 * length edits)) taken in
    omega (arith, whole)

-- such a plan may look up each touched key and each edit four times
pub least_budget : (c : Cell) (edits : List Edit) (rows : List Row) → AreRowsAfter c edits rows
    → plan_budget edits c [] rows ≤ 4 * (length (touched_keys edits c) + length edits)
least_budget c edits rows are = budget_by edits c rows [] (is_applicable edits c) refl (none_is_judged c edits rows are) refl

there_by : (single there : Bool) → there ≡ true → IsTrue (single || there)
there_by true there is = refl
there_by false there is = is

-- each affected subject is one of the edited cell
pub affected_are_there : (c : Cell) (edits : List Edit)
    → All (λ (s : Subject). IsTrue (is_single s || is_subject (apply_edits edits c) s)) (affected_list (change_by edits c))
unfolding affected_list
affected_are_there c edits =
    let d = apply_edits edits c in
    All-weaker (λ (s : Subject). is_subject d s ≡ true) (λ (s : Subject). IsTrue (is_single s || is_subject d s))
    (λ s is. there_by (is_single s) (is_subject d s) is)
    (affected_list (change_by edits c)) (filter_passes (is_subject d) (each_once (considered (change_by edits c))))
