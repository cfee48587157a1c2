use Rattle.std.proofs.Common.{ℕ, List, None, ◌≡◌, ◌++◌, Ok, Err, inl, inr, length, map, refl, string_bytes, sym, ap, ◌∙◌, subst, arith}
use Rattle.std.proofs.lemmas.Result.{err_from_is_err_and}
use Rattle.rule_spec.specs.Findings.{all_findings}
use Rattle.text_spec.specs.CellText.{cell_text, text_with}
use Rattle.report_text.specs.declared.status.Status.TheVariants.{NoMemory}
use Rattle.call_files.specs.declared.cell_input.Checked.{Checked}
use Rattle.call_files.specs.Inputs.{CellIs, IsFile}
use Rattle.enc_top.specs.Inputs.{IsInputOf, IsReached, OutputIs}
use Rattle.enc_top.specs.Outcome.{IsAskedBy}
use Rattle.enc_top.specs.Task.{check_task}
use Rattle.call_files.specs.Task.{task_of}
use Rattle.enc_top.specs.Words.{check_among, check_form}
use Rattle.enc_top.proofs.Answered.{asked_status, fits_no_text}
use Rattle.call_files.proofs.Answered.{both_told, status_of_more, tells_first}
use Rattle.enc_top.proofs.FormWords.{one_word}
use Rattle.enc_top.proofs.top.check.Goals as goal

pub returns-clause-asked : goal.returns-clause-asked
returns-clause-asked g c =
    let one : length c.args.others.now ≡ 1 = omega (arith, c.in-len1.len_at_least, c.in-len1.len_below) in
    let form = one_word c.args.others.now c.name-item.result one c.name-item.is ∙ ap check_form (sym c.as_str.ensures.value) in
    let cell = c.in_ok-checked.checked.cell in
    let text : c.push_cell.new.out.items ≡ cell_text cell =
    c.in_ok-push_cell.ensures.ok (all_findings cell) c.in_ok-checked.ensures.findings.all
    ∙ ap (λ before. before ++ text_with cell (all_findings cell)) c.new-text.ensures.items in
    let is : task_of (record { text = c.push_cell.new.out; export = None }) ≡ check_task cell =
    ap (λ (text : List ℕ). record { text = text; file = None }) text in
    let told = both_told (g.H.Shelf.files c.args.shelf.now) c.in_ok-checked.ensures.tells c.in_ok-checked.ensures.tells
    (λ fs step _. inl (cell, step, ap Ok is)) in
    subst (λ f. IsAskedBy ⊥ f (g.H.Shelf.files c.args.shelf.now) (g.H.Shelf.read_faults c.args.shelf.now)
    (g.H.Shelf.read_faults c.read_cell.new.shelf) (Ok (record { text = c.push_cell.new.out; export = None }))) (sym form)
    (record { start = cell; told = c.in_ok-checked.ensures.tells; is = is }, told)

pub returns-in_err-checked-clause-asked : goal.returns-in_err-checked-clause-asked
returns-in_err-checked-clause-asked g c =
    let one : length c.args.others.now ≡ 1 = omega (arith, c.in-len1.len_at_least, c.in-len1.len_below) in
    let form = one_word c.args.others.now c.name-item.result one c.name-item.is ∙ ap check_form (sym c.as_str.ensures.value) in
    let cell = c.as_str.result.now in
    let files = g.H.Shelf.files c.args.shelf.now in
    let before = g.H.Shelf.read_faults c.args.shelf.now in
    let after = g.H.Shelf.read_faults c.read_cell.new.shelf in
    let status = c.in_err-checked.field-0.0 in
    let refused = err_from_is_err_and c.from_residual.result c.from_residual.ensures.1 in
    rw (refused.1, refused.2) (subst (λ f. IsAskedBy ⊥ f files before after (Err status)) (sym form)
    (asked_status ⊥ (check_form cell) files before after status tt (fits_no_text (check_form cell) status c.in_err-checked.ensures.text)
    (status_of_more (λ n. n ≡ cell) (IsInputOf (check_form cell)) status (λ n same. same) c.in_err-checked.ensures.status)
    (tells_first (λ (checked : Checked). checked.cell) task_of (CellIs cell) (OutputIs (check_form cell)) (IsFile cell) (IsReached (check_form cell))
    files before after status (λ fs bad. inr (status, bad, refl)) (λ fs n is. is) c.in_err-checked.ensures.tells)))

pub returns-in_err-push_cell-clause-asked : goal.returns-in_err-push_cell-clause-asked
returns-in_err-push_cell-clause-asked g c =
    let one : length c.args.others.now ≡ 1 = omega (arith, c.in-len1.len_at_least, c.in-len1.len_below) in
    let form : check_among (map string_bytes c.args.others.now) ≡ check_form c.as_str.result.now =
    one_word c.args.others.now c.name-item.result one c.name-item.is ∙ ap check_form (sym c.as_str.ensures.value) in
    let files = g.H.Shelf.files c.args.shelf.now in
    let before = g.H.Shelf.read_faults c.args.shelf.now in
    let after = g.H.Shelf.read_faults c.read_cell.new.shelf in
    let refused = err_from_is_err_and c.from_residual-in_err-push_cell.result c.from_residual-in_err-push_cell.ensures.1 in
    rw (refused.1, refused.2) (subst (λ f. IsAskedBy ⊥ f files before after (Err NoMemory)) (sym form) tt)
