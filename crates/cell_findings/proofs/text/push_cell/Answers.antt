use Rattle.std.proofs.Common.{◌≡◌, ◌++◌, ◌∙◌, ap}
use Rattle.std.proofs.lemmas.Result.{on_ok_weaker}
use Rattle.text_spec.specs.CellText.{text_with}
use Rattle.cell_findings.proofs.text.push_cell.Goals as goal

pub returns-clause-ok : goal.returns-clause-ok
returns-clause-ok c = λ rows is.
    let out = c.args.out.now.items in
    let part = c.deref.ensures.value ∙ c.in_ok-push_part.ensures rows is ∙ ap (λ text. text ++ text_with c.args.cell.now rows) c.new-part.ensures.items in
    on_ok_weaker c.push_bytes.result (λ (written : c.push_bytes.new.out.items ≡ out ++ c.deref.result.now). written
    ∙ ap (λ text. out ++ text) part) c.push_bytes.ensures.ok
