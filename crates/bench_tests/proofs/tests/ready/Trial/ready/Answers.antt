use Rattle.std.proofs.Common.{List, ◌||◌, ◌∙◌, subst, sym}
use Rattle.std.specs.Prelude.{All, IsTrue}
use Rattle.s57_types.specs.declared.cell.Cell.{Cell}
use Rattle.cell_spec.specs.declared.key.Subject.{Subject}
use Rattle.rule_spec.specs.Affected.{affected_list, change_by, is_single}
use Rattle.rule_spec.specs.Findings.{is_subject}
use Rattle.bench_tests.proofs.ReadyRows.{affected_are_there}
use Rattle.bench_tests.proofs.tests.ready.Trial.ready.Goals as goal

pub rows_in-requires : goal.rows_in-requires
rows_in-requires g c =
    let edits = c.args.self.now.set.now.edits in
    let cell = c.args.self.now.bench.now in
    subst (λ (ss : List Subject). All (λ (s : Subject). IsTrue (is_single s || is_subject c.store.result.now s)) ss)
    (sym (c.as_slice.ensures ∙ c.in_ok-affected.ensures))
    (subst (λ (d : Cell). All (λ (s : Subject). IsTrue (is_single s || is_subject d s)) (affected_list (change_by edits cell)))
    (sym (c.store.ensures ∙ c.requires.after)) (affected_are_there cell edits))
