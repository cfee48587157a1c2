use Rattle.std.proofs.Common.{◌≡◌, List, IfOk, Some, refl, rules, sym, subst}
use Rattle.s57_types.specs.declared.record.Rec.TheVariants.{F, V}
use Rattle.cell_spec.specs.declared.finding.Finding.{Finding}
use Rattle.cell_spec.specs.Lookup.{lookup_record}
use Rattle.check_record.proofs.ReadSets.{feature_found, vector_found}
use Rattle.check_record.proofs.found.findings_of_rec.Goals as goal

pub returns-in-Some-V : goal.returns-in-Some-V
returns-in-Some-V c =
    let cell = c.args.look.now in
    let vector = c.in-Some-V.vector in
    let found : lookup_record cell c.args.name ≡ Some (V vector) = search rules in
    subst (λ (fs : List Finding). IfOk c.vector_findings.result (λ findings. findings.items ≡ fs)) (sym (vector_found cell c.args.name vector found))
    (c.vector_findings.ensures cell c.args.name _ (λ _. refl) refl found)

pub returns-in-Some-F : goal.returns-in-Some-F
returns-in-Some-F c =
    let cell = c.args.look.now in
    let feature = c.in-Some-F.feature in
    let found : lookup_record cell c.args.name ≡ Some (F feature) = search rules in
    subst (λ (fs : List Finding). IfOk c.feature_findings.result (λ findings. findings.items ≡ fs)) (sym (feature_found cell c.args.name feature found))
    (c.feature_findings.ensures cell c.args.name _ refl refl found)
