-- The findings of rules.
use Rattle.std.proofs.Common.{◌≡◌, List, [], ◌∷◌, ◌++◌, map, refl}
use Rattle.std.specs.List.{AllByRecursion}
use Rattle.rule_spec.specs.Findings.{finding, findings_of_rules}
use Rattle.rule_spec.specs.Rule.{Found}
use Rattle.rule_spec.specs.RuleRow.{RuleRow}

-- rules that find the same make the same findings
pub same_findings : {R : Type 0} (f g : R → Found) (rules : List (RuleRow R)) → AllByRecursion (λ (r : RuleRow R). f r.rule ≡ g r.rule) rules
    → findings_of_rules f rules ≡ findings_of_rules g rules
same_findings f g [] all = refl
same_findings f g (r ∷ rules) all = λ i. map (finding r.label.kind) (all.0 i) ++ same_findings f g rules all.1 i
