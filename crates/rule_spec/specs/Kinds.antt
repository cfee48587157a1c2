-- The kinds of finding that the rules give. This project's own numbers and names.
use Rattle.std.specs.Prelude.{ℕ, ◌==◌, List, [], ◌++◌, map, find}
use Rattle.std.specs.Option.{option_map_or}
use Rattle.rule_spec.specs.RuleRow.{Label, RuleRow}
use Rattle.rule_spec.specs.Rules.{vector_rules, pair_rules, feature_rules, side_rules, identity_rules}

abbrev pub label_of : {R : Type 0} → RuleRow R → Label
label_of row = row.label

-- what reports print of each kind
abbrev pub labels : List Label
labels = map label_of vector_rules ++ map label_of pair_rules ++ map label_of feature_rules ++ map label_of side_rules ++ map label_of identity_rules

abbrev pub in_label : {X : Type 0} → (Label → X) → X → ℕ → X
in_label part other kind = option_map_or part (find (λ (label : Label). label.kind == kind) labels) other

-- the name that reports print for a kind; empty for a number that is no kind's
abbrev pub kind_name : ℕ → List ℕ
kind_name = in_label (λ label. label.name) []

-- how many of its numbers reports print
abbrev pub number_count : ℕ → ℕ
number_count = in_label (λ label. label.count) 0
