-- A row of the table of rules.
use Rattle.std.specs.Prelude.{ℕ, List}

-- the number of a rule's kind of finding, the name that reports print, and how many of a finding's numbers they print
pub record Label : Type 0 where
  pub kind : ℕ
  pub name : List ℕ
  pub count : ℕ

-- a rule with its label
pub record RuleRow (R : Type 0) : Type 0 where
  pub label : Label
  pub rule : R

abbrev pub row : {R : Type 0} → ℕ → List ℕ → ℕ → R → RuleRow R
row kind name count rule = record { label = record { kind = kind; name = name; count = count }; rule = rule }
