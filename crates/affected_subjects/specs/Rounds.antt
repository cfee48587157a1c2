-- The first of the two rounds in which subjects are looked at, from the tables of a cell. This project's own rules.
use Rattle.std.specs.Prelude.{List, [], ◌∷◌, ◌++◌, fold, if◌then◌else◌}
use Rattle.std.specs.List.{list_any}
use Rattle.cell_spec.specs.declared.key.Key.{Key}
use Rattle.cell_spec.specs.declared.key.Subject.{Subject}
use Rattle.cell_spec.specs.Names.{same_subject}
use Rattle.rule_spec.specs.Affected.{named_by}
use Rattle.finding_laws.specs.Tables.{readers_in}

-- some subjects, and behind them another one, unless it is there
abbrev pub add_one : List Subject → Subject → List Subject
add_one there s = if list_any (same_subject s) there then there else there ++ s ∷ []

-- some subjects, and behind them those of others that aren't there yet, each once
abbrev pub add_all : List Subject → List Subject → List Subject
add_all there others = fold add_one there others

-- the same for what each of some items gives, one item after the other
abbrev pub add_each : {X : Type 0} → (X → List Subject) → List Subject → List X → List Subject
add_each gives there items = fold (λ now x. add_all now (gives x)) there items

-- those that read a key, then those that it names
abbrev pub looked_at : List (Subject × List Key) → Key → List Subject
looked_at reads k = readers_in reads k ++ named_by k

-- the first round, each subject once
abbrev pub first_of : List (Subject × List Key) → List Key → List Subject
first_of reads keys = add_each (looked_at reads) [] keys
