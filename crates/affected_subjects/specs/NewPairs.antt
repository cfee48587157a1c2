-- Which pairs are new at each record of the first round, with no look at the pairs before. This project's own rules.
use Rattle.std.specs.Prelude.{◌||◌, ◌&&◌, Bool, false, not, List, [], ◌∷◌, ◌++◌, filter, fold, map, if◌then◌else◌}
use Rattle.std.specs.BTreeSet.{contains}
use Rattle.std.specs.List.{list_any}
use Rattle.s57_types.specs.declared.name.RecName.{RecName}
use Rattle.cell_spec.specs.declared.key.Subject.{Subject}
use Rattle.cell_spec.specs.declared.key.Subject.TheVariants.{Rec, Side, Pair, Ident}
use Rattle.cell_spec.specs.Names.{name_order, same_name}
use Rattle.rule_spec.specs.Affected.{pair_of}
use Rattle.finding_laws.specs.Tables.{Covering, mates_in}
use Rattle.affected_subjects.specs.declared.second.Walk.{Walk}

-- what a walk over subjects has passed and found: the names of the records, and their pairs
pub record Walked : Type 0 where
  pub passed : RecName → Bool
  pub pairs : List Subject

-- what the program's walk has passed and found
abbrev pub walked_by : Walk → Walked
walked_by w = record { passed = contains name_order w.passed; pairs = w.pairs.items }

-- a walk that has passed nothing
abbrev pub set_out : Walked
set_out = record { passed = λ n. false; pairs = [] }

-- what is passed with one more name
abbrev pub with_passed : RecName → (RecName → Bool) → RecName → Bool
with_passed n passed m = same_name m n || passed m

-- a walk with one more name passed
abbrev pub noted : RecName → Walked → Walked
noted n w = record { passed = with_passed n w.passed; pairs = w.pairs }

-- a walk with more pairs
abbrev pub with_pairs : Walked → List Subject → Walked
with_pairs w more = record { passed = w.passed; pairs = w.pairs ++ more }

-- whether a mate brings a new pair: it isn't passed, and isn't one of the known mates
abbrev pub is_new : (RecName → Bool) → List RecName → RecName → Bool
is_new passed known m = not (passed m) && not (list_any (same_name m) known)

-- the new pairs of a record with some mates
abbrev pub new_pairs : (RecName → Bool) → RecName → List RecName → List RecName → List Subject
new_pairs passed n known mates = map (pair_of n) (filter (is_new passed known) mates)

-- a walk with the pair of a record and a mate, if it is new
abbrev pub with_pair : List RecName → RecName → Walked → RecName → Walked
with_pair known n w m = if is_new w.passed known m then with_pairs w (pair_of n m ∷ []) else w

-- the new pairs of a record with its mates before, then with those after
abbrev pub pairs_brought : List RecName → List RecName → (RecName → Bool) → RecName → List Subject
pairs_brought before after passed n = new_pairs passed n [] before ++ new_pairs passed n before after

-- a walk past one more subject; a record that is passed already brings nothing
abbrev pub walk_past : List (RecName × Covering) → List (RecName × Covering) → Walked → Subject → Walked
walk_past before after w (Rec n) =
    if w.passed n then w
    else with_pairs (noted n w) (pairs_brought (mates_in before n) (mates_in after n) (with_passed n w.passed) n)
walk_past before after w (Side n) = w
walk_past before after w (Pair a b) = w
walk_past before after w (Ident l) = w

-- the pairs that a walk over subjects finds
abbrev pub pairs_found : List (RecName × Covering) → List (RecName × Covering) → List Subject → List Subject
pairs_found before after subjects = (fold (walk_past before after) set_out subjects).pairs
