-- What a walk has passed, by the set that it keeps.
use Rattle.std.proofs.Common.{◌≡◌, ◌||◌, Bool, true, false, cond, is_eq, ap, ◌∙◌}
use Rattle.std.specs.Bool.{OnFalse}
use Rattle.std.specs.BTreeSet.{contains}
use Rattle.s57_types.specs.declared.name.RecName.{RecName}
use Rattle.cell_spec.specs.Names.{name_order, same_name}
use Rattle.cell_spec.proofs.Orders.{names_tie}
use Rattle.affected_subjects.specs.NewPairs.{noted, walked_by}
use Rattle.affected_subjects.specs.declared.second.Walk.{Walk}

or_by : (tie same was : Bool) → tie ≡ same → cond tie true was ≡ (same || was)
or_by true same was is = ap (λ b. b || was) is
or_by false same was is = ap (λ b. b || was) is

-- a name that is noted is passed then, and where it was already nothing changes
pub noted_by : (old new : Walk) (n : RecName) (added : Bool) → new.pairs.items ≡ old.pairs.items
    → ((m : RecName) → contains name_order new.passed m ≡ cond (is_eq (name_order n m)) true (contains name_order old.passed m))
    → OnFalse added (new.passed.keys ≡ old.passed.keys) → walked_by new ≡ cond added (noted n (walked_by old)) (walked_by old)
noted_by old new n true pairs updates kept = λ i. record {
  passed = λ m. (updates m ∙ or_by (is_eq (name_order n m)) (same_name m n) (contains name_order old.passed m) (names_tie n m)) i;
  pairs = pairs i;
}
noted_by old new n false pairs updates kept = λ i. record { passed = λ m. contains name_order (record { keys = kept i }) m; pairs = pairs i }
