-- Versions that can rise.
use Rattle.std.proofs.Common.{◌≡◌, inl, inr, ℕ, ◌+◌, ◌^◌, ◌<◌, Bool, true, false, List, [], ◌∷◌, Option, None, Some, cond, map, refl, arith}
use Rattle.std.specs.Prelude.{◌==◌}
use Rattle.std.specs.List.{All, AllByRecursion}
use Rattle.std.specs.Borrow.{Bor}
use Rattle.std.proofs.lemmas.Bool.{cases_order, eqb-false}
use Rattle.std.proofs.lemmas.List.Elements.{All-from_recursion}
use Rattle.s57_types.specs.declared.name.RecName.{RecName}
use Rattle.s57_types.specs.declared.record.Feature.{Feature}
use Rattle.s57_types.specs.declared.record.Vector.{Vector}
use Rattle.topo_ops.specs.Join.{feature_unpaired, features_fault}
use Rattle.topo_ops.specs.Refusals.{first_of}
use Rattle.topo_ops.specs.declared.operation.EdgeJoin.{EdgeJoin}
use Rattle.topo_ops.specs.Causes.{ended_version, feature_version, version_end}
use Rattle.topo_ops.specs.declared.refusal.OpRefusal.{OpRefusal}
use Rattle.topo_ops.specs.declared.refusal.OpRefusal.TheVariants.{VersionEnd}
use Rattle.topo_ops.proofs.Rows.{all_none}

below_by : (name : RecName) (rver : ℕ) (b : Bool) → (rver == 65535) ≡ b → cond b (Some (VersionEnd name)) None ≡ None → rver < 2 ^ 16 → rver + 1 < 2 ^ 16
below_by name rver true is e fits = cc
below_by name rver false is e fits = elim (cases_order rver 65535) [
  | inl same ↦ absurd (eqb-false rver 65535 is same)
  | inr order ↦ elim order [ inl less ↦ omega (arith, less) | inr more ↦ absurd (omega (arith, more, fits)) ]
]

-- a version that isn't the last has a next
pub can_rise : (name : RecName) (rver : ℕ) → ended_version name rver ≡ None → rver < 2 ^ 16 → rver + 1 < 2 ^ 16
can_rise name rver e fits = below_by name rver (rver == 65535) refl e fits

pub edge_rises : (e : Vector) (fs : List Feature) → version_end e fs ≡ None → ended_version e.name e.rver ≡ None
edge_rises e fs none = (all_none (ended_version e.name e.rver ∷ map feature_version fs) none).0

each : (fs : List (Bor Feature)) → AllByRecursion (λ (o : Option OpRefusal). o ≡ None) (map feature_version (map (λ (f : Bor Feature). f.now) fs))
    → AllByRecursion (λ (f : Bor Feature). feature_version f.now ≡ None) fs
each [] none = tt
each (f ∷ fs) none = (none.0, each fs none.1)

pub features_rise : (e : Vector) (fs : List (Bor Feature)) → version_end e (map (λ (f : Bor Feature). f.now) fs) ≡ None
    → All (λ (f : Bor Feature). feature_version f.now ≡ None) fs
features_rise e fs none =
    All-from_recursion (λ (f : Bor Feature). feature_version f.now ≡ None) fs
    (each fs (all_none (ended_version e.name e.rver ∷ map feature_version (map (λ (f : Bor Feature). f.now) fs)) none).1)

pub joined_rise : (j : EdgeJoin) (e : Vector) (fs : List Feature) → features_fault j e fs ≡ None → version_end e fs ≡ None
joined_rise j e fs none = (all_none (first_of (map (feature_unpaired j) fs) ∷ version_end e fs ∷ []) none).1.0
