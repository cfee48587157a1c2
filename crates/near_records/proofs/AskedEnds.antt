-- The node of an end is asked for where those of all ends are.
use Rattle.std.proofs.Common.{◌≡◌, ℕ, ◌==◌, true, List, [], ◌∷◌, Option, None, Some, filter, option_map, refl, sym, ap, subst, ◌∙◌}
use Rattle.std.specs.List.{All}
use Rattle.std.proofs.lemmas.List.Elements.{All-filter, All-head}
use Rattle.s57_types.specs.declared.name.RecName.{RecName}
use Rattle.s57_types.specs.declared.record.End.{End}
use Rattle.s57_types.specs.declared.record.Vector.{Vector}
use Rattle.cell_spec.specs.declared.key.Key.{Key}
use Rattle.cell_spec.specs.declared.key.Key.TheVariants.{Name}
use Rattle.near_records.specs.Near.{has_key}
use Rattle.rule_spec.specs.EdgePoints.{node_at}
use Rattle.rule_spec.specs.Records.{the_only}

only_has : {X : Type 0} (P : X → Type 0) (xs : List X) (x : X) → the_only xs ≡ Some x → All P xs → P x
only_has P [] x e h = absurd cc
only_has P (y ∷ []) x e h = let same : y ≡ x = cc in subst P same (All-head P y [] h)
only_has P (y ∷ z ∷ xs) x e h = absurd cc

asked_by : (keys : List Key) (ends : List End) (found : Option End) (m : RecName) → the_only ends ≡ found → option_map (λ (e : End). e.to) found ≡ Some m
    → All (λ (e : End). has_key keys (Name e.to) ≡ true) ends → has_key keys (Name m) ≡ true
asked_by keys ends None m e f h = absurd cc
asked_by keys ends (Some end) m e f h =
    let same : end.to ≡ m = cc in
    ap (λ n. has_key keys (Name n)) (sym same) ∙ only_has (λ (e : End). has_key keys (Name e.to) ≡ true) ends end e h

pub node_asked : (keys : List Key) (topi : ℕ) (e : Vector) (m : RecName) → node_at topi e ≡ Some m
    → All (λ (e : End). has_key keys (Name e.to) ≡ true) e.ends → has_key keys (Name m) ≡ true
node_asked keys topi e m found h =
    let at : List End = filter (λ (end : End). end.topi == topi) e.ends in
    asked_by keys at (the_only at) m refl found (All-filter (λ (end : End). end.topi == topi) (λ (e : End). has_key keys (Name e.to) ≡ true) e.ends h)
