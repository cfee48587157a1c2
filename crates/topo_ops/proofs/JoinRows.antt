-- The table of a join's refusals, row for row.
use Rattle.std.proofs.Common.{◌≡◌, ℕ, List, [], ◌∷◌, Option, None, Some, Ok, Err, Result, sym, ap, subst, ◌∙◌}
use Rattle.std.specs.Prelude.{MatchResult}
use Rattle.std.specs.Option.{option_map_or}
use Rattle.s57_types.specs.declared.record.Feature.{Feature}
use Rattle.s57_types.specs.declared.cell.Cell.{Cell}
use Rattle.cell_spec.specs.declared.edit.Edit.{Edit}
use Rattle.topo_ops.specs.Causes.{form_refused}
use Rattle.topo_ops.specs.Chains.{Chain, chain_named, no_chain}
use Rattle.topo_ops.specs.Join.{chains_fault, edits_by_join, edits_of_join, features_fault, features_of_join, join_edits, join_fault, join_refusal}
use Rattle.topo_ops.specs.Refusals.{IsRefusal, first_of}
use Rattle.topo_ops.specs.declared.operation.EdgeJoin.{EdgeJoin}
use Rattle.topo_ops.specs.declared.refusal.OpRefusal.{OpRefusal}
use Rattle.topo_ops.specs.declared.refusal.OpRefusal.TheVariants.{NoEdge}
use Rattle.topo_ops.proofs.Rows.{first_later, first_only, first_told, missing, refused_as}

abbrev with_first : ℕ → Cell → EdgeJoin → Chain → Option OpRefusal
with_first nall c j p = option_map_or (join_fault nall c j p) (chain_named c j.other) (Some (NoEdge j.other.id))

pub no_first : (c : Cell) (j : EdgeJoin) (e : OpRefusal) → IsRefusal (no_chain j.edge (chain_named c j.edge)) e → (nall : ℕ)
    → IsRefusal (join_refusal nall c j) e
unfolding join_refusal
no_first c j e h nall = missing (with_first nall c j) j.edge (chain_named c j.edge) e h

first_is : (c : Cell) (j : EdgeJoin) (p : Chain) → chain_named c j.edge ≡ Some p → (nall : ℕ) → join_refusal nall c j ≡ with_first nall c j p
unfolding join_refusal
first_is c j p found nall = ap (λ o. option_map_or (with_first nall c j) o (Some (NoEdge j.edge.id))) found

pub no_second : (c : Cell) (j : EdgeJoin) (p : Chain) → chain_named c j.edge ≡ Some p → (e : OpRefusal) → IsRefusal (no_chain j.other (chain_named c j.other)) e
    → (nall : ℕ) → IsRefusal (join_refusal nall c j) e
no_second c j p found e h nall =
    refused_as (with_first nall c j p) (join_refusal nall c j) (λ x is. first_is c j p found nall ∙ is) e
    (missing (join_fault nall c j p) j.other (chain_named c j.other) e h)

module _ (c : Cell) (j : EdgeJoin) (p q : Chain) (p_found : chain_named c j.edge ≡ Some p) (q_found : chain_named c j.other ≡ Some q) where
  -- where both edges have points
  pub is_fault : (nall : ℕ) → join_refusal nall c j ≡ join_fault nall c j p q
  is_fault nall = first_is c j p p_found nall ∙ ap (λ o. option_map_or (join_fault nall c j p) o (Some (NoEdge j.other.id))) q_found

  pub are_edits : join_edits c j ≡ edits_of_join c j p q
  unfolding join_edits
  are_edits =
      ap (λ o. option_map_or (λ e. option_map_or (edits_of_join c j e) (chain_named c j.other) []) o []) p_found
      ∙ ap (λ o. option_map_or (edits_of_join c j p) o []) q_found

  abbrev users : List Feature
  users = features_of_join c j

  abbrev form_row : ℕ → List (Option OpRefusal)
  form_row nall = form_refused nall (edits_of_join c j p q) ∷ []

  abbrev features_row : ℕ → List (Option OpRefusal)
  features_row nall = features_fault j p.edge users ∷ form_row nall

  pub at_chains : (e : OpRefusal) → IsRefusal (chains_fault c p q) e → (nall : ℕ) → IsRefusal (join_refusal nall c j) e
  at_chains = first_told (chains_fault c p q) features_row (λ nall. join_refusal nall c j) is_fault

  module _ (chains : chains_fault c p q ≡ None) where
    behind_chains : (nall : ℕ) → join_refusal nall c j ≡ first_of (features_row nall)
    behind_chains nall = is_fault nall ∙ first_later (chains_fault c p q) (features_row nall) chains

    at_features : (e : OpRefusal) → IsRefusal (features_fault j p.edge users) e → (nall : ℕ) → IsRefusal (join_refusal nall c j) e
    at_features = first_told (features_fault j p.edge users) form_row (λ nall. join_refusal nall c j) behind_chains

    -- all but the form is right
    at_form : features_fault j p.edge users ≡ None → (nall : ℕ) → join_refusal nall c j ≡ form_refused nall (join_edits c j)
    at_form fine nall =
        behind_chains nall ∙ first_later (features_fault j p.edge users) (form_row nall) fine
        ∙ first_only (form_refused nall (edits_of_join c j p q)) ∙ ap (form_refused nall) (sym are_edits)

    -- what the features that point to the edges leave
    pub finished : (fs : List Feature) → fs ≡ users → (r : Result (List Edit) OpRefusal)
        → MatchResult r (λ edits. (features_fault j p.edge fs ≡ None) × (edits ≡ edits_by_join j p q fs)) (IsRefusal (features_fault j p.edge fs))
        → MatchResult r (λ edits. (edits ≡ join_edits c j) × ((nall : ℕ) → join_refusal nall c j ≡ form_refused nall (join_edits c j)))
        (λ e. (nall : ℕ) → IsRefusal (join_refusal nall c j) e)
    finished fs are (Ok edits) h =
        (h.1 ∙ ap (edits_by_join j p q) are ∙ sym are_edits, at_form (ap (features_fault j p.edge) (sym are) ∙ h.0))
    finished fs are (Err e) h = at_features e (subst (λ l. IsRefusal (features_fault j p.edge l) e) are h)
