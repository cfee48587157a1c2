-- The table of a split's refusals, row for row.
use Rattle.std.proofs.Common.{◌≡◌, ℕ, List, [], ◌∷◌, Option, None, Some, Ok, Err, Result, sym, ap, subst, ◌∙◌}
use Rattle.std.specs.Prelude.{MatchResult}
use Rattle.std.specs.Option.{option_map_or}
use Rattle.s57_types.specs.declared.record.Feature.{Feature}
use Rattle.s57_types.specs.declared.cell.Cell.{Cell}
use Rattle.cell_spec.specs.declared.edit.Edit.{Edit}
use Rattle.topo_ops.specs.Causes.{form_refused, version_end}
use Rattle.topo_ops.specs.Chains.{Chain, chain_named, no_chain}
use Rattle.topo_ops.specs.Features.{features_at}
use Rattle.topo_ops.specs.Refusals.{IsRefusal, first_of}
use Rattle.topo_ops.specs.Split.{cut_fault, edits_by_split, edits_of_split, split_edits, split_fault, split_refusal}
use Rattle.topo_ops.specs.declared.operation.EdgeSplit.{EdgeSplit}
use Rattle.topo_ops.specs.declared.refusal.OpRefusal.{OpRefusal}
use Rattle.topo_ops.specs.declared.refusal.OpRefusal.TheVariants.{NoEdge}
use Rattle.topo_ops.proofs.Rows.{first_later, first_only, first_told, missing}

pub no_edge : (c : Cell) (s : EdgeSplit) (e : OpRefusal) → IsRefusal (no_chain s.edge (chain_named c s.edge)) e → (nall : ℕ)
    → IsRefusal (split_refusal nall c s) e
unfolding split_refusal
no_edge c s e h nall = missing (split_fault nall c s) s.edge (chain_named c s.edge) e h

module _ (c : Cell) (s : EdgeSplit) (chain : Chain) (found : chain_named c s.edge ≡ Some chain) where
  -- where the edge has points
  pub is_fault : (nall : ℕ) → split_refusal nall c s ≡ split_fault nall c s chain
  unfolding split_refusal
  is_fault nall = ap (λ o. option_map_or (split_fault nall c s) o (Some (NoEdge s.edge.id))) found

  pub are_edits : split_edits c s ≡ edits_of_split c s chain
  unfolding split_edits
  are_edits = ap (λ o. option_map_or (edits_of_split c s) o []) found

  abbrev users : List Feature
  users = features_at c (s.edge ∷ [])

  abbrev form_row : ℕ → List (Option OpRefusal)
  form_row nall = form_refused nall (edits_of_split c s chain) ∷ []

  abbrev versions_row : ℕ → List (Option OpRefusal)
  versions_row nall = version_end chain.edge users ∷ form_row nall

  pub at_cut : (e : OpRefusal) → IsRefusal (cut_fault c s chain) e → (nall : ℕ) → IsRefusal (split_refusal nall c s) e
  at_cut = first_told (cut_fault c s chain) versions_row (λ nall. split_refusal nall c s) is_fault

  module _ (can_cut : cut_fault c s chain ≡ None) where
    behind_cut : (nall : ℕ) → split_refusal nall c s ≡ first_of (versions_row nall)
    behind_cut nall = is_fault nall ∙ first_later (cut_fault c s chain) (versions_row nall) can_cut

    at_versions : (e : OpRefusal) → IsRefusal (version_end chain.edge users) e → (nall : ℕ) → IsRefusal (split_refusal nall c s) e
    at_versions = first_told (version_end chain.edge users) form_row (λ nall. split_refusal nall c s) behind_cut

    -- all but the form is right
    at_form : version_end chain.edge users ≡ None → (nall : ℕ) → split_refusal nall c s ≡ form_refused nall (split_edits c s)
    at_form versions nall =
        behind_cut nall ∙ first_later (version_end chain.edge users) (form_row nall) versions
        ∙ first_only (form_refused nall (edits_of_split c s chain)) ∙ ap (form_refused nall) (sym are_edits)

    -- what the features that point to the edge leave
    pub finished : (fs : List Feature) → fs ≡ users → (r : Result (List Edit) OpRefusal)
        → MatchResult r (λ edits. (version_end chain.edge fs ≡ None) × (edits ≡ edits_by_split s chain fs)) (IsRefusal (version_end chain.edge fs))
        → MatchResult r (λ edits. (edits ≡ split_edits c s) × ((nall : ℕ) → split_refusal nall c s ≡ form_refused nall (split_edits c s)))
        (λ e. (nall : ℕ) → IsRefusal (split_refusal nall c s) e)
    finished fs are (Ok edits) h =
        (h.1 ∙ ap (edits_by_split s chain) are ∙ sym are_edits, at_form (ap (version_end chain.edge) (sym are) ∙ h.0))
    finished fs are (Err e) h = at_versions e (subst (λ l. IsRefusal (version_end chain.edge l) e) are h)
