-- The edit set of a split or a join that nothing refuses.
use Rattle.std.proofs.Common.{◌≡◌, ℕ, List, [], Option, None, Some, Result, refl, sym, ap, subst, ◌∙◌}
use Rattle.std.specs.Prelude.{IsErrAnd, MatchResult, option_map}
use Rattle.std.specs.Option.{option_map_or}
use Rattle.s57_types.specs.declared.cell.Cell.{Cell}
use Rattle.cell_spec.specs.declared.edit.Edit.{Edit}
use Rattle.cell_spec.specs.Edits.{apply_edits, find_their_records}
use Rattle.cell_spec.specs.Readable.{IsReadable}
use Rattle.edit_sets.specs.FormFault.{GuardedEdits, IsFormed, IsSetOf, form_fault}
use Rattle.topo_ops.specs.Causes.{form_refused}
use Rattle.topo_ops.specs.Chains.{Chain, chain_named, edge_name}
use Rattle.topo_ops.specs.Join.{edits_of_join, join_by, join_edits, join_fault, join_refusal}
use Rattle.topo_ops.specs.Kept.{IsJoin, IsSplit, JoinKeeps, SplitKeeps}
use Rattle.topo_ops.specs.Split.{edits_of_split, split_by, split_edits, split_fault, split_refusal}
use Rattle.topo_ops.specs.Refusals.{IsRefusal}
use Rattle.topo_ops.specs.declared.operation.EdgeJoin.{EdgeJoin}
use Rattle.topo_ops.specs.declared.operation.EdgeSplit.{EdgeSplit}
use Rattle.topo_ops.specs.declared.refusal.OpRefusal.{OpRefusal}
use Rattle.topo_ops.proofs.JoinKept.{join_found, join_keeps}
use Rattle.topo_ops.proofs.Rows.{handed_on}
use Rattle.topo_ops.proofs.SplitKept.{split_found, split_keeps}
use Rattle.topo_ops.specs.declared.refusal.OpRefusal.TheVariants.{NoEdge, Form}
use Rattle.topo_ops.proofs.JoinRows.{are_edits as are_join_edits, is_fault as is_join_fault}
use Rattle.topo_ops.proofs.SplitRows.{are_edits as are_split_edits, is_fault as is_split_fault}

-- ---- an edge that is there where nothing is refused
there_by : (rows : Chain → Option OpRefusal) (id : ℕ) (o : Option Chain) → option_map_or rows o (Some (NoEdge id)) ≡ None → (chain : Chain) × (o ≡ Some chain)
there_by rows id None e = cc
there_by rows id (Some chain) e = (chain, refl)

no_form_fault : (nall : ℕ) (edits : List Edit) → form_fault nall edits [] ≡ None → form_refused nall edits ≡ None
no_form_fault nall edits e = ap (option_map (λ fault. Form fault)) e

module _ (nall : ℕ) (c : Cell) (readable : IsReadable c) (set : GuardedEdits) (formed : IsFormed set.nall set.edits set.guards) where
  formed_as : (edits : List Edit) → set.edits ≡ edits → set.guards ≡ [] → set.nall ≡ nall → IsFormed nall edits []
  formed_as edits are no_guards level =
      subst (λ guards. IsFormed nall edits guards) no_guards
      (subst (λ list. IsFormed nall list set.guards) are (subst (λ n. IsFormed n set.edits set.guards) level formed))

  module _ (edge at node fresh : ℕ) (is : IsSetOf nall (split_edits c (split_by edge at node fresh)) [] set)
      (all_but_form : split_refusal nall c (split_by edge at node fresh) ≡ form_refused nall (split_edits c (split_by edge at node fresh))) where
    not_refused : split_refusal nall c (split_by edge at node fresh) ≡ None
    not_refused = all_but_form ∙ no_form_fault nall (split_edits c (split_by edge at node fresh)) is.no_fault

    split_there : (chain : Chain) × (chain_named c (edge_name edge) ≡ Some chain)
    unfolding split_refusal
    split_there = there_by (split_fault nall c (split_by edge at node fresh)) edge (chain_named c (edge_name edge)) not_refused

    pub is_split : IsSplit nall c (split_by edge at node fresh) set
    is_split =
        let s = split_by edge at node fresh in
        let chain = split_there.0 in
        let found = split_there.1 in
        let edits : set.edits ≡ edits_of_split c s chain = is.edits_are ∙ are_split_edits c s chain found in
        let fault : split_fault nall c s chain ≡ None = sym (is_split_fault c s chain found nall) ∙ not_refused in
        let form = formed_as (edits_of_split c s chain) edits is.guards_are is.nall_is in
        record {
          not_refused = not_refused;
          edits_are = is.edits_are;
          guards_are = is.guards_are;
          nall_is = is.nall_is;
          found = ap (λ list. find_their_records list c) edits ∙ split_found nall c readable edge at node fresh chain found fault form;
          kept = subst (λ list. SplitKeeps c (apply_edits list c) s) (sym edits) (split_keeps nall c readable edge at node fresh chain found fault form);
        }

  module _ (edge other : ℕ) (is : IsSetOf nall (join_edits c (join_by edge other)) [] set)
      (all_but_form : join_refusal nall c (join_by edge other) ≡ form_refused nall (join_edits c (join_by edge other))) where
    not_refused_join : join_refusal nall c (join_by edge other) ≡ None
    not_refused_join = all_but_form ∙ no_form_fault nall (join_edits c (join_by edge other)) is.no_fault

    first_there : (chain : Chain) × (chain_named c (edge_name edge) ≡ Some chain)
    unfolding join_refusal
    first_there = there_by (λ e. option_map_or (join_fault nall c (join_by edge other) e) (chain_named c (edge_name other)) (Some (NoEdge other))) edge
        (chain_named c (edge_name edge)) not_refused_join

    second_there : (chain : Chain) × (chain_named c (edge_name other) ≡ Some chain)
    unfolding join_refusal
    second_there =
        let j = join_by edge other in
        let rows = λ (e : Chain). option_map_or (join_fault nall c j e) (chain_named c (edge_name other)) (Some (NoEdge other)) in
        there_by (join_fault nall c j first_there.0) other (chain_named c (edge_name other))
        (ap (λ o. option_map_or rows o (Some (NoEdge edge))) (sym first_there.1) ∙ not_refused_join)

    pub is_join : IsJoin nall c (join_by edge other) set
    is_join =
        let j = join_by edge other in
        let p = first_there.0 in
        let q = second_there.0 in
        let edits : set.edits ≡ edits_of_join c j p q = is.edits_are ∙ are_join_edits c j p q first_there.1 second_there.1 in
        let fault : join_fault nall c j p q ≡ None = sym (is_join_fault c j p q first_there.1 second_there.1 nall) ∙ not_refused_join in
        let form = formed_as (edits_of_join c j p q) edits is.guards_are is.nall_is in
        record {
          not_refused = not_refused_join;
          edits_are = is.edits_are;
          guards_are = is.guards_are;
          nall_is = is.nall_is;
          found = ap (λ list. find_their_records list c) edits ∙ join_found nall c readable edge other p q first_there.1 second_there.1 fault form;
          kept = subst (λ list. JoinKeeps c (apply_edits list c) j) (sym edits)
              (join_keeps nall c readable edge other p q first_there.1 second_there.1 fault form);
        }

-- ---- what the calls answer
module _ {S T : Type 0} (refusal : ℕ → S → Option OpRefusal) (nall : ℕ) (s t : S) (same : s ≡ t) (Good : T → Type 0) (r : Result T OpRefusal)
    (e : OpRefusal) (told : IsErrAnd r (λ x. x ≡ e)) where
  -- a refusal of the one operation is that of the same one
  pub refused_call : ((level : ℕ) → IsRefusal (refusal level s) e) → MatchResult r Good (IsRefusal (refusal nall t))
  refused_call h = handed_on Good (IsRefusal (refusal nall t)) e r (subst (λ x. IsRefusal (refusal nall x) e) same (h nall)) told

  pub unformed_call : (edits all : List Edit) → edits ≡ all → ((level : ℕ) → refusal level s ≡ form_refused level all)
      → IsRefusal (form_refused nall edits) e → MatchResult r Good (IsRefusal (refusal nall t))
  unformed_call edits all are all_but_form h = handed_on Good (IsRefusal (refusal nall t)) e r
      (subst (λ o. IsRefusal o e) (ap (form_refused nall) are ∙ sym (all_but_form nall) ∙ ap (refusal nall) same) h) told

module _ (nall : ℕ) (c : Cell) (readable : IsReadable c) (set : GuardedEdits) (formed : IsFormed set.nall set.edits set.guards) (edits : List Edit)
    (is : IsSetOf nall edits [] set) where
  pub split_answer : (edge at node fresh : ℕ) (s : EdgeSplit) → s ≡ split_by edge at node fresh → edits ≡ split_edits c s
      → ((level : ℕ) → split_refusal level c s ≡ form_refused level (split_edits c s)) → IsSplit nall c (split_by edge at node fresh) set
  split_answer edge at node fresh s same are all_but_form =
      is_split nall c readable set formed edge at node fresh
      (subst (λ list. IsSetOf nall list [] set) (are ∙ ap (split_edits c) same) is)
      (subst (λ x. split_refusal nall c x ≡ form_refused nall (split_edits c x)) same (all_but_form nall))

  pub join_answer : (edge other : ℕ) (s : EdgeJoin) → s ≡ join_by edge other → edits ≡ join_edits c s
      → ((level : ℕ) → join_refusal level c s ≡ form_refused level (join_edits c s)) → IsJoin nall c (join_by edge other) set
  join_answer edge other s same are all_but_form =
      is_join nall c readable set formed edge other
      (subst (λ list. IsSetOf nall list [] set) (are ∙ ap (join_edits c) same) is)
      (subst (λ x. join_refusal nall c x ≡ form_refused nall (join_edits c x)) same (all_but_form nall))
