-- What splitting and joining edges keep: where features run, and how often areas use the sides of edges (S-57 Appendix B.1, 3.10.1). This
-- project's own rules.
use Rattle.std.specs.Prelude.{◌≡◌, ℕ, true, false, List, [], Option, None}
use Rattle.s57_types.specs.declared.name.RecName.{RecName}
use Rattle.s57_types.specs.declared.cell.Cell.{Cell}
use Rattle.cell_spec.specs.declared.edit.Edit.{Edit}
use Rattle.cell_spec.specs.Edits.{apply_edits, find_their_records}
use Rattle.cell_spec.specs.Names.{same_name}
use Rattle.edit_sets.specs.FormFault.{GuardedEdits}
use Rattle.rule_spec.specs.declared.side.EdgeSideCounts.{EdgeSideCounts}
use Rattle.rule_spec.specs.Sides.{side_counts, uses_of}
use Rattle.topo_ops.specs.FeatureTrace.{trace_named}
use Rattle.topo_ops.specs.Join.{join_edits, join_refusal}
use Rattle.topo_ops.specs.Split.{split_edits, split_refusal}
use Rattle.topo_ops.specs.declared.operation.EdgeJoin.{EdgeJoin}
use Rattle.topo_ops.specs.declared.operation.EdgeSplit.{EdgeSplit}
use Rattle.topo_ops.specs.declared.refusal.OpRefusal.{OpRefusal}

-- how often Group 1 areas and coverage areas use an edge forward and in reverse
abbrev pub counts_of : Cell → RecName → EdgeSideCounts
counts_of c n = side_counts (uses_of c n)

-- every feature runs where it ran, and all edges but two are used as they were
pub record KeepsTraces (c d : Cell) (e f : RecName) : Type 0 where
  pub traces : (n : RecName) → trace_named d n ≡ trace_named c n
  pub others : (n : RecName) → same_name n e ≡ false → same_name n f ≡ false → counts_of d n ≡ counts_of c n

-- both parts of a split edge are used as the edge was
pub record SplitKeeps (c d : Cell) (s : EdgeSplit) : Type 0 where
  pub keeps : KeepsTraces c d s.edge s.fresh
  pub first : counts_of d s.edge ≡ counts_of c s.edge
  pub second : counts_of d s.fresh ≡ counts_of c s.edge

-- a joined edge is used as each of the two was
pub record JoinKeeps (c d : Cell) (j : EdgeJoin) : Type 0 where
  pub keeps : KeepsTraces c d j.edge j.other
  pub first : counts_of d j.edge ≡ counts_of c j.edge
  pub second : counts_of d j.edge ≡ counts_of c j.other

-- the edit set of an operation that nothing refuses: its edits find their records, and the edited cell keeps what the operation keeps
pub record IsDone (nall : ℕ) (c : Cell) (refusal : Option OpRefusal) (edits : List Edit) (Keeps : Cell → Type 0) (set : GuardedEdits) : Type 0 where
  pub not_refused : refusal ≡ None
  pub edits_are : set.edits ≡ edits
  pub guards_are : set.guards ≡ []
  pub nall_is : set.nall ≡ nall
  pub found : find_their_records set.edits c ≡ true
  pub kept : Keeps (apply_edits set.edits c)

-- that of a split
abbrev pub IsSplit : ℕ → Cell → EdgeSplit → GuardedEdits → Type 0
IsSplit nall c s = IsDone nall c (split_refusal nall c s) (split_edits c s) (λ d. SplitKeeps c d s)

-- and of a join
abbrev pub IsJoin : ℕ → Cell → EdgeJoin → GuardedEdits → Type 0
IsJoin nall c j = IsDone nall c (join_refusal nall c j) (join_edits c j) (λ d. JoinKeeps c d j)
