-- Runs of scripts on small cells, with their reports.
use Rattle.std.specs.Prelude.{◌≡◌, ℕ, List, [], ◌∷◌, codes}
use Rattle.std.specs.List.{flat_map}
use Rattle.s57_types.specs.Heads.{head_name}
use Rattle.s57_types.specs.declared.head.Level.TheVariants.{Zero, One}
use Rattle.s57_types.specs.declared.record.Rec.{Rec}
use Rattle.s57_types.specs.declared.record.Rec.TheVariants.{V, F, H}
use Rattle.cell_spec.specs.declared.edit.Edit.{Edit}
use Rattle.cell_spec.specs.declared.edit.Edit.TheVariants.{Add, Set, Del}
use Rattle.sample_cells.specs.Parts.{vc, ve, fe, objnam, feature, at, node, vector, end_of, depth_area, square}
use Rattle.sample_cells.specs.Samples.{at_level, dangling, grid}
use Rattle.text_spec.specs.declared.command.Command.{Command}
use Rattle.text_spec.specs.declared.command.Command.TheVariants.{View, Commit, Drop, Push, Guard}
use Rattle.history_spec.specs.ReportText.{report}
use Rattle.history_samples.specs.Lines.{fed}

abbrev pub text_of_lines : List (List ℕ) → List ℕ
text_of_lines = flat_map fed

-- the second version of a record
abbrev pub renewed : Rec → Rec
renewed (V v) = V (record v { rver = 2 })
renewed (F f) = F (record f { rver = 2 })
renewed (H h) = H h

-- a session that sees the newest state and commits one edit
abbrev pub edit_seen : Edit → List Command
edit_seen edit = View ∷ Push edit ∷ Commit ∷ []

abbrev pub move_node : ℕ → Edit
move_node place = Set (renewed (node 1 (at place place)))

-- an edge gets its two nodes; an empty draft and a deletion of no record are refused
abbrev pub MinimalRunIsReported : Type 0
MinimalRunIsReported =
    report dangling (
    edit_seen (Set (renewed (vector (ve 2) (end_of 1 (vc 1) ∷ end_of 2 (vc 2) ∷ []) (at 50 50 ∷ [])))) ∷ (Commit ∷ Push (Del (vc 9)) ∷ Commit ∷ []) ∷ [])
    (1 ∷ 2 ∷ 2 ∷ 1 ∷ [])
    ≡ text_of_lines (
    codes "order 1 2 2 1" ∷
    codes "session 1" ∷
    codes "view seen 0 findings 4" ∷
    codes "draft 1" ∷
    codes "commit accepted 1 findings 2" ∷
    codes "session 2" ∷
    codes "commit refused empty" ∷
    codes "draft 1" ∷
    codes "commit refused del missing vc 9" ∷
    codes "history" ∷
    codes "commit 1 desk 1 findings 2" ∷
    codes "set ve 2 2 e=vc:1:255:255:1:255 e=vc:2:255:255:2:255 p=50,50" ∷
    codes "cell vi 0 vc 2 ve 2 fe 0" ∷
    codes "findings 2" ∷
    codes "side ve 1 Orphan" ∷
    codes "side ve 2 Orphan" ∷
    codes "end" ∷ [])

-- the last lines of a report that leaves the dangling edge
abbrev pub dangling_cell : List (List ℕ)
dangling_cell =
    codes "cell vi 0 vc 2 ve 2 fe 0" ∷
    codes "findings 4" ∷
    codes "rec ve 2 EndCount 1 0 1" ∷
    codes "rec ve 2 DanglingEnd 1" ∷
    codes "side ve 1 Orphan" ∷
    codes "side ve 2 Orphan" ∷
    codes "end" ∷ []

-- the second of two commits that name one record is shown the first
abbrev pub ClashIsReported : Type 0
ClashIsReported =
    report dangling ((Push (Set (renewed (node 1 (at 0 1)))) ∷ Commit ∷ []) ∷ (Push (Set (renewed (node 1 (at 0 2)))) ∷ Commit ∷ []) ∷ []) (1 ∷ 2 ∷ [])
    ≡ text_of_lines (
    codes "order 1 2" ∷
    codes "session 1" ∷
    codes "draft 1" ∷
    codes "commit accepted 1 findings 4" ∷
    codes "session 2" ∷
    codes "draft 1" ∷
    codes "commit refused newer 1 vc 1 desk 1" ∷
    codes "history" ∷
    codes "commit 1 desk 1 findings 4" ∷
    codes "set vc 1 2 p=0,1" ∷
    dangling_cell)

-- a session that has seen the newer commit may change its record
abbrev pub ViewEndsTheClash : Type 0
ViewEndsTheClash =
    report grid (edit_seen (move_node 1) ∷ (View ∷ Push (move_node 2) ∷ Commit ∷ View ∷ Push (move_node 2) ∷ Commit ∷ []) ∷ []) (1 ∷ 2 ∷ 1 ∷ 2 ∷ 2 ∷ 2 ∷ [])
    ≡ text_of_lines (
    codes "order 1 2 1 2 2 2" ∷
    codes "session 1" ∷
    codes "view seen 0 findings 0" ∷
    codes "draft 1" ∷
    codes "commit accepted 1 findings 0" ∷
    codes "session 2" ∷
    codes "view seen 0 findings 0" ∷
    codes "draft 1" ∷
    codes "commit refused newer 1 vc 1 desk 1" ∷
    codes "view seen 1 findings 0" ∷
    codes "draft 1" ∷
    codes "commit accepted 2 findings 0" ∷
    codes "history" ∷
    codes "commit 1 desk 1 findings 0" ∷
    codes "set vc 1 2 p=1,1" ∷
    codes "commit 2 desk 2 findings 0" ∷
    codes "set vc 1 2 p=2,2" ∷
    codes "cell vi 0 vc 4 ve 4 fe 2" ∷
    codes "findings 0" ∷
    codes "end" ∷ [])

-- two sessions change different records; findings of all kinds
abbrev pub TwoSessionsAreReported : Type 0
TwoSessionsAreReported =
    report grid (edit_seen (move_node 1) ∷ edit_seen (Add (depth_area 3 square)) ∷ []) (1 ∷ 2 ∷ 2 ∷ 1 ∷ [])
    ≡ text_of_lines (
    codes "order 1 2 2 1" ∷
    codes "session 1" ∷
    codes "view seen 0 findings 0" ∷
    codes "draft 1" ∷
    codes "commit accepted 2 findings 8" ∷
    codes "session 2" ∷
    codes "view seen 0 findings 0" ∷
    codes "draft 1" ∷
    codes "commit accepted 1 findings 8" ∷
    codes "history" ∷
    codes "commit 1 desk 2 findings 8" ∷
    codes "add fe 3 1 3 1 42 1 3 1 s=ve:3:1:1:255 s=ve:2:1:1:255 s=ve:4:2:1:255 s=ve:1:2:1:255" ∷
    codes "commit 2 desk 1 findings 8" ∷
    codes "set vc 1 2 p=1,1" ∷
    codes "cell vi 0 vc 4 ve 4 fe 3" ∷
    codes "findings 8" ∷
    codes "side ve 1 SideOverlap 0 2 0 1" ∷
    codes "side ve 1 SideUnbalanced 0 2 0 1" ∷
    codes "side ve 2 SideOverlap 2 0 1 0" ∷
    codes "side ve 2 SideUnbalanced 2 0 1 0" ∷
    codes "side ve 3 SideOverlap 2 0 1 0" ∷
    codes "side ve 3 SideUnbalanced 2 0 1 0" ∷
    codes "side ve 4 SideOverlap 0 2 0 1" ∷
    codes "side ve 4 SideUnbalanced 0 2 0 1" ∷
    codes "end" ∷ [])

-- a commit rests on the node that it guards, twice here, and a smaller guard goes before an edit; a draft's guards aren't counted, a drop and a
-- commit empty them, and a guard that its base has seen stands against nothing, nor does one of what isn't there
abbrev pub move_second : ℕ → Edit
move_second place = Set (renewed (node 2 (at 0 place)))

abbrev pub GuardsAreContested : Type 0
GuardsAreContested =
    report dangling (
    (Push (Set (renewed (node 1 (at 0 1)))) ∷ Push (move_second 3) ∷ Commit ∷ []) ∷
    (Guard (vc 1) ∷ Push (move_second 2) ∷ Guard (vc 1) ∷ Commit ∷ Guard (vc 1) ∷ Drop ∷ Commit ∷ View ∷ Guard (vc 1) ∷ Guard
    (fe 7) ∷ Push (move_second 2) ∷ Commit ∷ []) ∷ [])
    (1 ∷ 2 ∷ 2 ∷ 2 ∷ 2 ∷ [])
    ≡ text_of_lines (
    codes "order 1 2 2 2 2" ∷
    codes "session 1" ∷
    codes "draft 1" ∷
    codes "draft 2" ∷
    codes "commit accepted 1 findings 4" ∷
    codes "session 2" ∷
    codes "draft 0" ∷
    codes "draft 1" ∷
    codes "draft 1" ∷
    codes "commit refused newer 1 vc 1 desk 1" ∷
    codes "draft 0" ∷
    codes "draft 0" ∷
    codes "commit refused empty" ∷
    codes "view seen 1 findings 4" ∷
    codes "draft 0" ∷
    codes "draft 0" ∷
    codes "draft 1" ∷
    codes "commit accepted 2 findings 4" ∷
    codes "history" ∷
    codes "commit 1 desk 1 findings 4" ∷
    codes "set vc 1 2 p=0,1" ∷
    codes "set vc 2 2 p=0,3" ∷
    codes "commit 2 desk 2 findings 4" ∷
    codes "set vc 2 2 p=0,2" ∷
    dangling_cell)

-- an attribute beyond ASCII is bad at level 0 of texts alone; a guard of the head, and an edit of it, are contested by an edit of it
abbrev pub accented : Edit
accented = Set (renewed (feature 1 3 1 42 (objnam (195 ∷ []) ∷ []) square))

abbrev pub HeadIsEdited : Type 0
HeadIsEdited =
    report grid (
    (Push accented ∷ Commit ∷ Push (at_level One) ∷ Commit ∷ []) ∷
    (Push (move_node 1) ∷ Guard head_name ∷ Commit ∷ Push (at_level Zero) ∷ Commit ∷ View ∷ Push (at_level Zero) ∷ Commit ∷ []) ∷ [])
    (1 ∷ 1 ∷ 2 ∷ 2 ∷ 2 ∷ 2 ∷ [])
    ≡ text_of_lines (
    codes "order 1 1 2 2 2 2" ∷
    codes "session 1" ∷
    codes "draft 1" ∷
    codes "commit accepted 1 findings 1" ∷
    codes "draft 1" ∷
    codes "commit accepted 2 findings 0" ∷
    codes "session 2" ∷
    codes "draft 1" ∷
    codes "draft 1" ∷
    codes "commit refused newer 2 head 0 desk 1" ∷
    codes "draft 1" ∷
    codes "commit refused newer 2 head 0 desk 1" ∷
    codes "view seen 2 findings 0" ∷
    codes "draft 1" ∷
    codes "commit accepted 3 findings 1" ∷
    codes "history" ∷
    codes "commit 1 desk 1 findings 1" ∷
    codes "set fe 1 2 3 1 42 1 1 1 a=116:%C3 s=ve:3:1:1:255 s=ve:2:1:1:255 s=ve:4:2:1:255 s=ve:1:2:1:255" ∷
    codes "commit 2 desk 1 findings 0" ∷
    codes "set head edtn= updn= uadt=00000000 isdt=00000000 aall=1 comt=" ∷
    codes "commit 3 desk 2 findings 1" ∷
    codes "set head edtn= updn= uadt=00000000 isdt=00000000 aall=0 comt=" ∷
    codes "cell vi 0 vc 4 ve 4 fe 2" ∷
    codes "findings 1" ∷
    codes "rec fe 1 BadLevel 1" ∷
    codes "end" ∷ [])
