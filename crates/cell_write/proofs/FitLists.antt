-- Each list of a writable cell has records that fit.
use Rattle.std.proofs.Common.{◌≡◌, ℕ, List, [], ◌∷◌, ◌++◌}
use Rattle.std.specs.Prelude.{All, None}
use Rattle.std.proofs.lemmas.List.Elements.{All-nil, All-cons, All-head, All-tail, All-same}
use Rattle.s57_types.specs.Fitness.{unfitness}
use Rattle.s57_types.specs.declared.cell.Cell.{Cell}
use Rattle.s57_types.specs.declared.record.Rec.{Rec}
use Rattle.cell_spec.specs.Writable.{AreFit, IsWritable}

before : {X : Type 0} (P : X → Type 0) (xs ys : List X) → All P (xs ++ ys) → All P xs
before P [] ys all = All-nil P
before P (x ∷ xs) ys all = All-cons P x xs (All-head P x (xs ++ ys) all) (before P xs ys (All-tail P x (xs ++ ys) all))

behind : {X : Type 0} (P : X → Type 0) (xs ys : List X) → All P (xs ++ ys) → All P ys
behind P [] ys all = all
behind P (x ∷ xs) ys all = behind P xs ys (All-tail P x (xs ++ ys) all)

abbrev Fits : ℕ → Rec → Type 0
Fits nall r = unfitness nall r ≡ None

lists_fit : (nall : ℕ) (a b c d : List Rec) → AreFit nall (a ++ b ++ c ++ d) → AreFit nall a × AreFit nall b × AreFit nall c × AreFit nall d
lists_fit nall a b c d fit =
    let three : AreFit nall (a ++ b ++ c) = before (Fits nall) (a ++ b ++ c) d fit in
    let two : AreFit nall (a ++ b) = before (Fits nall) (a ++ b) c three in
    (before (Fits nall) a b two, behind (Fits nall) a b two, behind (Fits nall) (a ++ b) c three, behind (Fits nall) (a ++ b ++ c) d fit)

-- a slice of one of the lists
pub connected_fit : (cell : Cell) (slice : List Rec) → IsWritable cell → slice ≡ cell.vc → AreFit cell.head.nall slice
connected_fit cell slice w same = All-same (Fits cell.head.nall) slice cell.vc same (lists_fit cell.head.nall cell.vi cell.vc cell.ve cell.fe w.records_fit).1

pub edges_fit : (cell : Cell) (slice : List Rec) → IsWritable cell → slice ≡ cell.ve → AreFit cell.head.nall slice
edges_fit cell slice w same = All-same (Fits cell.head.nall) slice cell.ve same (lists_fit cell.head.nall cell.vi cell.vc cell.ve cell.fe w.records_fit).2

pub features_fit : (cell : Cell) (slice : List Rec) → IsWritable cell → slice ≡ cell.fe → AreFit cell.head.nall slice
features_fit cell slice w same = All-same (Fits cell.head.nall) slice cell.fe same (lists_fit cell.head.nall cell.vi cell.vc cell.ve cell.fe w.records_fit).3
