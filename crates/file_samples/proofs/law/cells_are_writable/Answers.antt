use Rattle.std.proofs.Common.{◌≡◌, ℕ, ◌≤◌, Bool, true, false, not, ◌&&◌, List, [], ◌∷◌, length, map, Decides, refl, ap, arith, nat_le}
use Rattle.std.specs.Prelude.{Option, Some, None, is_none, ◌==◌}
use Rattle.std.specs.List.{list_all, IsDistinct, AllByRecursion}
use Rattle.std.specs.Fmt.{digits}
use Rattle.std.proofs.lemmas.Bool.Decides.{Decides-and, Decides-like, Decides-by_and, Decides-eqb, nat_tests}
use Rattle.s57_types.specs.Fitness.{unfitness, is_fit_head}
use Rattle.s57_types.specs.declared.cell.Cell.{Cell}
use Rattle.s57_types.specs.declared.fault.Unfit.{Unfit}
use Rattle.s57_types.specs.declared.name.Kind.{Kind}
use Rattle.s57_types.specs.declared.name.Kind.TheVariants.{Vi, Vc, Ve, Fe}
use Rattle.s57_types.specs.declared.name.RecName.{RecName}
use Rattle.s57_types.specs.declared.record.Rec.{Rec}
use Rattle.cell_spec.specs.Lookup.{all_records, name_of}
use Rattle.cell_spec.specs.Names.{same_name, kind_rank}
use Rattle.cell_spec.proofs.Orders.{same_kind}
use Rattle.cell_spec.specs.Writable.{IsWritable, AreOfKind, AreFit, record_limit}
use Rattle.file_samples.specs.WritableCells.{are_of_kind, are_distinct, is_writable}
use Rattle.file_samples.proofs.law.cells_are_writable.Goals as goal

kind_decides : (a b : Kind) → Decides (kind_rank a == kind_rank b) (a ≡ b)
kind_decides a b = Decides-like _ (same_kind a b) (ap kind_rank) (Decides-eqb (kind_rank a) (kind_rank b))

kinds_decide : (kind : Kind) (records : List Rec) → Decides (are_of_kind kind records) (AreOfKind kind records)
kinds_decide kind records = Decides-by_and _ _ (are_of_kind kind) (λ r. kind_decides (name_of r).kind kind) refl (λ _ _. refl) records

none_decides : (fault : Option Unfit) → Decides (is_none fault) (fault ≡ None)
none_decides None = (λ e. refl, λ e. refl)
none_decides (Some u) = (λ e. absurd cc, λ e. absurd cc)

fits_decide : (nall : ℕ) (records : List Rec) → Decides (list_all (λ r. is_none (unfitness nall r)) records) (AreFit nall records)
fits_decide nall records = Decides-by_and _ _ (list_all (λ r. is_none (unfitness nall r))) (λ r. none_decides (unfitness nall r)) refl (λ _ _. refl) records

false_decides : (b : Bool) → Decides (not b) (b ≡ false)
false_decides true = (λ e. absurd cc, λ e. absurd cc)
false_decides false = (λ e. refl, λ e. refl)

others_decide : (n : RecName) (names : List RecName) → Decides (list_all (λ m. not (same_name n m)) names) (AllByRecursion (λ m. same_name n m ≡ false) names)
others_decide n [] = (λ e. tt, λ e. refl)
others_decide n (m ∷ names) = Decides-and _ _ (false_decides (same_name n m)) (others_decide n names)

names_decide : (names : List RecName) → Decides (are_distinct names) (IsDistinct same_name names)
unfolding IsDistinct
names_decide [] = (λ e. tt, λ e. refl)
names_decide (n ∷ names) = Decides-and _ _ (others_decide n names) (names_decide names)

le_decides : (a b : ℕ) → Decides (nat_le a b) (a ≤ b)
le_decides a b = (λ e. grind (arith, nat_tests), λ h. grind (arith, nat_tests))

infixl 12 ◌and◌
◌and◌ : {x y : Bool} {P Q : Type 0} → Decides x P → Decides y Q → Decides (x && y) (P × Q)
p and q = Decides-and _ _ p q

bool_decides : (b : Bool) → Decides b (b ≡ true)
bool_decides b = (λ e. e, λ e. e)

writable_decides : (c : Cell) → Decides (is_writable c) (IsWritable c)
unfolding is_writable
writable_decides c = Decides-like _
    (λ (((((((a, k), d), e), f), g), h), m). record {
      head_fits = a;
      isolated_nodes = k;
      connected_nodes = d;
      edges = e;
      features =
          f;
      records_fit = g;
      names_distinct = h;
      not_too_many = m;
    })
    (λ w. (((((((w.head_fits, w.isolated_nodes), w.connected_nodes), w.edges), w.features), w.records_fit), w.names_distinct), w.not_too_many))
    (bool_decides (is_fit_head c.head) and kinds_decide Vi c.vi and kinds_decide Vc c.vc and kinds_decide Ve c.ve and kinds_decide Fe c.fe
    and fits_decide c.head.nall (all_records c) and names_decide (map name_of (all_records c)) and le_decides (length (all_records c)) record_limit)

pub returns-clause-decided : goal.returns-clause-decided
returns-clause-decided c = writable_decides

pub returns-clause-good : goal.returns-clause-good
unfolding is_writable digits unfitness is_fit_head
returns-clause-good c = refl

pub returns-clause-bad : goal.returns-clause-bad
unfolding is_writable digits unfitness is_fit_head
returns-clause-bad c = refl

pub returns-clause-count : goal.returns-clause-count
returns-clause-count c = refl
