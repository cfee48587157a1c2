-- A number behind those of a list.
use Rattle.std.proofs.Common.{◌≡◌, ℕ, zero, suc, ◌+◌, List, [], ◌∷◌, length, Some, sym, subst, arith}
use Rattle.std.specs.Prelude.{slice_get}
use Rattle.std.specs.List.Sorted.{IsStrictlySortedBy}
use Rattle.std.specs.Cmp.{nat_cmp_is}
use Rattle.std.specs.Ordering.{nat_cmp}
use Rattle.std.specs.declared.cmp.Ordering.TheVariants.{Less}
use Rattle.std.proofs.lemmas.Cmp.{nat_cmp_total}
use Rattle.row_spec.specs.Rows.{EachKeyIs, IsAscending}

-- all numbers are below the one after the last
pub below_last : {V : Type 0} (rows : List (ℕ × V)) (k : ℕ) (row : ℕ × V) → suc k ≡ length rows → slice_get rows k ≡ Some row → IsAscending nat_cmp rows
    → EachKeyIs nat_cmp Less (row.0 + 1) rows
unfolding IsStrictlySortedBy
below_last {V} [] k row count is ascending = absurd (omega arith)
below_last {V} (r ∷ []) zero row count is ascending = let same : r ≡ row = cc in
    (subst (λ (s : ℕ × V). nat_cmp s.0 (row.0 + 1) ≡ Less) (sym same) (sym (nat_cmp_is row.0 (row.0 + 1) Less (omega arith))), tt)
below_last {V} (r ∷ []) (suc k) row count is ascending = absurd (omega arith)
below_last {V} (r ∷ s ∷ rest) zero row count is ascending = absurd (omega arith)
below_last {V} (r ∷ s ∷ rest) (suc k) row count is ascending =
    let later = below_last (s ∷ rest) k row (omega arith) is ascending.1 in (nat_cmp_total.trans r.0 s.0 (row.0 + 1) ascending.0.0 later.0, later)
