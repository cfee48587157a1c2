-- A key that no row has.
use Rattle.std.proofs.Common.{◌≡◌, List, [], ◌∷◌, Bor, Option, Some, None, is_some, refl, ap, Ordering, is_eq, true, false, cond, true≢false}
use Rattle.std.specs.Option.{option_copied}
use Rattle.row_spec.specs.Rows.{value_of, without_key}

-- the rows without it are the rows
pub without_absent : {K V : Type 0} (cmp : K → K → Ordering) (rows : List (K × V)) (key : K) → value_of cmp rows key ≡ None → without_key cmp rows key ≡ rows
without_absent cmp [] key none = refl
without_absent cmp (row ∷ rows) key none =
    elim (is_eq (cmp row.0 key)) as (λ same. cond same (Some row.1) (value_of cmp rows key) ≡ None
    → cond same rows (row ∷ without_key cmp rows key) ≡ row ∷ rows) [
      | true ↦ λ is. absurd (let n = ap is_some is in true≢false n)
      | false ↦ λ is. ap (λ rest. row ∷ rest) (without_absent cmp rows key is)
    ] none

pub copied_none : {A : Type 0} (found : Option (Bor A)) → is_some found ≡ false → option_copied found ≡ None
copied_none None is = refl
copied_none (Some value) is = absurd (true≢false is)
