-- What a change of the block for a key makes of all rows.
use Rattle.std.proofs.Common.{◌≡◌, ℕ, suc, ◌+◌, List, [], ◌∷◌, ◌++◌, take, drop, set, Some, refl, sym, ap, ◌∙◌, Ordering, Less, Equal, Greater, is_eq, is_lt}
use Rattle.std.proofs.Common.{cond, true, false}
use Rattle.std.specs.Ordering.{match_ordering}
use Rattle.row_spec.specs.Rows.{value_of, with_row, without_key, lower_bound, EachKeyIs}
use Rattle.row_spec.specs.Blocks.{joined, block_at, rows_before, replaced, IsBlockFor}
use Rattle.row_spec.proofs.Place.{value_of-append_below, value_of-above, with_row-append_below, with_row-above, without_key-append_below, without_key-above}
use Rattle.row_spec.proofs.Place.{lower_bound-append_below, lower_bound-above}
use Rattle.row_spec.proofs.Joined.{joined_parted, joined-set, joined-replaced}

module _ {K V : Type 0} (cmp : K → K → Ordering) where
  -- rows whose keys are above the key are not looked at, and stay behind
  value_of-append_above : (block back : List (K × V)) (key : K) → EachKeyIs cmp Greater key back → value_of cmp (block ++ back) key ≡ value_of cmp block key
  value_of-append_above [] back key above = value_of-above cmp back key above
  value_of-append_above (row ∷ block) back key above = ap (λ rest. cond (is_eq (cmp row.0 key)) (Some row.1) rest) (value_of-append_above block back key above)

  with_row-append_above : (block back : List (K × V)) (key : K) (value : V) → EachKeyIs cmp Greater key back
      → with_row cmp (block ++ back) key value ≡ with_row cmp block key value ++ back
  with_row-append_above [] back key value above = with_row-above cmp back key value above
  with_row-append_above (row ∷ block) back key value above =
      elim (cmp row.0 key) as (λ answer. match_ordering answer (row ∷ with_row cmp (block ++ back) key value) ((key, value) ∷ (block ++ back))
      ((key, value) ∷ row ∷ (block ++ back)) ≡ match_ordering answer (row ∷ with_row cmp block key value) ((key, value) ∷ block)
      ((key, value) ∷ row ∷ block) ++ back) [
        | Less ↦ ap (λ rest. row ∷ rest) (with_row-append_above block back key value above)
        | Equal ↦ refl
        | Greater ↦ refl
      ]

  without_key-append_above : (block back : List (K × V)) (key : K) → EachKeyIs cmp Greater key back
      → without_key cmp (block ++ back) key ≡ without_key cmp block key ++ back
  without_key-append_above [] back key above = without_key-above cmp back key above
  without_key-append_above (row ∷ block) back key above =
      elim (is_eq (cmp row.0 key)) as (λ same. cond same (block ++ back) (row ∷ without_key cmp (block ++ back) key) ≡ cond same block
      (row ∷ without_key cmp block key) ++ back) [
        | true ↦ refl
        | false ↦ ap (λ rest. row ∷ rest) (without_key-append_above block back key above)
      ]

  lower_bound-append_above : (block back : List (K × V)) (key : K) → EachKeyIs cmp Greater key back
      → lower_bound cmp (block ++ back) key ≡ lower_bound cmp block key
  lower_bound-append_above [] back key above = lower_bound-above cmp back key above
  lower_bound-append_above (row ∷ block) back key above = ap (λ rest. cond (is_lt (cmp row.0 key)) (1 + rest) 0) (lower_bound-append_above block back key above)

  module _ (blocks : List (List (K × V))) (key : K) (place : ℕ) (found : IsBlockFor cmp blocks key place) where
    pub value_of-block : value_of cmp (joined blocks) key ≡ value_of cmp (block_at blocks place) key
    value_of-block =
        ap (λ rows. value_of cmp rows key) (joined_parted blocks place found.in_range)
        ∙ value_of-append_below cmp (joined (take place blocks)) (block_at blocks place ++ joined (drop (suc place) blocks)) key found.below
        ∙ value_of-append_above (block_at blocks place) (joined (drop (suc place) blocks)) key found.above

    pub lower_bound-block : lower_bound cmp (joined blocks) key ≡ rows_before blocks place + lower_bound cmp (block_at blocks place) key
    lower_bound-block =
        ap (λ rows. lower_bound cmp rows key) (joined_parted blocks place found.in_range)
        ∙ lower_bound-append_below cmp (joined (take place blocks)) (block_at blocks place ++ joined (drop (suc place) blocks)) key found.below
        ∙ ap (λ n. rows_before blocks place + n) (lower_bound-append_above (block_at blocks place) (joined (drop (suc place) blocks)) key found.above)

    pub with_row-block : (value : V) → joined (set blocks place (with_row cmp (block_at blocks place) key value)) ≡ with_row cmp (joined blocks) key value
    with_row-block value =
        joined-set blocks place (with_row cmp (block_at blocks place) key value) found.in_range
        ∙ sym (ap (λ rows. with_row cmp rows key value) (joined_parted blocks place found.in_range)
        ∙ with_row-append_below cmp (joined (take place blocks)) (block_at blocks place ++ joined (drop (suc place) blocks)) key value found.below
        ∙ ap (λ rest. joined (take place blocks) ++ rest) (with_row-append_above (block_at blocks place)
        (joined (drop (suc place) blocks)) key value found.above))

    pub without_key-block : joined (replaced blocks place (without_key cmp (block_at blocks place) key)) ≡ without_key cmp (joined blocks) key
    without_key-block =
        joined-replaced blocks place (without_key cmp (block_at blocks place) key) found.in_range
        ∙ sym (ap (λ rows. without_key cmp rows key) (joined_parted blocks place found.in_range)
        ∙ without_key-append_below cmp (joined (take place blocks)) (block_at blocks place ++ joined (drop (suc place) blocks)) key found.below
        ∙ ap (λ rest. joined (take place blocks) ++ rest) (without_key-append_above (block_at blocks place) (joined (drop (suc place) blocks)) key found.above))
