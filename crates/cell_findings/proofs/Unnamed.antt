-- A name that fails a test is that of no vector record that passes it.
use Rattle.std.proofs.Common.{◌≡◌, Bool, true, false, List, [], ◌∷◌, Option, None, Some, cond, find, refl, sym, ap, ◌∙◌}
use Rattle.std.specs.Prelude.{option_and_then}
use Rattle.s57_types.specs.declared.name.RecName.{RecName}
use Rattle.s57_types.specs.declared.record.Rec.{Rec}
use Rattle.s57_types.specs.declared.record.Rec.TheVariants.{V, F, H}
use Rattle.s57_types.specs.declared.cell.Cell.{Cell}
use Rattle.cell_spec.specs.Lookup.{all_records, is_named, listed_record}
use Rattle.cell_spec.specs.Names.{is_head_name}
use Rattle.cell_spec.proofs.Orders.{one_when_same}
use Rattle.rule_spec.specs.Records.{vector_named, vector_of}

module _ (test : RecName → Bool) (n : RecName) (fails : test n ≡ false) where
  by_first : (hit : Bool) (r : Rec) (rest : Option Rec) → (hit ≡ true → vector_of test r ≡ None) → option_and_then (vector_of test) rest ≡ None
      → option_and_then (vector_of test) (cond hit (Some r) rest) ≡ None
  by_first true r rest first later = first refl
  by_first false r rest first later = later

  no_item : (rs : List Rec) → option_and_then (vector_of test) (find (is_named n) rs) ≡ None
  no_item [] = refl
  no_item (V v ∷ rs) =
      by_first (is_named n (V v)) (V v) (find (is_named n) rs)
      (λ e. ap (λ b. cond b (Some v) None) (ap test (sym (one_when_same n v.name e)) ∙ fails)) (no_item rs)
  no_item (F f ∷ rs) = by_first (is_named n (F f)) (F f) (find (is_named n) rs) (λ e. refl) (no_item rs)
  no_item (H h ∷ rs) = by_first (is_named n (H h)) (H h) (find (is_named n) rs) (λ e. refl) (no_item rs)

  pub no_vector : (c : Cell) → vector_named test c n ≡ None
  no_vector c = by_first (is_head_name n) (H c.head) (listed_record c n) (λ e. refl) (no_item (all_records c))
