-- The records of a writable cell are vector records and features as their names say.
use Rattle.std.proofs.Common.{◌≡◌, ℕ, Bool, true, false, ◌&&◌, List, [], ◌∷◌, Some, None, refl, arith}
use Rattle.std.specs.Prelude.{not, nat_lt, if◌then◌else◌}
use Rattle.std.specs.List.{AllByRecursion}
use Rattle.std.proofs.lemmas.List.Elements.{recursion_from_All}
use Rattle.s57_types.specs.Fitness.{unfitness, has_good_names, has_good_texts, is_feature_kind, is_vector_kind}
use Rattle.s57_types.specs.RecordFields.{written_length, length_limit}
use Rattle.s57_types.specs.declared.record.Rec.{Rec}
use Rattle.s57_types.specs.declared.record.Rec.TheVariants.{V, F, H}
use Rattle.s57_types.specs.declared.cell.Cell.{Cell}
use Rattle.s57_types.specs.declared.fault.Unfit.TheVariants.{TooLong, BadText, BadName}
use Rattle.cell_spec.specs.Lookup.{all_records}
use Rattle.cell_spec.specs.Writable.{IsWritable}
use Rattle.chain_topo.specs.Readable.{IsReadable}

-- it can be looked into
pub readable : (c : Cell) → IsWritable c → IsReadable c
readable c w = record { distinct = w.names_distinct; count = omega (arith, w.not_too_many); fit = w.records_fit }

-- ---- a record that can be written is a vector record or a feature, as its name says
abbrev pub is_well_named : Rec → Bool
is_well_named (V v) = is_vector_kind v.name.kind
is_well_named (F f) = is_feature_kind f.name.kind
is_well_named (H h) = false

both_true : (a b : Bool) → (a && b) ≡ true → a ≡ true
both_true true b is = refl
both_true false b is = is

fit_names : (nall : ℕ) (r : Rec) → unfitness nall r ≡ None → has_good_names r ≡ true
unfolding unfitness
fit_names nall r fit = by (has_good_names r) (has_good_texts nall r) (nat_lt length_limit (written_length nall r)) fit
  where
    by : (names texts long : Bool) → (if not names then Some BadName else
        (if not texts then Some BadText else (if long then Some TooLong else None))) ≡ None → names ≡ true
    by true texts long e = refl
    by false texts long e = absurd cc

fit_is_well_named : (nall : ℕ) (r : Rec) → unfitness nall r ≡ None → is_well_named r ≡ true
fit_is_well_named nall (V v) fit = both_true (is_vector_kind v.name.kind) _ (fit_names nall (V v) fit)
fit_is_well_named nall (F f) fit = both_true (is_feature_kind f.name.kind) _ (fit_names nall (F f) fit)
fit_is_well_named nall (H h) fit = fit_names nall (H h) fit

abbrev pub AreWellNamed : List Rec → Type 0
AreWellNamed = AllByRecursion (λ r. is_well_named r ≡ true)

well_named : (nall : ℕ) (rs : List Rec) → AllByRecursion (λ r. unfitness nall r ≡ None) rs → AreWellNamed rs
well_named nall [] fit = tt
well_named nall (r ∷ rs) fit = (fit_is_well_named nall r fit.0, well_named nall rs fit.1)

module _ (c : Cell) (w : IsWritable c) where
  abbrev fits : Rec → Type 0
  fits r = unfitness c.head.nall r ≡ None

  pub all_well_named : AreWellNamed (all_records c)
  all_well_named = well_named c.head.nall (all_records c) (recursion_from_All fits (all_records c) w.records_fit)
