-- Keys tie where they are equal.
use Rattle.std.proofs.Common.{◌≡◌, refl, rules}
use Rattle.std.specs.Ordering.{is_eq}
use Rattle.cell_spec.specs.declared.key.Key.{Key}
use Rattle.cell_spec.specs.declared.key.Key.TheVariants.{Name, Refs, Foid}
use Rattle.cell_spec.specs.contracts.key.KeyPartialEq.TheImpl.{eq-value}
use Rattle.cell_spec.specs.Names.{key_order}

pub keys_tie : (a b : Key) → eq-value.it a b ≡ is_eq (key_order a b)
keys_tie (Name m) (Name n) = search rules
keys_tie (Name m) (Refs n) = refl
keys_tie (Name m) (Foid l) = refl
keys_tie (Refs m) (Name n) = refl
keys_tie (Refs m) (Refs n) = search rules
keys_tie (Refs m) (Foid l) = refl
keys_tie (Foid k) (Name n) = refl
keys_tie (Foid k) (Refs n) = refl
keys_tie (Foid k) (Foid l) = search rules
