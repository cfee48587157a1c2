-- Orders in which only one and the same tie.
use Rattle.std.specs.Prelude.{◌≡◌}
use Rattle.std.specs.declared.cmp.Ordering.{Ordering}
use Rattle.std.specs.declared.cmp.Ordering.TheVariants.{Equal}
use Rattle.std.specs.Cmp.{IsTotalOrder}

pub record IsExactOrder {X : Type 0} (order : X → X → Ordering) : Type 0 where
  pub total : IsTotalOrder order
  pub exact : (x y : X) → order x y ≡ Equal → x ≡ y
