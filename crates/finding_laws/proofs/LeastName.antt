-- The least name.
use Rattle.std.proofs.Common.{◌≡◌, ℕ, false, refl, arith, Ordering, Less, Equal, Greater, is_lt}
use Rattle.std.specs.Ordering.{nat_cmp, ordering_then}
use Rattle.std.proofs.lemmas.Bool.Decides.{nat_tests}
use Rattle.s57_types.specs.declared.name.Kind.TheVariants.{Vi}
use Rattle.s57_types.specs.declared.name.RecName.{RecName}
use Rattle.cell_spec.specs.Names.{kind_rank, name_order}

zero_least : (n : ℕ) → is_lt (nat_cmp n 0) ≡ false
zero_least n = grind (arith, nat_tests)

then_least : (a b : Ordering) → is_lt a ≡ false → is_lt b ≡ false → is_lt (ordering_then a b) ≡ false
then_least Less b e f = e
then_least Equal b e f = f
then_least Greater b e f = refl

pub none_below : (n : RecName) → is_lt (name_order n (record { kind = Vi; id = 0 })) ≡ false
none_below n = then_least (nat_cmp (kind_rank n.kind) 0) (ordering_then (nat_cmp n.id 0) Equal) (zero_least (kind_rank n.kind))
    (then_least (nat_cmp n.id 0) Equal (zero_least n.id) refl)
