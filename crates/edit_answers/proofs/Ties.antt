-- Identifiers that tie, either way round.
use Rattle.std.proofs.Common.{◌≡◌, ℕ, sym, ◌∙◌, arith}
use Rattle.std.specs.Prelude.{◌==◌, ◌&&◌}
use Rattle.std.specs.Ordering.{is_eq}
use Rattle.std.proofs.lemmas.Bool.Decides.{nat_tests}
use Rattle.s57_types.specs.declared.name.Lnam.{Lnam}
use Rattle.cell_spec.specs.Names.{identity_order}
use Rattle.cell_spec.proofs.Orders.{identities_tie}

numbers_flip : (a b : ℕ) → (a == b) ≡ (b == a)
numbers_flip a b = grind (arith, nat_tests)

pub identities_flip : (l k : Lnam) → is_eq (identity_order l k) ≡ is_eq (identity_order k l)
identities_flip l k =
    identities_tie l k ∙ (λ i. numbers_flip k.agen l.agen i && numbers_flip k.fidn l.fidn i && numbers_flip k.fids l.fids i) ∙ sym (identities_tie k l)
