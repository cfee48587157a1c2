use Rattle.std.proofs.Common.{rules}
use Rattle.std.proofs.lemmas.Fn.{always_returns_same}
use Rattle.cell_spec.specs.Names.{key_order}
use Rattle.near_records.proofs.near.place_of.Goals as goal

pub returns-in-Name-clause-position : goal.returns-in-Name-clause-position
returns-in-Name-clause-position c =
    c.binary_search_by.ensures.position (λ a. key_order a.key c.args.key) (always_returns_same _ _ _ (λ a r after called. search rules))

pub returns-in_default : goal.returns-in_default
returns-in_default c = record {
  bound = c.binary_search_by-in_default.ensures.bound;
  position =
      c.binary_search_by-in_default.ensures.position (λ a. key_order a.key c.args.key) (always_returns_same _ _ _ (λ a r after called. search rules));
}
