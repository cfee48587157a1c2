-- Keys of names that ascend. This project's own.
use Rattle.std.specs.Prelude.{◌≡◌, ◌∷◌, ◌++◌, [], List}
use Rattle.s57_types.specs.declared.name.RecName.{RecName}
use Rattle.cell_spec.specs.declared.key.Key.{Key}
use Rattle.cell_spec.specs.declared.key.Key.TheVariants.{Name}
use Rattle.cell_spec.specs.Ascending.{ascending}
use Rattle.cell_spec.specs.Names.{key_order}

-- the keys that were given, in order, the last of which is that of a name
pub record IsRising (those : List Key) (last : RecName) (keys : List Key) : Type 0 where
  pub front : List Key
  pub ends : keys ≡ front ++ Name last ∷ []
  pub ascends : keys ≡ ascending key_order those
