-- The connected nodes and edges of pairs. This project's own.
use Rattle.std.specs.Prelude.{◌≡◌, Bool, true, List, [], ◌∷◌, All, IfSome}
use Rattle.std.specs.List.{list_any}
use Rattle.std.specs.Ordering.{is_eq}
use Rattle.s57_types.specs.declared.name.RecName.{RecName}
use Rattle.cell_spec.specs.declared.key.Subject.{Subject}
use Rattle.cell_spec.specs.declared.key.Subject.TheVariants.{Rec, Side, Pair, Ident}
use Rattle.cell_spec.specs.Names.{name_order}
use Rattle.subject_rows.specs.declared.names.KnownNames.{KnownNames}

-- both names of a pair
abbrev pub names_of_pair : Subject → List RecName
names_of_pair (Rec n) = []
names_of_pair (Side n) = []
names_of_pair (Pair a b) = a ∷ b ∷ []
names_of_pair (Ident l) = []

-- whether a name stands among some
abbrev pub is_among : List RecName → RecName → Bool
is_among names n = list_any (λ m. is_eq (name_order n m)) names

-- the names that are known stand among others
abbrev pub AreThere : KnownNames → List RecName → Type 0
AreThere known names = All (λ place. IfSome place (λ n. is_among names n ≡ true)) known.places
