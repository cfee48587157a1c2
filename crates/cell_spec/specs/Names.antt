-- Names of records and of feature objects, keys, subjects and findings, and their order.
use Rattle.std.specs.Prelude.{ℕ, ◌==◌, ◌&&◌, Bool, List, [], ◌∷◌, ◌++◌}
use Rattle.std.specs.declared.cmp.Ordering.{Ordering}
use Rattle.std.specs.Ordering.{is_eq}
use Rattle.s57_types.specs.declared.name.Kind.{Kind}
use Rattle.s57_types.specs.declared.name.Kind.TheVariants.{Vi, Vc, Ve, Fe, Head}
use Rattle.s57_types.specs.declared.name.RecName.{RecName}
use Rattle.s57_types.specs.declared.name.Lnam.{Lnam}
use Rattle.s57_types.specs.Heads.{head_name}
use Rattle.cell_spec.specs.declared.finding.Finding.{Finding}
use Rattle.cell_spec.specs.declared.key.Key.{Key}
use Rattle.cell_spec.specs.declared.key.Key.TheVariants.{Name, Refs, Foid}
use Rattle.cell_spec.specs.declared.key.Ref.{Ref}
use Rattle.cell_spec.specs.declared.key.Subject.{Subject}
use Rattle.cell_spec.specs.declared.key.Subject.TheVariants.{Rec, Side, Pair, Ident}
use Rattle.cell_spec.specs.Ascending.{order_by}

-- the place of a kind in the order of kinds
abbrev pub kind_rank : Kind → ℕ
kind_rank Vi = 0
kind_rank Vc = 1
kind_rank Ve = 2
kind_rank Fe = 3
kind_rank Head = 4

-- names by kind, then by number
abbrev pub name_parts : RecName → List ℕ
name_parts n = kind_rank n.kind ∷ n.id ∷ []

-- feature object identifiers by agency, number and subdivision
abbrev pub identity_parts : Lnam → List ℕ
identity_parts l = l.agen ∷ l.fidn ∷ l.fids ∷ []

-- pointers by the record that has them, then by place
abbrev pub ref_parts : Ref → List ℕ
ref_parts r = name_parts r.from ++ r.place ∷ []

-- records first, then pointers to records, then identifiers
abbrev pub key_parts : Key → List ℕ
key_parts (Name n) = 0 ∷ name_parts n
key_parts (Refs n) = 1 ∷ name_parts n
key_parts (Foid l) = 2 ∷ identity_parts l

-- records first, then sides, pairs and identifiers
abbrev pub subject_parts : Subject → List ℕ
subject_parts (Rec n) = 0 ∷ name_parts n
subject_parts (Side n) = 1 ∷ name_parts n
subject_parts (Pair a b) = 2 ∷ (name_parts a ++ name_parts b)
subject_parts (Ident l) = 3 ∷ identity_parts l

-- findings by the number of their kind, then by their numbers
abbrev pub finding_parts : Finding → List ℕ
finding_parts f = f.kind ∷ f.nums

abbrev pub name_order : RecName → RecName → Ordering
name_order = order_by name_parts

abbrev pub identity_order : Lnam → Lnam → Ordering
identity_order = order_by identity_parts

abbrev pub ref_order : Ref → Ref → Ordering
ref_order = order_by ref_parts

abbrev pub key_order : Key → Key → Ordering
key_order = order_by key_parts

abbrev pub subject_order : Subject → Subject → Ordering
subject_order = order_by subject_parts

abbrev pub finding_order : Finding → Finding → Ordering
finding_order = order_by finding_parts

-- whether two names are one
abbrev pub same_name : RecName → RecName → Bool
same_name a b = (kind_rank a.kind == kind_rank b.kind) && (a.id == b.id)

-- whether two feature object identifiers are one
abbrev pub same_identity : Lnam → Lnam → Bool
same_identity a b = (a.agen == b.agen) && (a.fidn == b.fidn) && (a.fids == b.fids)

-- whether a name is that of a head
abbrev pub is_head_name : RecName → Bool
is_head_name n = same_name n head_name

-- whether a name is of a kind
abbrev pub is_of_kind : Kind → RecName → Bool
is_of_kind kind n = kind_rank n.kind == kind_rank kind

-- whether two keys are one
abbrev pub same_key : Key → Key → Bool
same_key a b = is_eq (key_order a b)

-- whether two subjects are one
abbrev pub same_subject : Subject → Subject → Bool
same_subject a b = is_eq (subject_order a b)
