-- The name of a cell's head, and what an edit makes of the head (S-57 Part 3, 7.3.1). This project's own rules.
use Rattle.std.specs.Prelude.{ℕ, ◌+◌, Bool, List, [], ◌∷◌, length}
use Rattle.std.specs.List.{list_all}
use Rattle.s57_types.specs.Subfield.{Subfield, text_of, fixed_of, is_plain}
use Rattle.s57_types.specs.declared.name.Kind.TheVariants.{Head as HeadKind}
use Rattle.s57_types.specs.declared.name.RecName.{RecName}
use Rattle.s57_types.specs.declared.head.Head.{Head}
use Rattle.s57_types.specs.declared.head.HeadEdit.{HeadEdit}
use Rattle.s57_types.specs.declared.head.Level.{Level}
use Rattle.s57_types.specs.declared.head.Level.TheVariants.{Zero, One}

-- the one name of a head
abbrev pub head_name : RecName
head_name = record { kind = HeadKind; id = 0 }

-- AALL of a level
abbrev pub level_number : Level → ℕ
level_number Zero = 0
level_number One = 1

-- a head with the six values of an edit; all else stays
abbrev pub edited_head : HeadEdit → Head → Head
edited_head e h = record h { edtn = e.edtn; updn = e.updn; uadt = e.uadt; isdt = e.isdt; aall = level_number e.aall; dsid_comt = e.comt }

-- the texts of an edit of a head
abbrev pub head_edit_texts : HeadEdit → List Subfield
head_edit_texts e = text_of e.edtn ∷ text_of e.updn ∷ fixed_of e.uadt ∷ fixed_of e.isdt ∷ text_of e.comt ∷ []

-- no control byte of the format stands in one of them
abbrev pub has_plain_texts : HeadEdit → Bool
has_plain_texts e = list_all is_plain (head_edit_texts e)

-- how many bytes those texts have whose length isn't fixed
abbrev pub text_bytes : HeadEdit → ℕ
text_bytes e = length e.edtn + length e.updn + length e.comt
