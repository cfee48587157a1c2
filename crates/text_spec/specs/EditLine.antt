-- The line of an edit in a script and in a report. This project's own text.
use Rattle.std.specs.Prelude.{ℕ, ℤ, ◌+◌, ◌/◌, ◌%◌, ◌==◌, ◌&&◌, ◌||◌, Bool, true, false, not, nat_le, nat_lt, List, [], ◌∷◌, ◌++◌, map, codes, if◌then◌else◌}
use Rattle.std.specs.Fmt.{decimal, signed_decimal}
use Rattle.std.specs.List.{flat_map, list_all}
use Rattle.s57_types.specs.declared.name.Kind.{Kind}
use Rattle.s57_types.specs.declared.name.Kind.TheVariants.{Head as HeadKind}
use Rattle.s57_types.specs.declared.name.RecName.{RecName}
use Rattle.s57_types.specs.declared.record.Attr.{Attr}
use Rattle.s57_types.specs.declared.record.End.{End}
use Rattle.s57_types.specs.declared.record.Spot.{Spot}
use Rattle.s57_types.specs.declared.record.Partner.{Partner}
use Rattle.s57_types.specs.declared.record.Vector.{Vector}
use Rattle.s57_types.specs.declared.record.Feature.{Feature}
use Rattle.s57_types.specs.declared.record.Rec.{Rec}
use Rattle.s57_types.specs.declared.head.HeadEdit.{HeadEdit}
use Rattle.s57_types.specs.FieldRows.{rcnm_of}
use Rattle.s57_types.specs.Fitness.{is_feature_kind}
use Rattle.s57_types.specs.Heads.{head_name, level_number}
use Rattle.s57_types.specs.declared.record.Rec.TheVariants.{V, F, H}
use Rattle.cell_spec.specs.declared.edit.Edit.{Edit}
use Rattle.cell_spec.specs.declared.edit.Edit.TheVariants.{Add, Set, Del, Head}
use Rattle.text_spec.specs.Lines.{line}
use Rattle.text_spec.specs.CellText.{identity_words, kind_word, name_words}

-- a byte that stands for itself in a text: printing ASCII, neither a space nor the percent sign
abbrev pub stands_for_itself : ℕ → Bool
stands_for_itself b = nat_le 33 b && nat_le b 126 && not (b == 37)

-- an upper-case hexadecimal digit
abbrev pub hexadecimal : ℕ → ℕ
hexadecimal digit = if nat_lt digit 10 then 48 + digit else 55 + digit

-- another byte is a percent sign and its two digits
abbrev pub text_byte : ℕ → List ℕ
text_byte b = if stands_for_itself b then b ∷ [] else 37 ∷ hexadecimal (b / 16) ∷ hexadecimal (b % 16) ∷ []

abbrev pub text_word : List ℕ → List ℕ
text_word = flat_map text_byte

-- parts with a mark between them
abbrev pub parted : ℕ → List ℕ → List (List ℕ) → List ℕ
parted mark first others = first ++ flat_map (λ part. mark ∷ part) others

-- an item: a letter, an equals sign, and parts
abbrev pub item : List ℕ → ℕ → List ℕ → List (List ℕ) → List ℕ
item letter mark first others = letter ++ (61 ∷ parted mark first others)

-- attributes: ATTL and the value ATVL
abbrev pub attribute_item : List ℕ → Attr → List ℕ
attribute_item letter a = item letter 58 (decimal a.code) (text_word a.value ∷ [])

-- pointers of a vector record: the name, ORNT, USAG, TOPI and MASK
abbrev pub end_item : End → List ℕ
end_item e = item (codes "e") 58 (kind_word e.to.kind) (decimal e.to.id ∷ decimal e.ornt ∷ decimal e.usag ∷ decimal e.topi ∷ decimal e.mask ∷ [])

-- 2-D coordinates, latitude first
abbrev pub plane_item : ℤ × ℤ → List ℕ
plane_item p = item (codes "p") 44 (signed_decimal p.0) (signed_decimal p.1 ∷ [])

-- soundings: latitude, longitude, depth
abbrev pub deep_item : ℤ × ℤ × ℤ → List ℕ
deep_item p = item (codes "d") 44 (signed_decimal p.0) (signed_decimal p.1 ∷ signed_decimal p.2 ∷ [])

-- pointers to features: LNAM, RIND and the comment
abbrev pub partner_item : Partner → List ℕ
partner_item p = item (codes "f") 58 (decimal p.to.agen) (decimal p.to.fidn ∷ decimal p.to.fids ∷ decimal p.rind ∷ text_word p.comt ∷ [])

-- pointers of a feature to vector records: the name, ORNT, USAG and MASK
abbrev pub place_item : Spot → List ℕ
place_item s = item (codes "s") 58 (kind_word s.to.kind) (decimal s.to.id ∷ decimal s.ornt ∷ decimal s.usag ∷ decimal s.mask ∷ [])

-- a vector record: its name, its version, then its items
abbrev pub vector_words : Vector → List (List ℕ)
vector_words v = name_words v.name ++ (decimal v.rver ∷ []) ++ map (attribute_item (codes "a")) v.attrs ++ map end_item v.ends
    ++ map plane_item v.plane ++ map deep_item v.deep

-- a feature record: its name, RVER, PRIM, GRUP, OBJL and FOID, then its items
abbrev pub feature_words : Feature → List (List ℕ)
feature_words f = name_words f.name
    ++ (decimal f.rver ∷ decimal f.prim ∷ decimal f.grup ∷ decimal f.objl ∷ identity_words f.foid)
    ++ map (attribute_item (codes "a")) f.attf ++ map (attribute_item (codes "n")) f.natf ++ map partner_item f.partners ++ map place_item f.places

abbrev pub record_words : Rec → List (List ℕ)
record_words (V v) = vector_words v
record_words (F f) = feature_words f
record_words (H h) = []

-- new values of the head: EDTN, UPDN, UADT, ISDT, AALL and COMT
abbrev pub head_words : HeadEdit → List (List ℕ)
head_words e =
    item (codes "edtn") 58 (text_word e.edtn) [] ∷ item (codes "updn") 58 (text_word e.updn) [] ∷ item (codes "uadt") 58
    (text_word e.uadt) [] ∷ item (codes "isdt") 58 (text_word e.isdt) []
    ∷ item (codes "aall") 58 (decimal (level_number e.aall)) [] ∷ item (codes "comt") 58 (text_word e.comt) [] ∷ []

-- an edit: what it does, and its record, its name, or the head and its values
abbrev pub edit_line : Edit → List ℕ
edit_line (Add r) = line (codes "add") (record_words r)
edit_line (Set r) = line (codes "set") (record_words r)
edit_line (Del n) = line (codes "del") (name_words n)
edit_line (Head e) = line (codes "set") (codes "head" ∷ head_words e)

-- the kind of the head, by its record name RCNM
abbrev pub is_head : Kind → Bool
is_head kind = rcnm_of kind == rcnm_of HeadKind

-- a record has a line where it is of the sort that its kind says, and none of its pointers names the head
abbrev pub record_has_line : Rec → Bool
record_has_line (V v) = not (is_feature_kind v.name.kind) && not (is_head v.name.kind) && list_all (λ (e : End). not (is_head e.to.kind)) v.ends
record_has_line (F f) = is_feature_kind f.name.kind && list_all (λ (s : Spot). not (is_head s.to.kind)) f.places
record_has_line (H h) = false

-- so does an edit of such a record; a record that isn't the head can be deleted, and the head be edited
abbrev pub has_line : Edit → Bool
has_line (Add r) = record_has_line r
has_line (Set r) = record_has_line r
has_line (Del n) = not (is_head n.kind)
has_line (Head e) = true

-- a guard has a line where it is the name of a record or the one name of the head
abbrev pub guard_has_line : RecName → Bool
guard_has_line n = not (is_head n.kind) || (n.id == head_name.id)
