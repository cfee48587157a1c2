-- What the attributes of a modifying record make of those of its target (S-57 Part 3, 8.4.2 and 8.4.3).
use Rattle.std.specs.Prelude.{ℕ, ◌==◌, Bool, List, [], ◌∷◌, ◌++◌, fold, nat_eq, position, slice_set, Option, Some, None, if◌then◌else◌}
use Rattle.std.specs.List.{remove}
use Rattle.std.specs.Cmp.Lexicographic.{pointwise}
use Rattle.s57_types.specs.declared.record.Attr.{Attr}

-- the value that deletes an attribute: the character 7F. Of two-byte texts it is this project's own
abbrev pub delete_value : ℕ → List ℕ
delete_value level = if level == 2 then 127 ∷ 0 ∷ [] else 127 ∷ []

abbrev pub is_delete_value : ℕ → List ℕ → Bool
is_delete_value level value = pointwise nat_eq value (delete_value level)

-- the place of the first attribute of a code
abbrev pub place_of_code : ℕ → List Attr → Option ℕ
place_of_code code attrs = position (λ (a : Attr). a.code == code) attrs

abbrev pub without_place : Option ℕ → List Attr → List Attr
without_place None attrs = attrs
without_place (Some k) attrs = remove attrs k

abbrev pub with_place : Option ℕ → Attr → List Attr → List Attr
with_place None given attrs = attrs ++ (given ∷ [])
with_place (Some k) given attrs = slice_set attrs k given

-- a delete value takes the first attribute of its code away, if there is one; any other value comes in the place of that of the first attribute
-- of its code, and where there is none the given attribute stands last
unfoldable pub with_given : ℕ → List Attr → Attr → List Attr
with_given level attrs given =
    if is_delete_value level given.value then without_place (place_of_code given.code attrs) attrs else with_place
    (place_of_code given.code attrs) given attrs

-- the given attributes, at their lexical level, are taken one after the other
unfoldable pub updated_attributes : ℕ → List Attr → List Attr → List Attr
updated_attributes level given attrs = fold (with_given level) attrs given
