-- The items of a record, by their letters. This project's own.
use Rattle.std.specs.Prelude.{◌≡◌, ℕ, ◌==◌, Bool, false, List, [], ◌∷◌, ◌++◌, codes, map, filter, All}
use Rattle.s57_types.specs.Subfield.{holds}
use Rattle.text_spec.specs.EditLine.{attribute_item, end_item, plane_item, deep_item, partner_item, place_item}
use Rattle.text_spec.specs.Lines.{spaced_words}
use Rattle.script_text.specs.Widths.{IsAttributeOfWidth, IsEndOfWidth, IsPointOfWidth, IsSoundingOfWidth, IsPartnerOfWidth, IsPlaceOfWidth}
use Rattle.script_text.specs.declared.items.RecordItems.{RecordItems}

-- the words that begin with a letter
abbrev pub begins : ℕ → List ℕ → Bool
begins letter [] = false
begins letter (b ∷ word) = b == letter

abbrev pub with_letter : ℕ → List (List ℕ) → List (List ℕ)
with_letter letter = filter (begins letter)

-- the values that the words with a letter stand for: where those are the items of values, they are these
pub record IsListOf {X : Type 0} (letter : ℕ) (item : X → List ℕ) (Fits : X → Type 0) (words : List (List ℕ)) (values : List X) : Type 0 where
  pub width : All Fits values
  pub found : (others : List X) → All Fits others → with_letter letter words ≡ map item others → values ≡ others

-- one word more, which is a value more where it begins with the letter
abbrev pub IsListTaken : {X : Type 0} (letter : ℕ) (item : X → List ℕ) (Fits : X → Type 0) (word : List ℕ) (earlier values : List X) → Type 0
IsListTaken letter item Fits word earlier values = (words : List (List ℕ)) → IsListOf letter item Fits words earlier
    → IsListOf letter item Fits (words ++ word ∷ []) values

pub record AreItems (words : List (List ℕ)) (items : RecordItems) : Type 0 where
  pub attrs : IsListOf 97 (attribute_item (codes "a")) IsAttributeOfWidth words items.attrs
  pub natf : IsListOf 110 (attribute_item (codes "n")) IsAttributeOfWidth words items.natf
  pub ends : IsListOf 101 end_item IsEndOfWidth words items.ends
  pub plane : IsListOf 112 plane_item IsPointOfWidth words items.plane
  pub deep : IsListOf 100 deep_item IsSoundingOfWidth words items.deep
  pub partners : IsListOf 102 partner_item IsPartnerOfWidth words items.partners
  pub places : IsListOf 115 place_item IsPlaceOfWidth words items.places

-- a text is cut into words where it is words behind spaces
abbrev pub AreWordsOf : List ℕ → List (List ℕ) → Type 0
AreWordsOf text words = (others : List (List ℕ)) → All (λ word. holds 32 word ≡ false) others → text ≡ spaced_words others → others ≡ words

pub record AreItemsOf (text : List ℕ) (items : RecordItems) : Type 0 where
  pub words : List (List ℕ)
  pub are : AreWordsOf text words
  pub items_are : AreItems words items
