-- The words of a feature record are read as it.
use Rattle.std.proofs.Common.{◌≡◌, ℕ, List, [], ◌++◌, map, codes, refl, ap, ◌∙◌, arith, subst}
use Rattle.std.proofs.lemmas.List.{append-nil}
use Rattle.s57_types.specs.declared.name.RecName.{RecName}
use Rattle.s57_types.specs.declared.name.Lnam.{Lnam}
use Rattle.s57_types.specs.declared.record.Attr.{Attr}
use Rattle.s57_types.specs.declared.record.Spot.{Spot}
use Rattle.s57_types.specs.declared.record.Partner.{Partner}
use Rattle.s57_types.specs.declared.record.Feature.{Feature}
use Rattle.text_spec.specs.EditLine.{attribute_item, partner_item, place_item}
use Rattle.text_spec.specs.Lines.{spaced_words}
use Rattle.script_text.specs.Items.{with_letter, AreItemsOf}
use Rattle.script_text.specs.Widths.{IsFeatureOfWidth}
use Rattle.script_text.specs.declared.items.RecordItems.{RecordItems}
use Rattle.script_text.proofs.Frees.{feature_items, without_feature_items}
use Rattle.script_text.proofs.ItemWords.{each_begins, none_begins, four}

abbrev pub feature_with : RecName → ℕ → ℕ → ℕ → ℕ → Lnam → List Attr → List Attr → List Partner → List Spot → Feature
feature_with name prim grup objl rver foid attf natf partners places =
    record { name = name; prim = prim; grup = grup; objl = objl; rver = rver; foid = foid; attf = attf; natf = natf; partners = partners; places = places }

pub same_feature : (name : RecName) (prim grup objl rver : ℕ) (foid : Lnam) (attf natf : List Attr) (partners : List Partner) (places : List Spot) (f : Feature)
    → name ≡ f.name → prim ≡ f.prim → grup ≡ f.grup → objl ≡ f.objl → rver ≡ f.rver → foid ≡ f.foid → attf ≡ f.attf → natf ≡ f.natf
    → partners ≡ f.partners → places ≡ f.places
    → feature_with name prim grup objl rver foid attf natf partners places ≡ f
same_feature name prim grup objl rver foid attf natf partners places f name_is prim_is grup_is objl_is rver_is foid_is attf_is natf_is partners_are places_are =
    ap (λ x. feature_with x prim grup objl rver foid attf natf partners places) name_is
    ∙ ap (λ x. feature_with f.name x grup objl rver foid attf natf partners places) prim_is
    ∙ ap (λ x. feature_with f.name f.prim x objl rver foid attf natf partners places) grup_is
    ∙ ap (λ x. feature_with f.name f.prim f.grup x rver foid attf natf partners places) objl_is
    ∙ ap (λ x. feature_with f.name f.prim f.grup f.objl x foid attf natf partners places) rver_is
    ∙ ap (λ x. feature_with f.name f.prim f.grup f.objl f.rver x attf natf partners places) foid_is
    ∙ ap (λ x. feature_with f.name f.prim f.grup f.objl f.rver f.foid x natf partners places) attf_is
    ∙ ap (λ x. feature_with f.name f.prim f.grup f.objl f.rver f.foid f.attf x partners places) natf_is
    ∙ ap (λ x. feature_with f.name f.prim f.grup f.objl f.rver f.foid f.attf f.natf x places) partners_are
    ∙ ap (λ x. feature_with f.name f.prim f.grup f.objl f.rver f.foid f.attf f.natf f.partners x) places_are

-- the words of a feature record with each letter
pub record IsSorted (f : Feature) (words : List (List ℕ)) : Type 0 where
  pub attf : with_letter 97 words ≡ map (attribute_item (codes "a")) f.attf
  pub natf : with_letter 110 words ≡ map (attribute_item (codes "n")) f.natf
  pub partners : with_letter 102 words ≡ map partner_item f.partners
  pub places : with_letter 115 words ≡ map place_item f.places

pub sorted_feature : (f : Feature) → IsSorted f (feature_items f)
sorted_feature f =
    let attf = map (attribute_item (codes "a")) f.attf in
    let natf = map (attribute_item (codes "n")) f.natf in
    let partners = map partner_item f.partners in
    let places = map place_item f.places in
    record {
      attf = four 97 attf natf partners places attf [] [] [] (each_begins 97 (attribute_item (codes "a")) (λ x. refl) f.attf)
          (none_begins 97 (attribute_item (codes "n")) (λ x. refl) f.natf) (none_begins 97 partner_item (λ x. refl) f.partners)
          (none_begins 97 place_item (λ x. refl) f.places)
          ∙ append-nil ((attf ++ []) ++ []) ∙ append-nil (attf ++ []) ∙ append-nil attf;
      natf = four 110 attf natf partners places [] natf [] [] (none_begins 110 (attribute_item (codes "a")) (λ x. refl) f.attf)
          (each_begins 110 (attribute_item (codes "n")) (λ x. refl) f.natf) (none_begins 110 partner_item (λ x. refl) f.partners)
          (none_begins 110 place_item (λ x. refl) f.places)
          ∙ append-nil (natf ++ []) ∙ append-nil natf;
      partners = four 102 attf natf partners places [] [] partners [] (none_begins 102 (attribute_item (codes "a")) (λ x. refl) f.attf)
          (none_begins 102 (attribute_item (codes "n")) (λ x. refl) f.natf) (each_begins 102 partner_item (λ x. refl) f.partners)
          (none_begins 102 place_item (λ x. refl) f.places)
          ∙ append-nil partners;
      places = four 115 attf natf partners places [] [] [] places (none_begins 115 (attribute_item (codes "a")) (λ x. refl) f.attf)
          (none_begins 115 (attribute_item (codes "n")) (λ x. refl) f.natf) (none_begins 115 partner_item (λ x. refl) f.partners)
          (each_begins 115 place_item (λ x. refl) f.places);
    }

-- the lists of items are those of the feature record
pub record AreOf (items : RecordItems) (f : Feature) : Type 0 where
  pub attf : items.attrs ≡ f.attf
  pub natf : items.natf ≡ f.natf
  pub partners : items.partners ≡ f.partners
  pub places : items.places ≡ f.places

pub feature_items_are : (f : Feature) (text : List ℕ) (items : RecordItems) → IsFeatureOfWidth f → AreItemsOf text items
    → text ≡ spaced_words (feature_items f) → AreOf items f
feature_items_are f text items width of spelled =
    let words_are = of.are (feature_items f) (without_feature_items 32 f (omega arith) width) spelled in
    let sorted = subst (IsSorted f) words_are (sorted_feature f) in
    let lists = of.items_are in
    record {
      attf = lists.attrs.found f.attf width.attf sorted.attf;
      natf = lists.natf.found f.natf width.natf sorted.natf;
      partners = lists.partners.found f.partners width.partners sorted.partners;
      places = lists.places.found f.places width.places sorted.places;
    }
