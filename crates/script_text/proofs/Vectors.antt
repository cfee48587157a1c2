-- The words of a vector record are read as it.
use Rattle.std.proofs.Common.{◌≡◌, ℕ, ℤ, List, [], ◌++◌, map, codes, refl, ap, ◌∙◌, arith, subst}
use Rattle.std.proofs.lemmas.List.{append-nil}
use Rattle.s57_types.specs.declared.name.RecName.{RecName}
use Rattle.s57_types.specs.declared.record.Attr.{Attr}
use Rattle.s57_types.specs.declared.record.End.{End}
use Rattle.s57_types.specs.declared.record.Vector.{Vector}
use Rattle.text_spec.specs.EditLine.{attribute_item, end_item, plane_item, deep_item}
use Rattle.text_spec.specs.Lines.{spaced_words}
use Rattle.script_text.specs.Items.{with_letter, AreItemsOf}
use Rattle.script_text.specs.Widths.{IsVectorOfWidth}
use Rattle.script_text.specs.declared.items.RecordItems.{RecordItems}
use Rattle.script_text.proofs.Frees.{vector_items, without_vector_items}
use Rattle.script_text.proofs.ItemWords.{each_begins, none_begins, four}

abbrev pub vector_with : RecName → ℕ → List Attr → List End → List (ℤ × ℤ) → List (ℤ × ℤ × ℤ) → Vector
vector_with name rver attrs ends plane deep = record { name = name; rver = rver; attrs = attrs; ends = ends; plane = plane; deep = deep }

pub same_vector : (name : RecName) (rver : ℕ) (attrs : List Attr) (ends : List End) (plane : List (ℤ × ℤ)) (deep : List (ℤ × ℤ × ℤ)) (v : Vector)
    → name ≡ v.name → rver ≡ v.rver → attrs ≡ v.attrs → ends ≡ v.ends → plane ≡ v.plane → deep ≡ v.deep → vector_with name rver attrs ends plane deep ≡ v
same_vector name rver attrs ends plane deep v name_is rver_is attrs_is ends_is plane_is deep_is =
    ap (λ x. vector_with x rver attrs ends plane deep) name_is ∙ ap (λ x. vector_with v.name x attrs ends plane deep) rver_is
    ∙ ap (λ x. vector_with v.name v.rver x ends plane deep) attrs_is ∙ ap (λ x. vector_with v.name v.rver v.attrs x plane deep) ends_is
    ∙ ap (λ x. vector_with v.name v.rver v.attrs v.ends x deep) plane_is ∙ ap (λ x. vector_with v.name v.rver v.attrs v.ends v.plane x) deep_is

-- the words of a vector record with each letter
pub record IsSorted (v : Vector) (words : List (List ℕ)) : Type 0 where
  pub attrs : with_letter 97 words ≡ map (attribute_item (codes "a")) v.attrs
  pub ends : with_letter 101 words ≡ map end_item v.ends
  pub plane : with_letter 112 words ≡ map plane_item v.plane
  pub deep : with_letter 100 words ≡ map deep_item v.deep

-- the lists of items are those of the vector record
pub record AreOf (items : RecordItems) (v : Vector) : Type 0 where
  pub attrs : items.attrs ≡ v.attrs
  pub ends : items.ends ≡ v.ends
  pub plane : items.plane ≡ v.plane
  pub deep : items.deep ≡ v.deep

pub sorted_vector : (v : Vector) → IsSorted v (vector_items v)
sorted_vector v =
    let attrs = map (attribute_item (codes "a")) v.attrs in
    let ends = map end_item v.ends in
    let plane = map plane_item v.plane in
    let deep = map deep_item v.deep in
    record {
      attrs = four 97 attrs ends plane deep attrs [] [] [] (each_begins 97 (attribute_item (codes "a")) (λ x. refl) v.attrs)
          (none_begins 97 end_item (λ x. refl) v.ends) (none_begins 97 plane_item (λ x. refl) v.plane) (none_begins 97 deep_item (λ x. refl) v.deep)
          ∙ append-nil ((attrs ++ []) ++ []) ∙ append-nil (attrs ++ []) ∙ append-nil attrs;
      ends = four 101 attrs ends plane deep [] ends [] [] (none_begins 101 (attribute_item (codes "a")) (λ x. refl) v.attrs)
          (each_begins 101 end_item (λ x. refl) v.ends) (none_begins 101 plane_item (λ x. refl) v.plane)
          (none_begins 101 deep_item (λ x. refl) v.deep)
          ∙ append-nil (ends ++ []) ∙ append-nil ends;
      plane = four 112 attrs ends plane deep [] [] plane [] (none_begins 112 (attribute_item (codes "a")) (λ x. refl) v.attrs)
          (none_begins 112 end_item (λ x. refl) v.ends) (each_begins 112 plane_item (λ x. refl) v.plane)
          (none_begins 112 deep_item (λ x. refl) v.deep)
          ∙ append-nil plane;
      deep = four 100 attrs ends plane deep [] [] [] deep (none_begins 100 (attribute_item (codes "a")) (λ x. refl) v.attrs)
          (none_begins 100 end_item (λ x. refl) v.ends) (none_begins 100 plane_item (λ x. refl) v.plane)
          (each_begins 100 deep_item (λ x. refl) v.deep);
    }

pub vector_items_are : (v : Vector) (text : List ℕ) (items : RecordItems) → IsVectorOfWidth v → AreItemsOf text items
    → text ≡ spaced_words (vector_items v) → AreOf items v
vector_items_are v text items width of spelled =
    let lists = of.items_are in
    let words_are = of.are (vector_items v) (without_vector_items 32 v (omega arith) width) spelled in
    let sorted = subst (IsSorted v) words_are (sorted_vector v) in
    record {
      attrs = lists.attrs.found v.attrs width.attrs sorted.attrs;
      ends = lists.ends.found v.ends width.ends sorted.ends;
      plane = lists.plane.found v.plane width.plane sorted.plane;
      deep = lists.deep.found v.deep width.deep sorted.deep;
    }
