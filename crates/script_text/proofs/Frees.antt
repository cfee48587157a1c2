-- The words of records have no white space.
use Rattle.std.proofs.Common.{◌≡◌, ℕ, ℤ, ◌<◌, ◌^◌, false, List, [], ◌∷◌, ◌++◌, map, codes, All, arith, w32, FitsSigned}
use Rattle.std.specs.Fmt.{decimal}
use Rattle.std.proofs.lemmas.List.Elements.{All-head, All-tail, All-nil, All-cons, All-append}
use Rattle.s57_types.specs.Subfield.{holds}
use Rattle.s57_types.specs.declared.name.RecName.{RecName}
use Rattle.s57_types.specs.declared.record.Attr.{Attr}
use Rattle.s57_types.specs.declared.record.Spot.{Spot}
use Rattle.s57_types.specs.declared.record.Partner.{Partner}
use Rattle.s57_types.specs.declared.record.Vector.{Vector}
use Rattle.s57_types.specs.declared.record.Feature.{Feature}
use Rattle.s57_types.specs.declared.record.Rec.{Rec}
use Rattle.s57_types.specs.declared.record.Rec.TheVariants.{V, F, H}
use Rattle.text_spec.specs.CellText.{kind_word, name_words}
use Rattle.text_spec.specs.EditLine.{attribute_item, end_item, plane_item, deep_item, partner_item, place_item, text_word, vector_words, feature_words}
use Rattle.text_spec.specs.EditLine.{record_words}
use Rattle.text_spec.specs.Lines.{spaced_words}
use Rattle.script_text.specs.Widths.{IsNameOfWidth, IsAttributeOfWidth, IsEndOfWidth, IsPointOfWidth, IsSoundingOfWidth, IsPartnerOfWidth, IsPlaceOfWidth}
use Rattle.script_text.specs.Widths.{IsVectorOfWidth, IsFeatureOfWidth, IsRecordOfWidth}
use Rattle.script_text.proofs.Words.{IsFree, free_nothing, free_cons, free_part, free_kind, free_decimal, free_signed, free_end, free_point}
use Rattle.script_text.proofs.Texts.{free_text}

pub free_number : (mark n : ℕ) → mark < 33 → n < 2 ^ 32 → IsFree mark (decimal n)
free_number mark n small fits = free_decimal mark n (λ d below here. omega arith) (omega arith)

-- a last part that is a text
free_last : (mark : ℕ) (value : List ℕ) → mark < 33 → IsFree mark (58 ∷ (text_word value ++ []))
free_last mark value small = free_part 58 (λ here. omega arith) (free_text mark value small) (free_nothing mark)

pub free_attribute : (mark letter : ℕ) (a : Attr) → mark < 33 → 33 < letter → IsAttributeOfWidth a → IsFree mark (attribute_item (letter ∷ []) a)
free_attribute mark letter a small large width = free_cons letter (λ here. omega arith)
    (free_part 61 (λ here. omega arith) (free_number mark a.code small (omega (arith, width.code))) (free_last mark a.value small))

pub free_sounding : (mark : ℕ) (p : ℤ × ℤ × ℤ) → mark < 33 → IsSoundingOfWidth p → IsFree mark (deep_item p)
free_sounding mark p small width =
    let number = λ (z : ℤ) (fits : FitsSigned w32 z). free_signed mark z (λ d below here. omega arith) (λ here. omega arith) fits in
    free_cons 100 (λ here. omega arith) (free_part 61 (λ here. omega arith) (number p.0 width.latitude)
    (free_part 44 (λ here. omega arith) (number p.1 width.longitude) (free_part 44 (λ here. omega arith) (number p.2 width.depth) (free_nothing mark))))

pub free_partner : (mark : ℕ) (p : Partner) → mark < 33 → IsPartnerOfWidth p → IsFree mark (partner_item p)
free_partner mark p small width =
    free_cons 102 (λ here. omega arith) (free_part 61 (λ here. omega arith) (free_number mark p.to.agen small (omega (arith, width.to.agen)))
    (free_part 58 (λ here. omega arith) (free_number mark p.to.fidn small width.to.fidn)
    (free_part 58 (λ here. omega arith) (free_number mark p.to.fids small (omega (arith, width.to.fids)))
    (free_part 58 (λ here. omega arith) (free_number mark p.rind small (omega (arith, width.rind))) (free_last mark p.comt small)))))

pub free_place : (mark : ℕ) (s : Spot) → mark < 33 → IsPlaceOfWidth s → IsFree mark (place_item s)
free_place mark s small width =
    free_cons 115 (λ here. omega arith) (free_part 61 (λ here. omega arith) (free_kind mark s.to.kind (omega arith))
    (free_part 58 (λ here. omega arith) (free_number mark s.to.id small width.to)
    (free_part 58 (λ here. omega arith) (free_number mark s.ornt small (omega (arith, width.ornt)))
    (free_part 58 (λ here. omega arith) (free_number mark s.usag small (omega (arith, width.usag)))
    (free_part 58 (λ here. omega arith) (free_number mark s.mask small (omega (arith, width.mask))) (free_nothing mark))))))

-- words without a mark
abbrev pub AreWithout : ℕ → List (List ℕ) → Type 0
AreWithout mark = All (λ word. holds mark word ≡ false)

pub without_none : (mark : ℕ) → AreWithout mark []
without_none mark = All-nil (λ word. holds mark word ≡ false)

pub without_cons : (mark : ℕ) (word : List ℕ) (words : List (List ℕ)) → IsFree mark word → AreWithout mark words → AreWithout mark (word ∷ words)
without_cons mark word words free others = All-cons (λ x. holds mark x ≡ false) word words free.free others

without_append : (mark : ℕ) (front back : List (List ℕ)) → AreWithout mark front → AreWithout mark back → AreWithout mark (front ++ back)
without_append mark front back = All-append (λ x. holds mark x ≡ false) front back

without_items : {X : Type 0} (mark : ℕ) (item : X → List ℕ) (Q : X → Type 0) → ((x : X) → Q x → IsFree mark (item x)) → (xs : List X)
    → All Q xs → AreWithout mark (map item xs)
without_items mark item Q each [] all = without_none mark
without_items mark item Q each (x ∷ xs) all = without_cons mark (item x) (map item xs) (each x (All-head Q x xs all))
    (without_items mark item Q each xs (All-tail Q x xs all))

-- the items of a vector record and of a feature record
abbrev pub vector_items : Vector → List (List ℕ)
vector_items v = map (attribute_item (codes "a")) v.attrs ++ map end_item v.ends ++ map plane_item v.plane ++ map deep_item v.deep

abbrev pub feature_items : Feature → List (List ℕ)
feature_items f = map (attribute_item (codes "a")) f.attf ++ map (attribute_item (codes "n")) f.natf ++ map partner_item f.partners ++ map place_item f.places

without_four : (mark : ℕ) (a b c d : List (List ℕ)) → AreWithout mark a → AreWithout mark b → AreWithout mark c → AreWithout mark d
    → AreWithout mark (a ++ b ++ c ++ d)
without_four mark a b c d first second third fourth =
    without_append mark (a ++ b ++ c) d (without_append mark (a ++ b) c (without_append mark a b first second) third) fourth

pub without_vector_items : (mark : ℕ) (v : Vector) → mark < 33 → IsVectorOfWidth v → AreWithout mark (vector_items v)
without_vector_items mark v small width =
    without_four mark (map (attribute_item (codes "a")) v.attrs) (map end_item v.ends) (map plane_item v.plane) (map deep_item v.deep)
    (without_items mark (attribute_item (codes "a")) IsAttributeOfWidth (λ a fits. free_attribute mark 97 a small (omega arith) fits) v.attrs width.attrs)
    (without_items mark end_item IsEndOfWidth (λ e fits. free_end mark e small fits) v.ends width.ends)
    (without_items mark plane_item IsPointOfWidth (λ p fits. free_point mark p small fits) v.plane width.plane)
    (without_items mark deep_item IsSoundingOfWidth (λ p fits. free_sounding mark p small fits) v.deep width.deep)

pub without_feature_items : (mark : ℕ) (f : Feature) → mark < 33 → IsFeatureOfWidth f → AreWithout mark (feature_items f)
without_feature_items mark f small width =
    without_four mark (map (attribute_item (codes "a")) f.attf) (map (attribute_item (codes "n")) f.natf) (map partner_item f.partners)
    (map place_item f.places)
    (without_items mark (attribute_item (codes "a")) IsAttributeOfWidth (λ a fits. free_attribute mark 97 a small (omega arith) fits) f.attf width.attf)
    (without_items mark (attribute_item (codes "n")) IsAttributeOfWidth (λ a fits. free_attribute mark 110 a small (omega arith) fits) f.natf width.natf)
    (without_items mark partner_item IsPartnerOfWidth (λ p fits. free_partner mark p small fits) f.partners width.partners)
    (without_items mark place_item IsPlaceOfWidth (λ s fits. free_place mark s small fits) f.places width.places)

-- the words of a number, of a name and of records
pub without_number : (mark n : ℕ) → mark < 33 → n < 2 ^ 32 → AreWithout mark (decimal n ∷ [])
without_number mark n small fits = without_cons mark (decimal n) [] (free_number mark n small fits) (without_none mark)

pub without_name : (mark : ℕ) (n : RecName) → mark < 33 → IsNameOfWidth n → AreWithout mark (name_words n)
without_name mark n small width =
    without_cons mark (kind_word n.kind) (decimal n.id ∷ []) (free_kind mark n.kind (omega arith))
    (without_cons mark (decimal n.id) [] (free_number mark n.id small width) (without_none mark))

pub without_vector : (mark : ℕ) (v : Vector) → mark < 33 → IsVectorOfWidth v → AreWithout mark (vector_words v)
without_vector mark v small width =
    without_append mark (name_words v.name) (decimal v.rver ∷ vector_items v) (without_name mark v.name small width.name)
    (without_cons mark (decimal v.rver) (vector_items v) (free_number mark v.rver small (omega (arith, width.rver))) (without_vector_items mark v small width))

pub without_feature : (mark : ℕ) (f : Feature) → mark < 33 → IsFeatureOfWidth f → AreWithout mark (feature_words f)
without_feature mark f small width =
    let numbers = λ (n : ℕ) (words : List (List ℕ)) (fits : n < 2 ^ 32) (others : AreWithout mark words). without_cons mark
    (decimal n) words (free_number mark n small fits) others in
    let items = feature_items f in
    let fids = decimal f.foid.fids ∷ items in
    let fidn = decimal f.foid.fidn ∷ fids in
    let agen = decimal f.foid.agen ∷ fidn in
    let objl = decimal f.objl ∷ agen in
    let grup = decimal f.grup ∷ objl in
    let prim = decimal f.prim ∷ grup in
    without_append mark (name_words f.name) (decimal f.rver ∷ prim) (without_name mark f.name small width.name)
    (numbers f.rver prim (omega (arith, width.rver)) (numbers f.prim grup (omega (arith, width.prim)) (numbers f.grup objl (omega (arith, width.grup))
    (numbers f.objl agen (omega (arith, width.objl)) (numbers f.foid.agen fidn (omega (arith, width.foid.agen)) (numbers f.foid.fidn fids width.foid.fidn
    (numbers f.foid.fids items (omega (arith, width.foid.fids)) (without_feature_items mark f small width))))))))

pub without_record : (mark : ℕ) (r : Rec) → mark < 33 → IsRecordOfWidth r → AreWithout mark (record_words r)
without_record mark (V v) small width = without_vector mark v small width
without_record mark (F f) small width = without_feature mark f small width
without_record mark (H h) small width = without_none mark

-- words behind spaces have no other mark
pub free_spaced : (mark : ℕ) (words : List (List ℕ)) → (32 ≡ mark → ⊥) → AreWithout mark words → IsFree mark (spaced_words words)
free_spaced mark [] apart without = free_nothing mark
free_spaced mark (word ∷ words) apart without =
    free_part 32 apart (record { free = All-head (λ x. holds mark x ≡ false) word words without })
    (free_spaced mark words apart (All-tail (λ x. holds mark x ≡ false) word words without))
