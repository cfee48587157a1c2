-- Values with the same words are the same.
use Rattle.std.proofs.Common.{◌≡◌, ℕ, ℤ, pos, negsuc, ◌<◌, ◌^◌, false, List, [], ◌∷◌, ◌++◌, length, map, get_or, drop, cond, eqb, All, refl, sym, ap, ◌∙◌}
use Rattle.std.proofs.Common.{arith, w32, FitsSigned}
use Rattle.std.specs.List.{flat_map}
use Rattle.std.specs.Fmt.{decimal, signed_decimal}
use Rattle.std.proofs.lemmas.Fmt.{decimal_injective, signed_decimal_injective}
use Rattle.std.proofs.lemmas.List.{append-nil}
use Rattle.std.proofs.lemmas.List.Elements.{All-head, All-tail, All-nil, All-cons}
use Rattle.s57_types.specs.Subfield.{holds}
use Rattle.s57_types.specs.declared.name.Kind.{Kind}
use Rattle.s57_types.specs.declared.name.Kind.TheVariants.{Vi, Vc, Ve, Fe, Head as HeadKind}
use Rattle.s57_types.specs.declared.name.RecName.{RecName}
use Rattle.s57_types.specs.declared.name.Lnam.{Lnam}
use Rattle.s57_types.specs.declared.record.Attr.{Attr}
use Rattle.s57_types.specs.declared.record.End.{End}
use Rattle.s57_types.specs.declared.record.Spot.{Spot}
use Rattle.s57_types.specs.declared.record.Partner.{Partner}
use Rattle.text_spec.specs.CellText.{kind_word}
use Rattle.text_spec.specs.EditLine.{attribute_item, end_item, plane_item, deep_item, partner_item, place_item, text_word}
use Rattle.script_text.specs.Cuts.{IsFrom}
use Rattle.script_text.specs.Widths.{IsAttributeOfWidth, IsEndOfWidth, IsPointOfWidth, IsSoundingOfWidth, IsPartnerOfWidth, IsPlaceOfWidth}
use Rattle.script_text.proofs.Cuts.{cut_between, cut_of}
use Rattle.script_text.proofs.Words.{IsFree, free_kind, free_decimal, free_signed, from_parts, same_end, same_point, same_sounding, same_attribute}
use Rattle.script_text.proofs.Words.{same_place, same_partner}
use Rattle.script_text.proofs.Texts.{same_text}
use Rattle.script_text.proofs.Frees.{AreWithout}
use lib.Signed.{mag}

-- what two texts have alike, cut at their first marks
pub record IsAlike (a a' b b' : List ℕ) : Type 0 where
  pub part : a ≡ a'
  pub rest : b ≡ b'

pub alike : (mark lead : ℕ) (part part' rest rest' : List ℕ) → IsFree mark part → IsFree mark part' → IsFrom mark rest → IsFrom mark rest'
    → lead ∷ (part ++ rest) ≡ lead ∷ (part' ++ rest') → IsAlike part part' rest rest'
alike mark lead part part' rest rest' free free' begins begins' same =
    let tails : part ++ rest ≡ part' ++ rest' = cc in
    let one = cut_between mark part rest free.free begins in
    let other = cut_of mark (part ++ rest) part' rest' tails free'.free begins' in
    record { part = sym one.front_is ∙ other.front_is; rest = sym one.rest_is ∙ other.rest_is }

-- parts behind marks
abbrev pub marked : ℕ → List (List ℕ) → List ℕ
marked mark = flat_map (λ part. mark ∷ part)

pub alike_parts : (mark : ℕ) (parts parts' : List (List ℕ)) → AreWithout mark parts → AreWithout mark parts'
    → marked mark parts ≡ marked mark parts' → parts ≡ parts'
alike_parts mark [] [] without without' same = refl
alike_parts mark [] (part' ∷ parts') without without' same = absurd (omega (arith, ap length same))
alike_parts mark (part ∷ parts) [] without without' same = absurd (omega (arith, ap length same))
alike_parts mark (part ∷ parts) (part' ∷ parts') without without' same =
    let cut = alike mark mark part part' (marked mark parts) (marked mark parts')
    (record { free = All-head (λ x. holds mark x ≡ false) part parts without }) (record { free = All-head (λ x. holds mark x ≡ false) part' parts' without' })
    (from_parts mark parts) (from_parts mark parts') same in
    ap (λ x. x ∷ parts) cut.part ∙ ap (λ t. part' ∷ t)
    (alike_parts mark parts parts' (All-tail (λ x. holds mark x ≡ false) part parts without)
    (All-tail (λ x. holds mark x ≡ false) part' parts' without') cut.rest)

-- lists of items
pub alike_list : {X : Type 0} (item : X → List ℕ) (Q : X → Type 0) → ((x y : X) → Q x → Q y → item x ≡ item y → x ≡ y)
    → (xs ys : List X) → All Q xs → All Q ys → map item xs ≡ map item ys → xs ≡ ys
alike_list item Q each [] [] all all' same = refl
alike_list item Q each [] (y ∷ ys) all all' same = absurd (omega (arith, ap length same))
alike_list item Q each (x ∷ xs) [] all all' same = absurd (omega (arith, ap length same))
alike_list item Q each (x ∷ xs) (y ∷ ys) all all' same =
    ap (λ z. z ∷ xs) (each x y (All-head Q x xs all) (All-head Q y ys all') (ap (λ t. get_or t 0 []) same))
    ∙ ap (λ t. y ∷ t) (alike_list item Q each xs ys (All-tail Q x xs all) (All-tail Q y ys all') (ap (drop 1) same))

-- numbers behind colons
abbrev pub AreSmall : List ℕ → Type 0
AreSmall = All (λ n. n < 2 ^ 32)

pub same_number : (n n' : ℕ) → n < 2 ^ 32 → n' < 2 ^ 32 → decimal n ≡ decimal n' → n ≡ n'
same_number n n' fits fits' = decimal_injective n n' (omega arith) (omega arith)

free_colon : (n : ℕ) → n < 2 ^ 32 → IsFree 58 (decimal n)
free_colon n fits = free_decimal 58 n (λ d below here. omega arith) (omega arith)

without_numbers : (ns : List ℕ) → AreSmall ns → AreWithout 58 (map decimal ns)
without_numbers [] small = All-nil (λ x. holds 58 x ≡ false)
without_numbers (n ∷ ns) small =
    All-cons (λ x. holds 58 x ≡ false) (decimal n) (map decimal ns) (free_colon n (All-head (λ x. x < 2 ^ 32) n ns small)).free
    (without_numbers ns (All-tail (λ x. x < 2 ^ 32) n ns small))

alike_numbers : (ns ns' : List ℕ) → AreSmall ns → AreSmall ns' → marked 58 (map decimal ns) ≡ marked 58 (map decimal ns') → ns ≡ ns'
alike_numbers ns ns' small small' same =
    alike_list decimal (λ n. n < 2 ^ 32) same_number ns ns' small small'
    (alike_parts 58 (map decimal ns) (map decimal ns') (without_numbers ns small) (without_numbers ns' small') same)

-- names
abbrev kind_back : List ℕ → Kind
kind_back word =
    cond (eqb (get_or word 0 0) 104) HeadKind (cond (eqb (get_or word 0 0) 102) Fe
    (cond (eqb (get_or word 1 0) 105) Vi (cond (eqb (get_or word 1 0) 99) Vc Ve)))

kind_is_back : (k : Kind) → kind_back (kind_word k) ≡ k
kind_is_back Vi = refl
kind_is_back Vc = refl
kind_is_back Ve = refl
kind_is_back Fe = refl
kind_is_back HeadKind = refl

pub same_kind : (k k' : Kind) → kind_word k ≡ kind_word k' → k ≡ k'
same_kind k k' same = sym (kind_is_back k) ∙ ap kind_back same ∙ kind_is_back k'

abbrev name_with : Kind → ℕ → RecName
name_with kind id = record { kind = kind; id = id }

pub same_name : (n n' : RecName) → kind_word n.kind ≡ kind_word n'.kind → n.id ≡ n'.id → n ≡ n'
same_name n n' kinds ids = ap (λ (k : Kind). name_with k n.id) (same_kind n.kind n'.kind kinds) ∙ ap (λ (i : ℕ). name_with n'.kind i) ids

abbrev identity_with : ℕ → ℕ → ℕ → Lnam
identity_with agen fidn fids = record { agen = agen; fidn = fidn; fids = fids }

pub same_identity : (l l' : Lnam) → l.agen ≡ l'.agen → l.fidn ≡ l'.fidn → l.fids ≡ l'.fids → l ≡ l'
same_identity l l' agen fidn fids = ap (λ (x : ℕ). identity_with x l.fidn l.fids) agen ∙ ap (λ (x : ℕ). identity_with l'.agen x l.fids) fidn
    ∙ ap (λ (x : ℕ). identity_with l'.agen l'.fidn x) fids

-- pointers: a kind, and numbers behind colons
record IsAlikePointer (kind kind' : Kind) (ns ns' : List ℕ) : Type 0 where
  kinds : kind_word kind ≡ kind_word kind'
  numbers : ns ≡ ns'

alike_pointer : (kind kind' : Kind) (ns ns' : List ℕ) → AreSmall ns → AreSmall ns'
    → 61 ∷ (kind_word kind ++ marked 58 (map decimal ns)) ≡ 61 ∷ (kind_word kind' ++ marked 58 (map decimal ns')) → IsAlikePointer kind kind' ns ns'
alike_pointer kind kind' ns ns' small small' same =
    let cut = alike 58 61 (kind_word kind) (kind_word kind') (marked 58 (map decimal ns)) (marked 58 (map decimal ns'))
    (free_kind 58 kind (omega arith)) (free_kind 58 kind' (omega arith))
    (from_parts 58 (map decimal ns)) (from_parts 58 (map decimal ns')) same in
    record { kinds = cut.part; numbers = alike_numbers ns ns' small small' cut.rest }

small_cons : (n : ℕ) (ns : List ℕ) → n < 2 ^ 32 → AreSmall ns → AreSmall (n ∷ ns)
small_cons n ns fits others = All-cons (λ x. x < 2 ^ 32) n ns fits others

small_none : AreSmall []
small_none = All-nil (λ x. x < 2 ^ 32)

abbrev end_numbers : End → List ℕ
end_numbers e = e.to.id ∷ e.ornt ∷ e.usag ∷ e.topi ∷ e.mask ∷ []

small_end : (e : End) → IsEndOfWidth e → AreSmall (end_numbers e)
small_end e w = let p = w.pointer in
    small_cons e.to.id (e.ornt ∷ e.usag ∷ e.topi ∷ e.mask ∷ []) p.to (small_cons e.ornt (e.usag ∷ e.topi ∷ e.mask ∷ []) (omega (arith, p.ornt))
    (small_cons e.usag (e.topi ∷ e.mask ∷ []) (omega (arith, p.usag))
    (small_cons e.topi (e.mask ∷ []) (omega (arith, w.topi)) (small_cons e.mask [] (omega (arith, p.mask)) small_none))))

pub alike_end : (e e' : End) → IsEndOfWidth e → IsEndOfWidth e' → end_item e ≡ end_item e' → e ≡ e'
alike_end e e' w w' same =
    let both = alike_pointer e.to.kind e'.to.kind (end_numbers e) (end_numbers e') (small_end e w) (small_end e' w') (ap (drop 1) same) in
    let number = λ (k : ℕ). ap (λ t. get_or t k 0) both.numbers in
    same_end e.to e.ornt e.usag e.topi e.mask e' (same_name e.to e'.to both.kinds (number 0)) (number 1) (number 2) (number 3) (number 4)

abbrev place_numbers : Spot → List ℕ
place_numbers s = s.to.id ∷ s.ornt ∷ s.usag ∷ s.mask ∷ []

small_place : (s : Spot) → IsPlaceOfWidth s → AreSmall (place_numbers s)
small_place s w =
    small_cons s.to.id (s.ornt ∷ s.usag ∷ s.mask ∷ []) w.to (small_cons s.ornt (s.usag ∷ s.mask ∷ []) (omega (arith, w.ornt))
    (small_cons s.usag (s.mask ∷ []) (omega (arith, w.usag)) (small_cons s.mask [] (omega (arith, w.mask)) small_none)))

pub alike_place : (s s' : Spot) → IsPlaceOfWidth s → IsPlaceOfWidth s' → place_item s ≡ place_item s' → s ≡ s'
alike_place s s' w w' same =
    let both = alike_pointer s.to.kind s'.to.kind (place_numbers s) (place_numbers s') (small_place s w) (small_place s' w') (ap (drop 1) same) in
    let number = λ (k : ℕ). ap (λ t. get_or t k 0) both.numbers in
    same_place s.to s.ornt s.usag s.mask s' (same_name s.to s'.to both.kinds (number 0)) (number 1) (number 2) (number 3)

-- coordinates
mag_fits : (z : ℤ) → FitsSigned w32 z → mag z < 2 ^ 63
mag_fits (pos n) fits = omega (arith, fits.sfits)
mag_fits (negsuc n) fits = omega (arith, fits.sfits)

same_coordinate : (z z' : ℤ) → FitsSigned w32 z → FitsSigned w32 z' → signed_decimal z ≡ signed_decimal z' → z ≡ z'
same_coordinate z z' fits fits' = signed_decimal_injective z z' (mag_fits z fits) (mag_fits z' fits')

free_comma : (z : ℤ) → FitsSigned w32 z → IsFree 44 (signed_decimal z)
free_comma z fits = free_signed 44 z (λ d below here. omega arith) (λ here. omega arith) fits

without_coordinates : (zs : List ℤ) → All (FitsSigned w32) zs → AreWithout 44 (map signed_decimal zs)
without_coordinates [] fit = All-nil (λ x. holds 44 x ≡ false)
without_coordinates (z ∷ zs) fit =
    All-cons (λ x. holds 44 x ≡ false) (signed_decimal z) (map signed_decimal zs) (free_comma z (All-head (FitsSigned w32) z zs fit)).free
    (without_coordinates zs (All-tail (FitsSigned w32) z zs fit))

record AreAlikeCoordinates (z z' : ℤ) (zs zs' : List ℤ) : Type 0 where
  first : z ≡ z'
  others : zs ≡ zs'

alike_coordinates : (z z' : ℤ) (zs zs' : List ℤ) → FitsSigned w32 z → FitsSigned w32 z' → All (FitsSigned w32) zs → All (FitsSigned w32) zs'
    → 61 ∷ (signed_decimal z ++ marked 44 (map signed_decimal zs)) ≡ 61 ∷ (signed_decimal z' ++ marked 44 (map signed_decimal zs'))
    → AreAlikeCoordinates z z' zs zs'
alike_coordinates z z' zs zs' fits fits' all all' same =
    let cut = alike 44 61 (signed_decimal z) (signed_decimal z') (marked 44 (map signed_decimal zs)) (marked 44 (map signed_decimal zs'))
    (free_comma z fits) (free_comma z' fits')
    (from_parts 44 (map signed_decimal zs)) (from_parts 44 (map signed_decimal zs')) same in
    record {
      first = same_coordinate z z' fits fits' cut.part;
      others = alike_list signed_decimal (FitsSigned w32) same_coordinate zs zs' all all'
          (alike_parts 44 (map signed_decimal zs) (map signed_decimal zs') (without_coordinates zs all) (without_coordinates zs' all') cut.rest);
    }

one_fits : (z : ℤ) → FitsSigned w32 z → All (FitsSigned w32) (z ∷ [])
one_fits z fits = All-cons (FitsSigned w32) z [] fits (All-nil (FitsSigned w32))

pub alike_point : (p p' : ℤ × ℤ) → IsPointOfWidth p → IsPointOfWidth p' → plane_item p ≡ plane_item p' → p ≡ p'
alike_point p p' w w' same =
    let both = alike_coordinates p.0 p'.0 (p.1 ∷ []) (p'.1 ∷ []) w.latitude w'.latitude (one_fits p.1 w.longitude) (one_fits p'.1 w'.longitude)
    (ap (drop 1) same) in
    same_point p.0 p.1 p' both.first (ap (λ t. get_or t 0 p.1) both.others)

pub alike_sounding : (p p' : ℤ × ℤ × ℤ) → IsSoundingOfWidth p → IsSoundingOfWidth p' → deep_item p ≡ deep_item p' → p ≡ p'
alike_sounding p p' w w' same =
    let two = λ (q : ℤ × ℤ × ℤ) (fits : IsSoundingOfWidth q). All-cons (FitsSigned w32) q.1 (q.2 ∷ []) fits.longitude (one_fits q.2 fits.depth) in
    let both = alike_coordinates p.0 p'.0 (p.1 ∷ p.2 ∷ []) (p'.1 ∷ p'.2 ∷ []) w.latitude w'.latitude (two p w) (two p' w') (ap (drop 1) same) in
    same_sounding p.0 p.1 p.2 p' both.first (ap (λ t. get_or t 0 p.1) both.others) (ap (λ t. get_or t 1 p.1) both.others)

-- texts
pub alike_text : (value value' : List ℕ) → All (λ b. b < 256) value → All (λ b. b < 256) value'
    → 58 ∷ (text_word value ++ []) ≡ 58 ∷ (text_word value' ++ []) → value ≡ value'
alike_text value value' w w' same = same_text value value' w w' (sym (append-nil (text_word value)) ∙ ap (drop 1) same ∙ append-nil (text_word value'))

pub alike_attribute : (letter : ℕ) (a a' : Attr) → IsAttributeOfWidth a → IsAttributeOfWidth a'
    → attribute_item (letter ∷ []) a ≡ attribute_item (letter ∷ []) a' → a ≡ a'
alike_attribute letter a a' w w' same =
    let cut = alike 58 61 (decimal a.code) (decimal a'.code) (58 ∷ (text_word a.value ++ [])) (58 ∷ (text_word a'.value ++ []))
    (free_colon a.code (omega (arith, w.code))) (free_colon a'.code (omega (arith, w'.code))) refl refl (ap (drop 1) same) in
    same_attribute a.code a.value a' (same_number a.code a'.code (omega (arith, w.code)) (omega (arith, w'.code)) cut.part)
    (alike_text a.value a'.value w.value w'.value cut.rest)

pub alike_partner : (p p' : Partner) → IsPartnerOfWidth p → IsPartnerOfWidth p' → partner_item p ≡ partner_item p' → p ≡ p'
alike_partner p p' w w' same =
    let comt = λ (q : Partner). 58 ∷ (text_word q.comt ++ []) in
    let rind = λ (q : Partner). 58 ∷ (decimal q.rind ++ comt q) in
    let fids = λ (q : Partner). 58 ∷ (decimal q.to.fids ++ rind q) in
    let fidn = λ (q : Partner). 58 ∷ (decimal q.to.fidn ++ fids q) in
    let one = alike 58 61 (decimal p.to.agen) (decimal p'.to.agen) (fidn p) (fidn p') (free_colon p.to.agen (omega (arith, w.to.agen)))
    (free_colon p'.to.agen (omega (arith, w'.to.agen))) refl refl (ap (drop 1) same) in
    let two = alike 58 58 (decimal p.to.fidn) (decimal p'.to.fidn) (fids p) (fids p') (free_colon p.to.fidn w.to.fidn)
    (free_colon p'.to.fidn w'.to.fidn) refl refl one.rest in
    let three = alike 58 58 (decimal p.to.fids) (decimal p'.to.fids) (rind p) (rind p') (free_colon p.to.fids (omega (arith, w.to.fids)))
    (free_colon p'.to.fids (omega (arith, w'.to.fids))) refl refl two.rest in
    let four = alike 58 58 (decimal p.rind) (decimal p'.rind) (comt p) (comt p') (free_colon p.rind (omega (arith, w.rind)))
    (free_colon p'.rind (omega (arith, w'.rind))) refl refl three.rest in
    same_partner p.to p.rind p.comt p' (same_identity p.to p'.to
    (same_number p.to.agen p'.to.agen (omega (arith, w.to.agen)) (omega (arith, w'.to.agen)) one.part)
    (same_number p.to.fidn p'.to.fidn w.to.fidn w'.to.fidn two.part)
    (same_number p.to.fids p'.to.fids (omega (arith, w.to.fids)) (omega (arith, w'.to.fids)) three.part))
    (same_number p.rind p'.rind (omega (arith, w.rind)) (omega (arith, w'.rind)) four.part) (alike_text p.comt p'.comt w.comt w'.comt four.rest)
