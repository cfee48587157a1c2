-- Which words have no mark in them.
use Rattle.std.proofs.Common.{◌≡◌, ℕ, ℤ, pos, negsuc, ◌+◌, ◌%◌, ◌<◌, ◌^◌, ◌==◌, false, List, [], ◌∷◌, ◌++◌, refl, ap, ◌∙◌, arith, w32, FitsSigned, suc}
use Rattle.std.specs.Fmt.{decimal, signed_decimal}
use Rattle.std.specs.List.{flat_map}
use Rattle.std.proofs.lemmas.Bool.{ne_eqb, or_from}
use Rattle.std.proofs.lemmas.Fmt.{decimal_by_steps}
use Rattle.std.proofs.lemmas.List.Folds.{list_any-append}
use Rattle.s57_types.specs.Subfield.{holds}
use Rattle.s57_types.specs.declared.name.Kind.{Kind}
use Rattle.s57_types.specs.declared.name.Kind.TheVariants.{Vi, Vc, Ve, Fe, Head as HeadKind}
use Rattle.s57_types.specs.declared.name.RecName.{RecName}
use Rattle.s57_types.specs.declared.name.Lnam.{Lnam}
use Rattle.s57_types.specs.declared.record.Attr.{Attr}
use Rattle.s57_types.specs.declared.record.End.{End}
use Rattle.s57_types.specs.declared.record.Spot.{Spot}
use Rattle.s57_types.specs.declared.record.Partner.{Partner}
use Rattle.text_spec.specs.CellText.{kind_word}
use Rattle.text_spec.specs.EditLine.{end_item, plane_item}
use Rattle.script_text.specs.Cuts.{IsFrom}
use Rattle.script_text.specs.Widths.{IsEndOfWidth, IsPointOfWidth}

-- a text without the mark
pub record IsFree (mark : ℕ) (text : List ℕ) : Type 0 where
  pub free : holds mark text ≡ false

pub free_nothing : (mark : ℕ) → IsFree mark []
free_nothing mark = record { free = refl }

pub free_cons : {mark : ℕ} {text : List ℕ} (b : ℕ) → (b ≡ mark → ⊥) → IsFree mark text → IsFree mark (b ∷ text)
free_cons {mark} {text} b other tail = record { free = or_from (b == mark) (holds mark text) (ne_eqb b mark other) tail.free }

pub free_append : {mark : ℕ} {front rest : List ℕ} → IsFree mark front → IsFree mark rest → IsFree mark (front ++ rest)
free_append {mark} {front} {rest} head tail = record {
  free = list_any-append (λ c. c == mark) front rest
      ∙ or_from (holds mark front) (holds mark rest) head.free tail.free;
}

-- the mark is no digit
abbrev pub IsNoDigit : ℕ → Type 0
IsNoDigit mark = (d : ℕ) → d < 10 → 48 + d ≡ mark → ⊥

pub free_decimal : (mark n : ℕ) → IsNoDigit mark → n < 2 ^ 64 → IsFree mark (decimal n)
free_decimal mark n apart fits = decimal_by_steps (λ _ digits. IsFree mark digits)
    (λ d below. free_cons (48 + d) (apart d below) (free_nothing mark))
    (λ m digits many free. free_append free (free_cons (48 + m % 10) (apart (m % 10) (omega arith)) (free_nothing mark)))
    n fits

pub free_of_colons : (n : ℕ) → n < 2 ^ 32 → IsFree 58 (decimal n)
free_of_colons n fits = free_decimal 58 n (λ d below here. omega arith) (omega arith)

pub free_signed : (mark : ℕ) (z : ℤ) → IsNoDigit mark → (45 ≡ mark → ⊥) → FitsSigned w32 z → IsFree mark (signed_decimal z)
free_signed mark (pos n) apart other fits = free_decimal mark n apart (omega (arith, fits.sfits))
free_signed mark (negsuc n) apart other fits = free_cons 45 other (free_decimal mark (suc n) apart (omega (arith, fits.sfits)))

two_letters : {mark : ℕ} (a b : ℕ) → mark < a → mark < b → IsFree mark (a ∷ b ∷ [])
two_letters {mark} a b first second = free_cons a (λ e. omega arith) (free_cons b (λ e. omega arith) (free_nothing mark))

pub free_kind : (mark : ℕ) (kind : Kind) → mark < 97 → IsFree mark (kind_word kind)
free_kind mark Vi small = two_letters 118 105 (omega arith) (omega arith)
free_kind mark Vc small = two_letters 118 99 (omega arith) (omega arith)
free_kind mark Ve small = two_letters 118 101 (omega arith) (omega arith)
free_kind mark Fe small = two_letters 102 101 (omega arith) (omega arith)
free_kind mark HeadKind small = free_cons 104 (λ e. omega arith) (free_cons 101 (λ e. omega arith) (two_letters 97 100 (omega arith) (omega arith)))

-- a part behind another mark, and what follows it
pub free_part : {mark : ℕ} {part rest : List ℕ} (other : ℕ) → (other ≡ mark → ⊥) → IsFree mark part → IsFree mark rest → IsFree mark (other ∷ (part ++ rest))
free_part other apart here behind = free_cons other apart (free_append here behind)

pub free_end : (mark : ℕ) (e : End) → mark < 33 → IsEndOfWidth e → IsFree mark (end_item e)
free_end mark e small width =
    let number = λ (n : ℕ) (fits : n < 2 ^ 32). free_decimal mark n (λ d below here. omega arith) (omega arith) in
    free_cons 101 (λ here. omega arith) (free_part 61 (λ here. omega arith) (free_kind mark e.to.kind (omega arith))
    (free_part 58 (λ here. omega arith) (number e.to.id width.pointer.to)
    (free_part 58 (λ here. omega arith) (number e.ornt (omega (arith, width.pointer.ornt)))
    (free_part 58 (λ here. omega arith) (number e.usag (omega (arith, width.pointer.usag)))
    (free_part 58 (λ here. omega arith) (number e.topi (omega (arith, width.topi)))
    (free_part 58 (λ here. omega arith) (number e.mask (omega (arith, width.pointer.mask))) (free_nothing mark)))))))

pub free_point : (mark : ℕ) (p : ℤ × ℤ) → mark < 33 → IsPointOfWidth p → IsFree mark (plane_item p)
free_point mark p small width =
    let number = λ (z : ℤ) (fits : FitsSigned w32 z). free_signed mark z (λ d below here. omega arith) (λ here. omega arith) fits in
    free_cons 112 (λ here. omega arith) (free_part 61 (λ here. omega arith) (number p.0 width.latitude)
    (free_part 44 (λ here. omega arith) (number p.1 width.longitude) (free_nothing mark)))

-- parts behind marks begin with the mark, if there are any
pub from_parts : (mark : ℕ) (parts : List (List ℕ)) → IsFrom mark (flat_map (λ part. mark ∷ part) parts)
from_parts mark [] = tt
from_parts mark (part ∷ parts) = refl

abbrev pub end_with : RecName → ℕ → ℕ → ℕ → ℕ → End
end_with to ornt usag topi mask = record { to = to; ornt = ornt; usag = usag; topi = topi; mask = mask }

pub same_end : (to : RecName) (ornt usag topi mask : ℕ) (e : End) → to ≡ e.to → ornt ≡ e.ornt → usag ≡ e.usag → topi ≡ e.topi → mask ≡ e.mask
    → end_with to ornt usag topi mask ≡ e
same_end to ornt usag topi mask e to_is ornt_is usag_is topi_is mask_is =
    ap (λ (x : RecName). end_with x ornt usag topi mask) to_is ∙ ap (λ (x : ℕ). end_with e.to x usag topi mask) ornt_is
    ∙ ap (λ (x : ℕ). end_with e.to e.ornt x topi mask) usag_is ∙ ap (λ (x : ℕ). end_with e.to e.ornt e.usag x mask) topi_is
    ∙ ap (λ (x : ℕ). end_with e.to e.ornt e.usag e.topi x) mask_is

abbrev pub point_with : ℤ → ℤ → ℤ × ℤ
point_with latitude longitude = (latitude, longitude)

pub same_point : (latitude longitude : ℤ) (p : ℤ × ℤ) → latitude ≡ p.0 → longitude ≡ p.1 → point_with latitude longitude ≡ p
same_point latitude longitude p latitude_is longitude_is = ap (λ (z : ℤ). point_with z longitude) latitude_is ∙ ap (λ (z : ℤ). point_with p.0 z) longitude_is

abbrev pub sounding_with : ℤ → ℤ → ℤ → ℤ × ℤ × ℤ
sounding_with latitude longitude depth = (latitude, longitude, depth)

pub same_sounding : (latitude longitude depth : ℤ) (p : ℤ × ℤ × ℤ) → latitude ≡ p.0 → longitude ≡ p.1 → depth ≡ p.2 → sounding_with latitude longitude depth ≡ p
same_sounding latitude longitude depth p latitude_is longitude_is depth_is =
    ap (λ (z : ℤ). sounding_with z longitude depth) latitude_is ∙ ap (λ (z : ℤ). sounding_with p.0 z depth) longitude_is
    ∙ ap (λ (z : ℤ). sounding_with p.0 p.1 z) depth_is

abbrev pub attribute_with : ℕ → List ℕ → Attr
attribute_with code value = record { code = code; value = value }

pub same_attribute : (code : ℕ) (value : List ℕ) (a : Attr) → code ≡ a.code → value ≡ a.value → attribute_with code value ≡ a
same_attribute code value a code_is value_is = ap (λ (x : ℕ). attribute_with x value) code_is ∙ ap (λ (x : List ℕ). attribute_with a.code x) value_is

abbrev pub place_with : RecName → ℕ → ℕ → ℕ → Spot
place_with to ornt usag mask = record { to = to; ornt = ornt; usag = usag; mask = mask }

pub same_place : (to : RecName) (ornt usag mask : ℕ) (s : Spot) → to ≡ s.to → ornt ≡ s.ornt → usag ≡ s.usag → mask ≡ s.mask → place_with to ornt usag mask ≡ s
same_place to ornt usag mask s to_is ornt_is usag_is mask_is =
    ap (λ (x : RecName). place_with x ornt usag mask) to_is ∙ ap (λ (x : ℕ). place_with s.to x usag mask) ornt_is
    ∙ ap (λ (x : ℕ). place_with s.to s.ornt x mask) usag_is ∙ ap (λ (x : ℕ). place_with s.to s.ornt s.usag x) mask_is

abbrev pub partner_with : Lnam → ℕ → List ℕ → Partner
partner_with to rind comt = record { to = to; rind = rind; comt = comt }

pub same_partner : (to : Lnam) (rind : ℕ) (comt : List ℕ) (p : Partner) → to ≡ p.to → rind ≡ p.rind → comt ≡ p.comt → partner_with to rind comt ≡ p
same_partner to rind comt p to_is rind_is comt_is =
    ap (λ (x : Lnam). partner_with x rind comt) to_is ∙ ap (λ (x : ℕ). partner_with p.to x comt) rind_is
    ∙ ap (λ (x : List ℕ). partner_with p.to p.rind x) comt_is
