-- The words of a head's new values: they have no white space, and are read as those values.
use Rattle.std.proofs.Common.{◌≡◌, ℕ, ◌<◌, ◌^◌, true, nat_le, List, [], ◌∷◌, ◌++◌, length, get_or, drop, codes, refl, sym, ap, ◌∙◌, arith}
use Rattle.std.specs.Fmt.{decimal}
use Rattle.std.specs.List.{list_all}
use Rattle.std.proofs.lemmas.Bool.{and_parts, leb-true}
use Rattle.std.proofs.lemmas.Fmt.{decimal_digit}
use Rattle.std.proofs.lemmas.List.{append-nil}
use Rattle.std.proofs.lemmas.List.Elements.{All-from_recursion, recursion_from_All}
use Rattle.s57_types.specs.Heads.{level_number, head_edit_texts}
use Rattle.s57_types.specs.declared.head.HeadEdit.{HeadEdit}
use Rattle.s57_types.specs.declared.head.Level.{Level}
use Rattle.s57_types.specs.declared.head.Level.TheVariants.{Zero, One}
use Rattle.text_spec.specs.EditLine.{item, head_words, text_word}
use Rattle.text_spec.specs.ScriptLines.{IsOfWidth, IsHeadEditOfWidth}
use Rattle.script_text.specs.Widths.{IsTextOfWidth}
use Rattle.script_text.proofs.Words.{IsFree, free_nothing, free_cons, free_append, free_part}
use Rattle.script_text.proofs.Texts.{free_text}
use Rattle.script_text.proofs.Frees.{AreWithout, free_number, without_none, without_cons}
use Rattle.script_text.proofs.Alike.{alike_text, same_number}

abbrev pub head_edit_with : List ℕ → List ℕ → List ℕ → List ℕ → Level → List ℕ → HeadEdit
head_edit_with edtn updn uadt isdt aall comt = record { edtn = edtn; updn = updn; uadt = uadt; isdt = isdt; aall = aall; comt = comt }

pub same_head_edit : (edtn updn uadt isdt : List ℕ) (aall : Level) (comt : List ℕ) (e : HeadEdit)
    → edtn ≡ e.edtn → updn ≡ e.updn → uadt ≡ e.uadt → isdt ≡ e.isdt → aall ≡ e.aall → comt ≡ e.comt → head_edit_with edtn updn uadt isdt aall comt ≡ e
same_head_edit edtn updn uadt isdt aall comt e edtn_is updn_is uadt_is isdt_is aall_is comt_is =
    ap (λ x. head_edit_with x updn uadt isdt aall comt) edtn_is ∙ ap (λ x. head_edit_with e.edtn x uadt isdt aall comt) updn_is
    ∙ ap (λ x. head_edit_with e.edtn e.updn x isdt aall comt) uadt_is ∙ ap (λ x. head_edit_with e.edtn e.updn e.uadt x aall comt) isdt_is
    ∙ ap (λ x. head_edit_with e.edtn e.updn e.uadt e.isdt x comt) aall_is ∙ ap (λ x. head_edit_with e.edtn e.updn e.uadt e.isdt e.aall x) comt_is

-- the texts of a head's new values are bytes
pub record AreTexts (e : HeadEdit) : Type 0 where
  pub edtn : IsTextOfWidth e.edtn
  pub updn : IsTextOfWidth e.updn
  pub uadt : IsTextOfWidth e.uadt
  pub isdt : IsTextOfWidth e.isdt
  pub comt : IsTextOfWidth e.comt

pub texts_of_width : (e : HeadEdit) → IsHeadEditOfWidth e → AreTexts e
texts_of_width e width =
    let parts = recursion_from_All IsOfWidth (head_edit_texts e) width.texts in
    record { edtn = parts.0; updn = parts.1.0; uadt = parts.1.1.0; isdt = parts.1.1.1.0; comt = parts.1.1.1.1.0 }

pub width_of_texts : (e : HeadEdit) → AreTexts e → length e.uadt ≡ 8 → length e.isdt ≡ 8 → IsHeadEditOfWidth e
width_of_texts e texts uadt isdt = record {
  texts = All-from_recursion IsOfWidth (head_edit_texts e) (texts.edtn, (texts.updn, (texts.uadt, (texts.isdt, (texts.comt, tt)))));
  uadt = uadt;
  isdt = isdt;
}

-- items have no white space
free_name : (mark : ℕ) (name : List ℕ) → mark < 33 → list_all (λ b. nat_le 33 b) name ≡ true → IsFree mark name
free_name mark [] small printing = free_nothing mark
free_name mark (b ∷ name) small printing =
    let parts = and_parts (nat_le 33 b) (list_all (λ x. nat_le 33 x) name) printing in
    free_cons b (λ here. omega (arith, leb-true 33 b parts.0)) (free_name mark name small parts.1)

free_item : (mark : ℕ) (name value : List ℕ) → mark < 33 → list_all (λ b. nat_le 33 b) name ≡ true → IsFree mark value → IsFree mark (item name 58 value [])
free_item mark name value small printing free = free_append (free_name mark name small printing) (free_part 61 (λ here. omega arith) free (free_nothing mark))

level_small : (level : Level) → level_number level < 2 ^ 32
level_small Zero = omega arith
level_small One = omega arith

pub without_head : (mark : ℕ) (e : HeadEdit) → mark < 33 → AreWithout mark (codes "head" ∷ head_words e)
without_head mark e small =
    let text = λ (name value : List ℕ) (words : List (List ℕ)) (printing : list_all (λ b. nat_le 33 b) name ≡ true) (others : AreWithout mark words).
    without_cons mark (item name 58 (text_word value) []) words (free_item mark name (text_word value) small printing (free_text mark value small)) others in
    let words = head_words e in
    without_cons mark (codes "head") words (free_name mark (codes "head") small refl)
    (text (codes "edtn") e.edtn (drop 1 words) refl (text (codes "updn") e.updn (drop 2 words) refl
    (text (codes "uadt") e.uadt (drop 3 words) refl (text (codes "isdt") e.isdt (drop 4 words) refl
    (without_cons mark (item (codes "aall") 58 (decimal (level_number e.aall)) []) (drop 5 words)
    (free_item mark (codes "aall") (decimal (level_number e.aall)) small refl (free_number mark (level_number e.aall) small (level_small e.aall)))
    (text (codes "comt") e.comt [] refl (without_none mark)))))))

-- what stands behind an equals sign
pub free_value : (value : List ℕ) → IsFree 32 (text_word value ++ [])
free_value value = free_append (free_text 32 value (omega arith)) (free_nothing 32)

pub free_level : (level : Level) → IsFree 32 (decimal (level_number level) ++ [])
free_level level = free_append (free_number 32 (level_number level) (omega arith) (level_small level)) (free_nothing 32)

-- a level by its number and its word
level_by : (level other : Level) → level_number level ≡ level_number other → level ≡ other
level_by Zero Zero same = refl
level_by Zero One same = absurd (omega (arith, same))
level_by One Zero same = absurd (omega (arith, same))
level_by One One same = refl

pub zero_level : (level : Level) → decimal (level_number level) ≡ codes "0" → Zero ≡ level
zero_level level is =
    let zero : 0 < 10 = omega arith in
    level_by Zero level (sym (same_number (level_number level) 0 (level_small level) (omega arith) (is ∙ sym (decimal_digit 0 zero))))

pub one_level : (level : Level) → (decimal (level_number level) ≡ codes "0" → ⊥) → One ≡ level
one_level Zero other = let zero : 0 < 10 = omega arith in absurd (other (decimal_digit 0 zero))
one_level One other = refl

-- the same words are of the same values
same_level : (level other : Level) → decimal (level_number level) ++ [] ≡ decimal (level_number other) ++ [] → level ≡ other
same_level level other same =
    level_by level other (same_number (level_number level) (level_number other) (level_small level) (level_small other)
    (sym (append-nil (decimal (level_number level))) ∙ same ∙ append-nil (decimal (level_number other))))

pub alike_heads : (e e' : HeadEdit) → IsHeadEditOfWidth e → IsHeadEditOfWidth e' → head_words e ≡ head_words e' → e ≡ e'
alike_heads e e' width width' same =
    let one = texts_of_width e width in
    let other = texts_of_width e' width' in
    let word = λ (k : ℕ). ap (λ t. 58 ∷ drop 5 (get_or t k [])) same in
    same_head_edit e.edtn e.updn e.uadt e.isdt e.aall e.comt e'
    (alike_text e.edtn e'.edtn one.edtn other.edtn (word 0)) (alike_text e.updn e'.updn one.updn other.updn (word 1))
    (alike_text e.uadt e'.uadt one.uadt other.uadt (word 2)) (alike_text e.isdt e'.isdt one.isdt other.isdt (word 3))
    (same_level e.aall e'.aall (ap (λ t. drop 5 (get_or t 4 [])) same)) (alike_text e.comt e'.comt one.comt other.comt (word 5))
