-- The form of the words of a session over a journal.
use Rattle.std.proofs.Common.{◌≡◌, ℕ, ◌<◌, ◌≤◌, Bool, true, false, List, [], ◌∷◌, Option, None, Some, String, Global, length, map, get_or, codes, cond}
use Rattle.std.proofs.Common.{refl, sym, ap, ◌∙◌, string_bytes, arith}
use Rattle.call_files.specs.Words.{is_word}
use Rattle.keep_run.specs.Words.{KeepForm, form_of, keep_form}

pub fewer : (words : List (String Global)) → length words < 5 → form_of (map string_bytes words) ≡ None
fewer [] few = refl
fewer (a ∷ []) few = refl
fewer (a ∷ b ∷ []) few = refl
fewer (a ∷ b ∷ d ∷ []) few = refl
fewer (a ∷ b ∷ d ∷ e ∷ []) few = refl
fewer (a ∷ b ∷ d ∷ e ∷ f ∷ rest) few = absurd (omega (arith, few))

pub more : (words : List (String Global)) → 6 ≤ length words → form_of (map string_bytes words) ≡ None
more [] many = refl
more (a ∷ []) many = refl
more (a ∷ b ∷ []) many = refl
more (a ∷ b ∷ d ∷ []) many = refl
more (a ∷ b ∷ d ∷ e ∷ []) many = refl
more (a ∷ b ∷ d ∷ e ∷ f ∷ []) many = absurd (omega (arith, many))
more (a ∷ b ∷ d ∷ e ∷ f ∷ k ∷ rest) many = refl

five : (words : List (String Global)) (first cell out script : String Global) → length words ≡ 5 → first ≡ get_or words 0 first
    → cell ≡ get_or words 1 cell → out ≡ get_or words 2 out → script ≡ get_or words 4 script
    → form_of (map string_bytes words) ≡ cond (is_word (codes "keep") (string_bytes first))
    (Some (keep_form (string_bytes cell) (string_bytes out) (string_bytes script))) None
five [] first cell out script count is_first is_cell is_out is_script = absurd (omega arith)
five (a ∷ []) first cell out script count is_first is_cell is_out is_script = absurd (omega arith)
five (a ∷ b ∷ []) first cell out script count is_first is_cell is_out is_script = absurd (omega arith)
five (a ∷ b ∷ d ∷ []) first cell out script count is_first is_cell is_out is_script = absurd (omega arith)
five (a ∷ b ∷ d ∷ e ∷ []) first cell out script count is_first is_cell is_out is_script = absurd (omega arith)
five (a ∷ b ∷ d ∷ e ∷ f ∷ []) first cell out script count is_first is_cell is_out is_script = λ i.
    cond (is_word (codes "keep") (string_bytes (sym is_first i)))
    (Some (keep_form (string_bytes (sym is_cell i)) (string_bytes (sym is_out i)) (string_bytes (sym is_script i)))) None
five (a ∷ b ∷ d ∷ e ∷ f ∷ k ∷ rest) first cell out script count is_first is_cell is_out is_script = absurd (omega arith)

module _ (words : List (String Global)) (first cell out script : String Global) (count : length words ≡ 5) (is_first : first ≡ get_or words 0 first)
    (is_cell : cell ≡ get_or words 1 cell) (is_out : out ≡ get_or words 2 out) (is_script : script ≡ get_or words 4 script) where
  abbrev choice : Bool → Option KeepForm
  choice b = cond b (Some (keep_form (string_bytes cell) (string_bytes out) (string_bytes script))) None

  pub other_word : is_word (codes "keep") (string_bytes first) ≡ false → form_of (map string_bytes words) ≡ None
  other_word differs = five words first cell out script count is_first is_cell is_out is_script ∙ ap choice differs

  pub keep_words : is_word (codes "keep") (string_bytes first) ≡ true
      → form_of (map string_bytes words) ≡ Some (keep_form (string_bytes cell) (string_bytes out) (string_bytes script))
  keep_words same = five words first cell out script count is_first is_cell is_out is_script ∙ ap choice same

  -- the same of texts that are those of the words, where the test was of the first one's
  pub told_words : (text a b d : List ℕ) → text ≡ string_bytes first → true ≡ is_word (codes "keep") text → a ≡ string_bytes cell → b ≡ string_bytes out
      → d ≡ string_bytes script → form_of (map string_bytes words) ≡ Some (keep_form a b d)
  told_words text a b d is_text same is_a is_b is_d =
      keep_words (ap (is_word (codes "keep")) (sym is_text) ∙ sym same) ∙ (λ i. Some (keep_form (sym is_a i) (sym is_b i) (sym is_d i)))
