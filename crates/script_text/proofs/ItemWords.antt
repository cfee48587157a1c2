-- Words with a letter and the values that they stand for.
use Rattle.std.proofs.Common.{◌≡◌, ℕ, ◌<◌, Bool, cond, true, false, List, [], ◌∷◌, ◌++◌, length, map, get_or, drop, All, OnOk, Result, Ok, Err, refl, sym}
use Rattle.std.proofs.Common.{ap, ◌∙◌, arith, eqb, subst, append_assoc}
use Rattle.std.proofs.lemmas.Bool.{eq-eqb, eqb-true, eqb-false}
use Rattle.std.proofs.lemmas.List.{length-append, append-nil}
use Rattle.std.proofs.lemmas.List.Elements.{All-head, All-tail, All-nil, All-cons, All-append, filter-append}
use Rattle.s57_types.specs.Subfield.{holds}
use Rattle.text_spec.specs.Lines.{spaced_words}
use Rattle.script_text.specs.Cuts.{IsFrom}
use Rattle.script_text.specs.Items.{begins, with_letter, IsListOf, IsListTaken, AreWordsOf}
use Rattle.script_text.proofs.Words.{from_parts}

-- the last of values whose items are words
record IsLast {X : Type 0} (f : X → List ℕ) (Q : X → Type 0) (ys : List X) (zs : List (List ℕ)) (w : List ℕ) : Type 0 where
  front : List X
  last : X
  is : ys ≡ front ++ last ∷ []
  front_is : zs ≡ map f front
  last_is : w ≡ f last
  width_front : All Q front
  width_last : Q last

last_by : {X : Type 0} (f : X → List ℕ) (Q : X → Type 0) (zs : List (List ℕ)) (w : List ℕ) (ys : List X) → All Q ys → zs ++ w ∷ [] ≡ map f ys
    → IsLast f Q ys zs w
last_by f Q zs w [] all same = absurd (omega (arith, ap length same, length-append zs (w ∷ [])))
last_by f Q [] w (y ∷ []) all same =
    record {
      front = [];
      last = y;
      is = refl;
      front_is = refl;
      last_is = ap (λ t. get_or t 0 []) same;
      width_front = All-nil Q;
      width_last =
          All-head Q y [] all;
    }
last_by f Q [] w (y ∷ y' ∷ ys) all same = absurd (omega (arith, ap length same))
last_by f Q (z ∷ zs) w (y ∷ ys) all same =
    let tail = last_by f Q zs w ys (All-tail Q y ys all) (ap (drop 1) same) in
    record {
      front = y ∷ tail.front;
      last = tail.last;
      is = ap (λ t. y ∷ t) tail.is;
      front_is = ap (λ x. x ∷ zs) (ap (λ t. get_or t 0 []) same) ∙ ap (λ t. f y ∷ t) tail.front_is;
      last_is = tail.last_is;
      width_front = All-cons Q y tail.front (All-head Q y ys all) tail.width_front;
      width_last = tail.width_last;
    }

one_word : (letter : ℕ) (word : List ℕ) (t : Bool) → begins letter word ≡ t → with_letter letter (word ∷ []) ≡ cond t (word ∷ []) []
one_word letter word t is = ap (λ x. cond x (word ∷ []) []) is

-- a word more with the letter, and one without
pub grow : {X : Type 0} (letter : ℕ) (item : X → List ℕ) (Q : X → Type 0) (word : List ℕ) (earlier values : List X) (value : X)
    → begins letter word ≡ true → Q value → ((y : X) → Q y → word ≡ item y → value ≡ y) → values ≡ earlier ++ value ∷ []
    → IsListTaken letter item Q word earlier values
grow letter item Q word earlier values value is fits found values_are = λ words old. record {
  width = subst (All Q) (sym values_are) (All-append Q earlier (value ∷ []) old.width (All-cons Q value [] fits (All-nil Q)));
  found = λ others all same.
      let more = sym (ap (λ t. with_letter letter words ++ t) (one_word letter word true is)) ∙ sym (filter-append (begins letter) words (word ∷ [])) ∙ same in
      let last = last_by item Q (with_letter letter words) word others all more in
      values_are ∙ ap (λ t. t ++ value ∷ []) (old.found last.front last.width_front last.front_is)
      ∙ ap (λ x. last.front ++ x ∷ []) (found last.last last.width_last last.last_is) ∙ sym last.is;
}

-- a word that is a letter and the parts of a value
pub grown : {X R : Type 0} (result : Result Unit R) (letter : ℕ) (item : X → List ℕ) (Q : X → Type 0) (word parts : List ℕ)
    (earlier values : List X) (value : X)
    → word ≡ letter ∷ parts → Q value → ((y : X) → Q y → letter ∷ parts ≡ item y → value ≡ y) → OnOk result (values ≡ earlier ++ value ∷ [])
    → OnOk result (IsListTaken letter item Q word earlier values)
grown (Ok _) letter item Q word parts earlier values value word_is fits found values_are =
    grow letter item Q word earlier values value (ap (begins letter) word_is ∙ eq-eqb letter letter refl) fits
    (λ y width spelled. found y width (sym word_is ∙ spelled)) values_are
grown (Err _) letter item Q word parts earlier values value word_is fits found values_are = tt

pub stay : {X : Type 0} (letter : ℕ) (item : X → List ℕ) (Q : X → Type 0) (word : List ℕ) (earlier values : List X)
    → begins letter word ≡ false → values ≡ earlier → IsListTaken letter item Q word earlier values
stay letter item Q word earlier values other values_are = λ words old. record {
  width = subst (All Q) (sym values_are) old.width;
  found = λ others all same. values_are ∙ old.found others all
      (sym (append-nil (with_letter letter words)) ∙ sym (ap (λ t. with_letter letter words ++ t) (one_word letter word false other))
      ∙ sym (filter-append (begins letter) words (word ∷ [])) ∙ same);
}

no_values : {X : Type 0} (item : X → List ℕ) (others : List X) → [] ≡ map item others → [] ≡ others
no_values item [] same = refl
no_values item (x ∷ others) same = absurd (omega (arith, ap length same))

pub none : {X : Type 0} (letter : ℕ) (item : X → List ℕ) (Q : X → Type 0) (values : List X) → values ≡ [] → IsListOf letter item Q [] values
none letter item Q values values_are = record {
  width = subst (All Q) (sym values_are) (All-nil Q);
  found = λ others all same. values_are ∙ no_values item others same;
}

-- the words up to the rest of a text
abbrev pub AreFree : List (List ℕ) → Type 0
AreFree = All (λ word. holds 32 word ≡ false)

pub record IsLeft (others words : List (List ℕ)) (rest : List ℕ) : Type 0 where
  pub more : List (List ℕ)
  pub free : AreFree more
  pub others_are : others ≡ words ++ more
  pub rest_is : rest ≡ spaced_words more

abbrev pub IsCutTo : List ℕ → List ℕ → List (List ℕ) → Type 0
IsCutTo text rest words = (others : List (List ℕ)) → AreFree others → text ≡ spaced_words others → IsLeft others words rest

pub cut_none : (text : List ℕ) → IsCutTo text text []
cut_none text = λ others free spelled. record { more = others; free = free; others_are = refl; rest_is = spelled }

abbrev pub IsNextWord : List ℕ → List ℕ → List ℕ → Type 0
IsNextWord text word behind = (lead : ℕ) (part rest : List ℕ) → holds 32 part ≡ false → IsFrom 32 rest → text ≡ lead ∷ (part ++ rest)
    → (word ≡ part) × (behind ≡ rest)

left_by : (others words : List (List ℕ)) (rest word behind : List ℕ) → 0 < length rest → IsNextWord rest word behind
    → (more : List (List ℕ)) → AreFree more → others ≡ words ++ more → rest ≡ spaced_words more → IsLeft others (words ++ word ∷ []) behind
left_by others words rest word behind some next [] free others_are rest_is = absurd (omega (arith, ap length rest_is))
left_by others words rest word behind some next (w ∷ more) free others_are rest_is =
    let now = next 32 w (spaced_words more) (All-head (λ x. holds 32 x ≡ false) w more free) (from_parts 32 more) rest_is in
    record {
      more = more;
      free = All-tail (λ x. holds 32 x ≡ false) w more free;
      others_are = others_are ∙ sym (append_assoc words (w ∷ []) more) ∙ ap (λ x. (words ++ x ∷ []) ++ more) (sym now.0);
      rest_is = now.1;
    }

cut_step : (text rest word behind : List ℕ) (words : List (List ℕ)) → IsCutTo text rest words → 0 < length rest → IsNextWord rest word behind
    → IsCutTo text behind (words ++ word ∷ [])
cut_step text rest word behind words cut some next = λ others free spelled.
    let left = cut others free spelled in
    left_by others words rest word behind some next left.more left.free left.others_are left.rest_is

-- the same by the test for an empty rest
pub cut_step_if : (text rest word behind : List ℕ) (words : List (List ℕ)) → IsCutTo text rest words → eqb (length rest) 0 ≡ false
    → IsNextWord rest word behind → IsCutTo text behind (words ++ word ∷ [])
cut_step_if text rest word behind words cut test next =
    let not_none = eqb-false (length rest) 0 test in
    let some : 0 < length rest = omega (arith, not_none) in
    cut_step text rest word behind words cut some next

cut_end_by : (others words : List (List ℕ)) (rest : List ℕ) → length rest ≡ 0 → (more : List (List ℕ)) → others ≡ words ++ more
    → rest ≡ spaced_words more → others ≡ words
cut_end_by others words rest none [] others_are rest_is = others_are ∙ append-nil words
cut_end_by others words rest none (w ∷ more) others_are rest_is = absurd (omega (arith, ap length rest_is))

cut_end : (text rest : List ℕ) (words : List (List ℕ)) → IsCutTo text rest words → length rest ≡ 0 → AreWordsOf text words
cut_end text rest words cut none = λ others free spelled.
    let left = cut others free spelled in
    cut_end_by others words rest none left.more left.others_are left.rest_is

pub cut_end_if : (text rest : List ℕ) (words : List (List ℕ)) → IsCutTo text rest words → eqb (length rest) 0 ≡ true → AreWordsOf text words
cut_end_if text rest words cut test = cut_end text rest words cut (eqb-true (length rest) 0 test)

-- the words with a letter among the items of four lists
pub each_begins : {X : Type 0} (letter : ℕ) (item : X → List ℕ) → ((x : X) → begins letter (item x) ≡ true) → (xs : List X)
    → with_letter letter (map item xs) ≡ map item xs
each_begins letter item is [] = refl
each_begins letter item is (x ∷ xs) = ap (λ t. cond t (item x ∷ with_letter letter (map item xs)) (with_letter letter (map item xs))) (is x)
    ∙ ap (λ t. item x ∷ t) (each_begins letter item is xs)

pub none_begins : {X : Type 0} (letter : ℕ) (item : X → List ℕ) → ((x : X) → begins letter (item x) ≡ false) → (xs : List X)
    → with_letter letter (map item xs) ≡ []
none_begins letter item other [] = refl
none_begins letter item other (x ∷ xs) = ap (λ t. cond t (item x ∷ with_letter letter (map item xs)) (with_letter letter (map item xs)))
    (other x) ∙ none_begins letter item other xs

four_parts : (letter : ℕ) (a b c d : List (List ℕ)) → with_letter letter (a ++ b ++ c ++ d) ≡ with_letter letter a ++ with_letter letter b
    ++ with_letter letter c ++ with_letter letter d
four_parts letter a b c d =
    filter-append (begins letter) (a ++ b ++ c) d ∙ ap (λ t. t ++ with_letter letter d) (filter-append (begins letter) (a ++ b) c)
    ∙ ap (λ t. (t ++ with_letter letter c) ++ with_letter letter d) (filter-append (begins letter) a b)

pub four : (letter : ℕ) (a b c d a' b' c' d' : List (List ℕ)) → with_letter letter a ≡ a' → with_letter letter b ≡ b' → with_letter letter c ≡ c'
    → with_letter letter d ≡ d'
    → with_letter letter (a ++ b ++ c ++ d) ≡ a' ++ b' ++ c' ++ d'
four letter a b c d a' b' c' d' first second third fourth = four_parts letter a b c d
    ∙ ap (λ t. t ++ with_letter letter b ++ with_letter letter c ++ with_letter letter d) first
    ∙ ap (λ t. a' ++ t ++ with_letter letter c ++ with_letter letter d) second
    ∙ ap (λ t. a' ++ b' ++ t ++ with_letter letter d) third ∙ ap (λ t. a' ++ b' ++ c' ++ t) fourth
