-- The line of an order is read as that order.
use Rattle.std.proofs.Common.{◌≡◌, ◌≢◌, ◌<◌, ◌≤◌, ◌+◌, ◌^◌, ◌==◌, ◌&&◌, ℕ, zero, suc, Bool, true, false, List, [], ◌∷◌, ◌++◌, Some, Result, Ok, length, map}
use Rattle.std.proofs.Common.{take, drop, get_or, filter_map, count_by, arith, refl, sym, ◌∙◌, ap, nat_le, cond, rules, if◌then◌else◌}
use mathlib.Core.List.{IsPrefix}
use Rattle.std.specs.Prelude.{codes, nat_eq}
use Rattle.std.specs.Cmp.Lexicographic.{pointwise}
use Rattle.std.specs.Fmt.{decimal}
use Rattle.std.specs.List.{list_all, position_or_len, range_with_len}
use Rattle.std.specs.Str.{all_ascii_digits}
use Rattle.std.specs.Str.Parse.{digits_value}
use Rattle.std.proofs.lemmas.Bool.Decides.{nat_tests}
use Rattle.std.proofs.lemmas.Fmt.{digits_decimal}
use Rattle.std.proofs.lemmas.List.{get_or-map, length-map, length-append, append_assoc, append-nil, take-append-drop}
use Rattle.std.proofs.Math.Seq.{take-append_seam, drop-append_seam}
use Rattle.std.proofs.lemmas.List.Sums.{count_by_more_yes, sum_by-append}
use Rattle.std.proofs.lemmas.Str.Parse.{IsNumeralModel, numerals_by_value, not_in_digits}
use Rattle.text_spec.specs.Lines.{spaced_words}
use Rattle.text_spec.specs.OrderLine.{IsOrder, order_line, order_of, order_items, items_among as items_of_pieces, pieces, before_feed, from_feed, session_of}
use Rattle.text_spec.specs.OrderLine.{is_bad_item, is_bad_session, are_all_used, ends_well, quota_of}
use Rattle.order_text.proofs.Judged.{bad_at, has_used}
use Rattle.order_text.proofs.Ranges.{find-none}
use Rattle.order_text.proofs.SessionNames.{session_of-inside}
use Rattle.order_text.proofs.Whole.{order_of-ended}

-- a byte stands nowhere in a text
abbrev IsFree : ℕ → List ℕ → Type 0
IsFree c w = (i : ℕ) → i < length w → get_or w i 0 ≢ c

own : IsNumeralModel (λ ds. all_ascii_digits ds ≡ true) (digits_value 10)
own = numerals_by_value _ (search rules)

space_free : (n : ℕ) → n < 2 ^ 32 → IsFree 32 (decimal n)
space_free n fits = not_in_digits own (decimal n) 32 (digits_decimal own n (omega (arith, fits))) (λ range. omega (arith, range.0))

feed_free : (n : ℕ) → n < 2 ^ 32 → IsFree 10 (decimal n)
feed_free n fits = not_in_digits own (decimal n) 10 (digits_decimal own n (omega (arith, fits))) (λ range. omega (arith, range.0))

free_tail : (c b : ℕ) (w : List ℕ) → IsFree c (b ∷ w) → IsFree c w
free_tail c b w free i below = free (suc i) (omega (arith, below))

not_same : (b c : ℕ) → b ≢ c → (b == c) ≡ false
not_same b c differs = grind (arith, nat_tests)

pieces_word : (w rest : List ℕ) → IsFree 32 w → pieces (w ++ 32 ∷ rest) ≡ w ∷ pieces rest
pieces_word [] rest free = refl
pieces_word (b ∷ w) rest free = rw (not_same b 32 (free 0 (omega arith))) (rw (pieces_word w rest (free_tail 32 b w free)) refl)

pieces_last : (w : List ℕ) → IsFree 32 w → pieces w ≡ w ∷ []
pieces_last [] free = refl
pieces_last (b ∷ w) free = rw (not_same b 32 (free 0 (omega arith))) (rw (pieces_last w (free_tail 32 b w free)) refl)

-- each number of an order fits 32 bits
abbrev AreSmall : List ℕ → Type 0
AreSmall order = (k : ℕ) → k < length order → get_or order k 0 < 2 ^ 32

small_tail : (i : ℕ) (order : List ℕ) → AreSmall (i ∷ order) → AreSmall order
small_tail i order small k below = small (suc k) (omega (arith, below))

abbrev words_of : List ℕ → List (List ℕ)
words_of = map decimal

pieces_words : (i : ℕ) (order : List ℕ) → AreSmall (i ∷ order) → pieces (decimal i ++ spaced_words (words_of order)) ≡ decimal i ∷ words_of order
pieces_words i [] small = ap pieces (append-nil (decimal i)) ∙ pieces_last (decimal i) (space_free i (small 0 (omega arith)))
pieces_words i (j ∷ order) small =
    pieces_word (decimal i) (decimal j ++ spaced_words (words_of order)) (space_free i (small 0 (omega arith)))
    ∙ ap (λ ps. decimal i ∷ ps) (pieces_words j order (small_tail i (j ∷ order) small))

abbrev feed : List ℕ → ℕ
feed = position_or_len (λ c. c == 10)

feed_behind : (w rest : List ℕ) → IsFree 10 w → feed (w ++ rest) ≡ length w + feed rest
feed_behind [] rest free = omega arith
feed_behind (b ∷ w) rest free =
    let inner = feed_behind w rest (free_tail 10 b w free) in
    rw (not_same b 10 (free 0 (omega arith))) (omega (arith, inner))

abbrev spoken : List ℕ → List ℕ
spoken order = spaced_words (words_of order)

feed_in_front : (order rest : List ℕ) → AreSmall order → feed (spoken order ++ 10 ∷ rest) ≡ length (spoken order)
feed_in_front [] rest small = refl
feed_in_front (i ∷ order) rest small =
    let inner = feed_in_front order rest (small_tail i order small) in
    let word = feed_behind (decimal i) (spoken order ++ 10 ∷ rest) (feed_free i (small 0 (omega arith))) in
    let apart : (decimal i ++ spoken order) ++ 10 ∷ rest ≡ decimal i ++ (spoken order ++ 10 ∷ rest) = append_assoc (decimal i) (spoken order) (10 ∷ rest) in
    let all : length (decimal i ++ spoken order) ≡ length (decimal i) + length (spoken order) = length-append (decimal i) (spoken order) in
    ap (λ t. 1 + feed t) apart ∙ omega (arith, inner, word, all)

feed_at_end : (order : List ℕ) → AreSmall order → feed (spoken order ++ 10 ∷ []) ≡ length (spoken order)
feed_at_end order small = feed_in_front order [] small

-- what follows `order` in the line
abbrev behind_of : List ℕ → List ℕ
behind_of order = spoken order ++ 10 ∷ []

before_line_end : (order : List ℕ) → AreSmall order → before_feed (behind_of order) ≡ spoken order
before_line_end order small = ap (λ n. take n (behind_of order)) (feed_at_end order small) ∙ take-append_seam (spoken order) (10 ∷ [])

from_line_end : (order : List ℕ) → AreSmall order → from_feed (behind_of order) ≡ 10 ∷ []
from_line_end order small = ap (λ n. drop n (behind_of order)) (feed_at_end order small) ∙ drop-append_seam (spoken order) (10 ∷ [])

items_spoken : (order : List ℕ) → AreSmall order → items_of_pieces (pieces (spoken order)) ≡ words_of order
items_spoken [] small = refl
items_spoken (i ∷ order) small = ap (λ ps. items_of_pieces ([] ∷ ps)) (pieces_words i order small)

items_of_line : (order : List ℕ) → AreSmall order → order_items (behind_of order) ≡ words_of order
items_of_line order small = ap (λ t. items_of_pieces (pieces t)) (before_line_end order small) ∙ items_spoken order small

-- each number of an order is a session's
abbrev AreSessions : List ℕ → List ℕ → Type 0
AreSessions quotas order = (k : ℕ) → k < length order → (1 ≤ get_or order k 0) × (get_or order k 0 ≤ length quotas)

session_tail : (quotas : List ℕ) (i : ℕ) (order : List ℕ) → AreSessions quotas (i ∷ order) → AreSessions quotas order
session_tail quotas i order are k below = are (suc k) (omega (arith, below))

sessions_taken : (quotas : List ℕ) → length quotas < 2 ^ 32 → (order : List ℕ) (k : ℕ) → AreSessions quotas order
    → filter_map (session_of quotas) (take k (words_of order)) ≡ take k order
sessions_taken quotas few [] zero are = refl
sessions_taken quotas few [] (suc k) are = refl
sessions_taken quotas few (i ∷ order) zero are = refl
sessions_taken quotas few (i ∷ order) (suc k) are =
    let first = are 0 (omega arith) in
    rw (session_of-inside quotas (decimal i) i few refl first.0 first.1) (rw (sessions_taken quotas few order k (session_tail quotas i order are)) refl)

sessions_named : (quotas : List ℕ) → length quotas < 2 ^ 32 → (order : List ℕ) → AreSessions quotas order
    → filter_map (session_of quotas) (words_of order) ≡ order
sessions_named quotas few [] are = refl
sessions_named quotas few (i ∷ order) are =
    let first = are 0 (omega arith) in
    rw (session_of-inside quotas (decimal i) i few refl first.0 first.1) (rw (sessions_named quotas few order (session_tail quotas i order are)) refl)

count_take : (p : ℕ → Bool) (xs : List ℕ) (n : ℕ) → count_by p (take n xs) ≤ count_by p xs
count_take p xs n =
    let whole : count_by p (take n xs ++ drop n xs) ≡ count_by p xs = ap (count_by p) (take-append-drop n xs) in
    let parts : count_by p (take n xs ++ drop n xs) ≡ count_by p (take n xs) + count_by p (drop n xs) =
    sum_by-append (λ x. cond (p x) 1 0) (take n xs) (drop n xs) in
    omega (arith, whole, parts)

same_self : (n : ℕ) → (n == n) ≡ true
same_self n = grind (arith, nat_tests)

-- a place of an order is not yet beyond its session's share
count_before : (order : List ℕ) (k : ℕ) → k < length order → count_by (λ other. other == get_or order k 0) (take k order) < count_by
    (λ other. other == get_or order k 0) order
count_before order k below =
    let s = get_or order k 0 in
    let one = count_by_more_yes (λ other. other == s) order k 0 below (same_self s) in
    let most = count_take (λ other. other == s) order (k + 1) in
    omega (arith, one, most)

good_place : (quotas order : List ℕ) → length quotas < 2 ^ 32 → IsOrder quotas order → AreSessions quotas order → (k : ℕ)
    → k < length (words_of order) → is_bad_item quotas (words_of order) (1 + k) ≡ false
good_place quotas order few is are k within =
    let below : k < length order = omega (arith, within, length-map order decimal) in
    let s = get_or order k 0 in
    let word : get_or (words_of order) k [] ≡ decimal s = get_or-map decimal order k 0 [] below in
    let named : session_of quotas (get_or (words_of order) k []) ≡ Some s =
    ap (session_of quotas) word ∙ session_of-inside quotas (decimal s) s few refl (are k below).0 (are k below).1 in
    let start : 1 + k ≡ k + 1 = omega arith in
    let share = is.each s (are k below).0 (are k below).1 in
    let left = count_before order k below in
    ap (is_bad_item quotas (words_of order)) start
    ∙ bad_at quotas (words_of order) (take k order) k (sym (sessions_taken quotas few order k are))
    ∙ ap (is_bad_session quotas (take k order)) named
    ∙ not_above (quota_of quotas s) (count_by (λ other. other == s) (take k order)) (omega (arith, share, left))
  where
    not_above : (a b : ℕ) → b < a → nat_le a b ≡ false
    not_above a b less = grind (arith, nat_tests)

above : (a b : ℕ) → b ≡ a → nat_le a b ≡ true
above a b same = grind (arith, nat_tests)

all_range : (f : ℕ → Bool) (a n : ℕ) → ((i : ℕ) → i < n → f (a + i) ≡ true) → list_all f (range_with_len a n) ≡ true
all_range f a zero all = refl
all_range f a (suc n) all =
    let start : a + 0 ≡ a = omega arith in
    let first : f a ≡ true = ap f (sym start) ∙ all 0 (omega arith) in
    rw first (all_range f (a + 1) n (λ i below. let e : a + 1 + i ≡ a + (i + 1) = omega arith in rw e (all (i + 1) (omega (arith, below)))))

all_used : (quotas order : List ℕ) → IsOrder quotas order → are_all_used quotas order ≡ true
all_used quotas order is =
    all_range (has_used quotas order) 1 (length quotas) (λ i below. above (quota_of quotas (1 + i)) (count_by (λ other. other == 1 + i) order)
    (is.each (1 + i) (omega arith) (omega (arith, below))))

line_ends : (order : List ℕ) → AreSmall order → ends_well (behind_of order) (length (words_of order)) ≡ true
line_ends [] small = refl
line_ends (i ∷ order) small =
    ap (λ b. pointwise nat_eq (10 ∷ []) (if b then behind_of (i ∷ order) else from_feed (behind_of (i ∷ order)))) (some_words (decimal i) (words_of order))
    ∙ ap (pointwise nat_eq (10 ∷ [])) (from_line_end (i ∷ order) small)
  where
    some_words : (w : List ℕ) (ws : List (List ℕ)) → (length (w ∷ ws) == 0) ≡ false
    some_words w ws = grind (arith, nat_tests)

pub order_of-line : (quotas order : List ℕ) → length quotas < 2 ^ 32 → IsOrder quotas order → order_of quotas (order_line order) ≡ Ok order
order_of-line quotas order few is =
    let are : AreSessions quotas order = λ k below. is.sessions k 0 below in
    let small : AreSmall order = λ k below. let within = (are k below).1 in omega (arith, within, few) in
    order_of-ended quotas (order_line order) (words_of order) order refl (sym (items_of_line order small))
    (find-none (is_bad_item quotas (words_of order)) 1 (length (words_of order)) (good_place quotas order few is are))
    (sym (sessions_named quotas few order are))
    (both (are_all_used quotas order) (ends_well (behind_of order) (length (words_of order))) (all_used quotas order is) (line_ends order small))
  where
    both : (a b : Bool) → a ≡ true → b ≡ true → (a && b) ≡ true
    both a b x y = rw (x, y) refl

ok_is : (x y : List ℕ) → ◌≡◌ {A = Result (List ℕ) ℕ} (Ok x) (Ok y) → x ≡ y
ok_is x y e = cc

-- no other order has the line
pub order_line-one : (quotas order other : List ℕ) → length quotas < 2 ^ 32 → IsOrder quotas order → IsOrder quotas other
    → order_line order ≡ order_line other → order ≡ other
order_line-one quotas order other few is so same = ok_is order other (sym (order_of-line quotas order few is) ∙ ap (order_of quotas) same
    ∙ order_of-line quotas other few so)

-- ---- a text that begins with the line
line_length : (order rest : List ℕ) → AreSmall order → feed (order_line order ++ rest) + 1 ≡ length (order_line order)
line_length order rest small =
    let apart : order_line order ++ rest ≡ codes "order" ++ (spoken order ++ 10 ∷ rest) =
    append_assoc (codes "order") (spoken order ++ 10 ∷ []) rest ∙ ap (λ t. codes "order" ++ t) (append_assoc (spoken order) (10 ∷ []) rest) in
    let word : feed (codes "order" ++ (spoken order ++ 10 ∷ rest)) ≡ 5 + feed (spoken order ++ 10 ∷ rest) = omega arith in
    let inner = feed_in_front order rest small in
    let whole = length-append (codes "order") (spoken order ++ 10 ∷ []) in
    let last = length-append (spoken order) (10 ∷ []) in
    let front = ap feed apart in
    omega (arith, front, word, inner, whole, last)

first_line : (order text : List ℕ) → AreSmall order → IsPrefix (order_line order) text → order_line order ≡ take (feed text + 1) text
first_line order text small begins =
    sym (take-append_seam (order_line order) begins.0)
    ∙ ap (λ n. take n (order_line order ++ begins.0)) (sym (line_length order begins.0 small))
    ∙ ap (λ t. take (feed t + 1) t) begins.1

-- no other order's line begins it
pub order_line-first : (quotas order other text : List ℕ) → length quotas < 2 ^ 32 → IsOrder quotas order → IsOrder quotas other
    → IsPrefix (order_line order) text → IsPrefix (order_line other) text → order ≡ other
order_line-first quotas order other text few is so first second =
    let small : (o : List ℕ) → IsOrder quotas o → AreSmall o = λ o are k below. let within = (are.sessions k 0 below).1 in omega (arith, within, few) in
    order_line-one quotas order other few is so (first_line order text (small order is) first ∙ sym (first_line other text (small other so) second))
