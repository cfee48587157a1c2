-- An order from its parts.
use Rattle.std.proofs.Common.{◌≡◌, ◌+◌, ◌&&◌, ℕ, Bool, true, false, List, Some, None, Ok, Err, length, drop, take, filter_map, refl, sym, ◌∙◌, ap, codes}
use Rattle.std.proofs.Common.{Bor, if◌then◌else◌, map}
use Rattle.std.specs.Prelude.{nat_eq}
use Rattle.std.specs.Cmp.Lexicographic.{pointwise}
use Rattle.std.proofs.lemmas.List.{length-map}
use Rattle.text_spec.specs.OrderLine.{order_of, order_items, first_bad_item, session_of, are_all_used, ends_well}
use Rattle.order_text.specs.Counts.{AreTaken, IsItemRefusal, IsOrderRefusal}
use Rattle.order_text.specs.declared.order.OrderRefusal.{OrderRefusal}
use Rattle.order_text.specs.declared.order.OrderRefusal.TheVariants.{BadPlace, NoMemory}

abbrev pub begins : List ℕ → Bool
begins text = pointwise nat_eq (codes "order") (take 5 text)

pub order_of-none : (quotas text : List ℕ) → begins text ≡ false → order_of quotas text ≡ Err 0
unfolding order_of
order_of-none quotas text not = rw not refl

order_of-bad : (quotas text : List ℕ) (place : ℕ) → begins text ≡ true → first_bad_item quotas (order_items (drop 5 text)) ≡ Some place
    → order_of quotas text ≡ Err place
unfolding order_of
order_of-bad quotas text place so bad = rw (so, bad) refl

-- a refusal of the items is one of the text
pub order_of-refused : (quotas text : List ℕ) (words : List (List ℕ)) (refusal : OrderRefusal) → begins text ≡ true
    → words ≡ order_items (drop 5 text) → IsItemRefusal quotas words refusal → IsOrderRefusal quotas text refusal
order_of-refused quotas text words (BadPlace place) so are bad = order_of-bad quotas text place so (ap (first_bad_item quotas) (sym are) ∙ bad)
order_of-refused quotas text words NoMemory so are none = none

-- an order that ends where it should
pub order_of-ended : (quotas text : List ℕ) (words : List (List ℕ)) (order : List ℕ) → begins text ≡ true → words ≡ order_items (drop 5 text)
    → first_bad_item quotas words ≡ None
    → order ≡ filter_map (session_of quotas) words → (are_all_used quotas order && ends_well (drop 5 text) (length words)) ≡ true
    → order_of quotas text ≡ Ok order
unfolding order_of
order_of-ended quotas text words order so are none named ended = rw so (rw (sym are) (rw none (rw (sym named) (rw ended refl))))

-- and one that doesn't
pub order_of-unended : (quotas text : List ℕ) (words : List (List ℕ)) (order : List ℕ) → begins text ≡ true → words ≡ order_items (drop 5 text)
    → first_bad_item quotas words ≡ None
    → order ≡ filter_map (session_of quotas) words → (are_all_used quotas order && ends_well (drop 5 text) (length words)) ≡ false
    → order_of quotas text ≡ Err (length words + 1)
unfolding order_of
order_of-unended quotas text words order so are none named ended = rw so (rw (sym are) (rw none (rw (sym named) (rw ended refl))))

-- an order whose items were taken
pub ended_by : (quotas text behind order used : List ℕ) (words : List (List ℕ)) (count : ℕ) (b : Bool) → begins text ≡ true
    → behind ≡ drop 5 text → words ≡ order_items behind
    → AreTaken quotas words order used → count ≡ length words → b ≡ (are_all_used quotas order && ends_well behind count)
    → order_of quotas text ≡ (if b then Ok order else Err (count + 1))
ended_by quotas text behind order used words count true so is are taken counted answer =
    order_of-ended quotas text words order so (are ∙ ap order_items is) taken.none_bad taken.named
    (ap (λ n. are_all_used quotas order && ends_well (drop 5 text) n) (sym counted) ∙ ap (λ t. are_all_used quotas order && ends_well t count)
    (sym is) ∙ sym answer)
ended_by quotas text behind order used words count false so is are taken counted answer =
    order_of-unended quotas text words order so (are ∙ ap order_items is) taken.none_bad taken.named
    (ap (λ n. are_all_used quotas order && ends_well (drop 5 text) n) (sym counted) ∙ ap (λ t. are_all_used quotas order && ends_well t count)
    (sym is) ∙ sym answer)
    ∙ ap (λ n. Err (n + 1)) (sym counted)

-- the same of items that are borrowed
pub ended_at : (quotas text behind order used : List ℕ) (items : List (Bor (List ℕ))) (count : ℕ) (b : Bool) → begins text ≡ true
    → behind ≡ drop 5 text → map (λ (item : Bor (List ℕ)). item.now) items ≡ order_items behind
    → AreTaken quotas (map (λ (item : Bor (List ℕ)). item.now) items) order used → count ≡ length items
    → b ≡ (are_all_used quotas order && ends_well behind count) → order_of quotas text ≡ (if b then Ok order else Err (count + 1))
ended_at quotas text behind order used items count b so is are taken counted answer =
    ended_by quotas text behind order used (map (λ (item : Bor (List ℕ)). item.now) items) count b so is are taken
    (counted ∙ sym (length-map items (λ (item : Bor (List ℕ)). item.now))) answer
