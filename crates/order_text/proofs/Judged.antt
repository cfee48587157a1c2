-- Items judged one after the other.
use Rattle.std.proofs.Common.{◌≡◌, ◌<◌, ◌≤◌, ◌+◌, ◌-◌, ◌==◌, ◌&&◌, ℕ, zero, suc, Bool, true, false, not, List, [], ◌∷◌, ◌++◌, Bor, map, option_to_list}
use Rattle.std.proofs.Common.{Option, Some, None, length, take, get_or, filter_map, count_by, arith, refl, sym, ◌∙◌, ap, cond, nat_le}
use Rattle.std.specs.List.{find, list_all, range_with_len, cons_option}
use Rattle.std.proofs.lemmas.List.{get_or-map, take_more, length-map}
use Rattle.std.proofs.lemmas.List.Elements.{filter_map-append}
use Rattle.text_spec.specs.OrderLine.{are_all_used, first_bad_item, is_bad_item, is_bad_session, session_of, quota_of}
use Rattle.order_text.specs.Counts.{AreCounts}
use Rattle.order_text.proofs.Ranges.{find-range_from, list_all-range_from}
use Rattle.std.specs.Prelude.{slice_index}
use Rattle.std.proofs.lemmas.Bool.Decides.{nat_tests}

-- an item behind those whose sessions were taken
pub bad_at : (quotas : List ℕ) (words : List (List ℕ)) (order : List ℕ) (k : ℕ) → order ≡ filter_map (session_of quotas) (take k words)
    → is_bad_item quotas words (k + 1) ≡ is_bad_session quotas order (session_of quotas (get_or words k []))
bad_at quotas words order k taken = let e : k + 1 - 1 ≡ k = omega arith in rw (taken, e) refl

abbrev pub rest_bad : List ℕ → List (List ℕ) → ℕ → Option ℕ
rest_bad quotas words k = find (is_bad_item quotas words) (range_with_len (k + 1) (length words + 1 - (k + 1)))

pub rest_bad-start : (quotas : List ℕ) (words : List (List ℕ)) → rest_bad quotas words 0 ≡ first_bad_item quotas words
rest_bad-start quotas words = let e : length words + 1 - (0 + 1) ≡ length words = omega arith in rw e refl

pub rest_bad-here : (quotas : List ℕ) (words : List (List ℕ)) (k : ℕ) → k < length words → is_bad_item quotas words (k + 1) ≡ true
    → rest_bad quotas words k ≡ Some (k + 1)
rest_bad-here quotas words k below bad =
    find-range_from (is_bad_item quotas words) (k + 1) (length words + 1) (omega (arith, below))
    ∙ ap (λ b. cond b (Some (k + 1)) (find (is_bad_item quotas words) (range_with_len (k + 1 + 1) (length words + 1 - (k + 1 + 1))))) bad

pub rest_bad-next : (quotas : List ℕ) (words : List (List ℕ)) (k : ℕ) → k < length words → is_bad_item quotas words (k + 1) ≡ false
    → rest_bad quotas words k ≡ rest_bad quotas words (k + 1)
rest_bad-next quotas words k below good =
    find-range_from (is_bad_item quotas words) (k + 1) (length words + 1) (omega (arith, below))
    ∙ ap (λ b. cond b (Some (k + 1)) (find (is_bad_item quotas words) (range_with_len (k + 1 + 1) (length words + 1 - (k + 1 + 1))))) good

pub rest_bad-end : (quotas : List ℕ) (words : List (List ℕ)) (k : ℕ) → length words ≤ k → rest_bad quotas words k ≡ None
rest_bad-end quotas words k above = let e : length words + 1 - (k + 1) ≡ 0 = omega (arith, above) in rw e refl

-- whether an order has used all of a session's shared commands
abbrev pub has_used : List ℕ → List ℕ → ℕ → Bool
has_used quotas order i = nat_le (quota_of quotas i) (count_by (λ other. other == i) order)

-- the count of a session
count_of : (order used : List ℕ) (s : ℕ) → AreCounts order used → 1 ≤ s → s ≤ length used → slice_index used (s - 1) ≡ count_by (λ other. other == s) order
count_of order used s counts above within =
    let e : s - 1 + 1 ≡ s = omega (arith, above) in counts (s - 1) (omega (arith, above, within)) ∙ ap (λ n. count_by (λ other. other == n) order) e

pub bad_session : (quotas order used : List ℕ) (s : ℕ) → AreCounts order used → 1 ≤ s → s ≤ length used
    → slice_index quotas (s - 1) ≤ slice_index used (s - 1) → is_bad_session quotas order (Some s) ≡ true
bad_session quotas order used s counts above within spent = let e = count_of order used s counts above within in grind (arith, nat_tests)

pub good_session : (quotas order used : List ℕ) (s : ℕ) → AreCounts order used → 1 ≤ s → s ≤ length used
    → slice_index used (s - 1) < slice_index quotas (s - 1) → is_bad_session quotas order (Some s) ≡ false
good_session quotas order used s counts above within left = let e = count_of order used s counts above within in grind (arith, nat_tests)

pub has_used-not : (quotas order used : List ℕ) (k : ℕ) → AreCounts order used → k < length used → slice_index used k < slice_index quotas k
    → has_used quotas order (k + 1) ≡ false
has_used-not quotas order used k counts within left = let e : k + 1 - 1 ≡ k = omega arith in let count = counts k within in rw e (grind (arith, nat_tests))

pub has_used-so : (quotas order used : List ℕ) (k : ℕ) → AreCounts order used → k < length used → slice_index quotas k ≤ slice_index used k
    → has_used quotas order (k + 1) ≡ true
has_used-so quotas order used k counts within spent = let e : k + 1 - 1 ≡ k = omega arith in let count = counts k within in rw e (grind (arith, nat_tests))

abbrev pub rest_used : List ℕ → List ℕ → ℕ → Bool
rest_used quotas order k = list_all (has_used quotas order) (range_with_len (k + 1) (length quotas + 1 - (k + 1)))

pub rest_used-here : (quotas order : List ℕ) (k : ℕ) → k < length quotas → has_used quotas order (k + 1) ≡ false → rest_used quotas order k ≡ false
rest_used-here quotas order k below not =
    list_all-range_from (has_used quotas order) (k + 1) (length quotas + 1) (omega (arith, below))
    ∙ ap (λ b. b && list_all (has_used quotas order) (range_with_len (k + 1 + 1) (length quotas + 1 - (k + 1 + 1)))) not

pub rest_used-next : (quotas order : List ℕ) (k : ℕ) → k < length quotas → has_used quotas order (k + 1) ≡ true
    → rest_used quotas order k ≡ rest_used quotas order (k + 1)
rest_used-next quotas order k below so =
    list_all-range_from (has_used quotas order) (k + 1) (length quotas + 1) (omega (arith, below))
    ∙ ap (λ b. b && list_all (has_used quotas order) (range_with_len (k + 1 + 1) (length quotas + 1 - (k + 1 + 1)))) so

pub rest_used-start : (quotas order : List ℕ) → rest_used quotas order 0 ≡ are_all_used quotas order
rest_used-start quotas order = let e : length quotas + 1 - (0 + 1) ≡ length quotas = omega arith in rw e refl

pub rest_used-end : (quotas order : List ℕ) (k : ℕ) → length quotas ≤ k → rest_used quotas order k ≡ true
rest_used-end quotas order k above = let e : length quotas + 1 - (k + 1) ≡ 0 = omega (arith, above) in rw e refl

-- an item that isn't taken is the first bad one
pub refused_here : (quotas : List ℕ) (items : List (Bor (List ℕ))) (order : List ℕ) (k : ℕ) (d : Bor (List ℕ)) (good : Bool) → k < length items
    → order ≡ filter_map (session_of quotas) (take k (map (λ item. item.now) items))
    → rest_bad quotas (map (λ item. item.now) items) k ≡ first_bad_item quotas (map (λ item. item.now) items)
    → not good ≡ is_bad_session quotas order (session_of quotas (get_or items k d).now) → good ≡ false
    → first_bad_item quotas (map (λ item. item.now) items) ≡ Some (k + 1)
refused_here quotas items order k d good below taken rest answer is =
    let words : List (List ℕ) = map (λ item. item.now) items in
    let word : get_or words k [] ≡ (get_or items k d).now = get_or-map (λ (item : Bor (List ℕ)). item.now) items k d [] below in
    let bad : is_bad_item quotas words (k + 1) ≡ true = bad_at quotas words order k taken
    ∙ ap (λ w. is_bad_session quotas order (session_of quotas w)) word ∙ sym answer ∙ ap not is in
    sym rest ∙ rest_bad-here quotas words k (omega (arith, below, length-map items (λ (item : Bor (List ℕ)). item.now))) bad

-- an item that is taken isn't bad
pub passed_here : (quotas : List ℕ) (items : List (Bor (List ℕ))) (order : List ℕ) (k : ℕ) (d : Bor (List ℕ)) (good : Bool) → k < length items
    → order ≡ filter_map (session_of quotas) (take k (map (λ item. item.now) items))
    → rest_bad quotas (map (λ item. item.now) items) k ≡ first_bad_item quotas (map (λ item. item.now) items)
    → not good ≡ is_bad_session quotas order (session_of quotas (get_or items k d).now) → good ≡ true
    → rest_bad quotas (map (λ item. item.now) items) (k + 1) ≡ first_bad_item quotas (map (λ item. item.now) items)
passed_here quotas items order k d good below taken rest answer is =
    let words : List (List ℕ) = map (λ item. item.now) items in
    let word : get_or words k [] ≡ (get_or items k d).now = get_or-map (λ (item : Bor (List ℕ)). item.now) items k d [] below in
    let fine : is_bad_item quotas words (k + 1) ≡ false = bad_at quotas words order k taken
    ∙ ap (λ w. is_bad_session quotas order (session_of quotas w)) word ∙ sym answer ∙ ap not is in
    sym (rest_bad-next quotas words k (omega (arith, below, length-map items (λ (item : Bor (List ℕ)). item.now))) fine) ∙ rest

one_named : (o : Option ℕ) → cons_option o [] ≡ option_to_list o
one_named None = refl
one_named (Some x) = refl

pub named_here : (quotas : List ℕ) (items : List (Bor (List ℕ))) (order longer : List ℕ) (k : ℕ) (d : Bor (List ℕ)) → k < length items
    → order ≡ filter_map (session_of quotas) (take k (map (λ item. item.now) items))
    → longer ≡ order ++ option_to_list (session_of quotas (get_or items k d).now)
    → longer ≡ filter_map (session_of quotas) (take (k + 1) (map (λ item. item.now) items))
named_here quotas items order longer k d below taken longer_is =
    let words : List (List ℕ) = map (λ item. item.now) items in
    let word : get_or words k [] ≡ (get_or items k d).now = get_or-map (λ (item : Bor (List ℕ)). item.now) items k d [] below in
    let more : take (k + 1) words ≡ take k words ++ get_or words k [] ∷ [] =
    take_more words k [] (omega (arith, below, length-map items (λ (item : Bor (List ℕ)). item.now))) in
    longer_is ∙ ap (λ os. os ++ option_to_list (session_of quotas (get_or items k d).now)) taken
    ∙ ap (λ w. filter_map (session_of quotas) (take k words) ++ option_to_list (session_of quotas w)) (sym word)
    ∙ ap (λ os. filter_map (session_of quotas) (take k words) ++ os) (sym (one_named (session_of quotas (get_or words k []))))
    ∙ sym (filter_map-append (session_of quotas) (take k words) (get_or words k [] ∷ []))
    ∙ ap (filter_map (session_of quotas)) (sym more)

get_or-any : (xs : List ℕ) (k d e : ℕ) → k < length xs → get_or xs k d ≡ get_or xs k e
get_or-any [] k d e below = absurd (omega (arith, below))
get_or-any (x ∷ xs) zero d e below = refl
get_or-any (x ∷ xs) (suc k) d e below = get_or-any xs k d e (omega (arith, below))

-- an item of a list, whatever stands in for one that is missing
pub at_default : (xs : List ℕ) (k d : ℕ) → k < length xs → d ≡ get_or xs k d → d ≡ slice_index xs k
at_default xs k d below is = is ∙ get_or-any xs k d 0 below
