-- What a text is read as is an order, and the text is its line.
use Rattle.std.proofs.Common.{◌≡◌, ◌<◌, ◌≤◌, ◌+◌, ◌-◌, ◌==◌, ◌&&◌, ℕ, zero, suc, Bool, true, false, List, [], ◌∷◌, ◌++◌, Option, Some, None, Result, Ok, Err}
use Rattle.std.proofs.Common.{length, map, take, drop, get_or, filter_map, count_by, arith, refl, sym, ◌∙◌, ap, subst, zero-add, nat_le, cond, codes}
use Rattle.std.proofs.Common.{if◌then◌else◌}
use Rattle.std.specs.Prelude.{nat_eq, All}
use Rattle.std.specs.Cmp.Lexicographic.{pointwise, bytes_decides}
use Rattle.std.specs.Fmt.{decimal}
use Rattle.std.specs.List.{position_or_len}
use Rattle.std.specs.Option.{option_map_or}
use Rattle.std.proofs.lemmas.Bool.{and_parts}
use Rattle.std.proofs.lemmas.Bool.Decides.{nat_tests}
use Rattle.std.proofs.lemmas.List.{map-append, take_more, take-append-drop}
use Rattle.std.proofs.lemmas.List.Elements.{All-append, All-cons, filter_map-append}
use Rattle.std.proofs.lemmas.List.Sums.{sum_by-append}
use Rattle.text_spec.specs.Lines.{spaced_words}
use Rattle.text_spec.specs.OrderLine.{IsOrder, are_all_used, before_feed, ended_order, ends_well, first_bad_item, from_feed, is_bad_item, is_bad_session}
use Rattle.text_spec.specs.OrderLine.{items_among, order_among, order_items, order_line, order_of, pieces, quota_of, session_of, with_byte}
use Rattle.order_text.proofs.Judged.{bad_at, has_used}
use Rattle.order_text.proofs.Ranges.{all-each, find-some, none-each}
use Rattle.order_text.proofs.SessionNames.{spells}
use Rattle.order_text.proofs.Whole.{begins}

with_step : (c : ℕ) (text : List ℕ) (ps : List (List ℕ)) → spaced_words ps ≡ 32 ∷ text → spaced_words (with_byte c ps) ≡ 32 ∷ c ∷ text
with_step c text [] e = absurd (cc)
with_step c text (p ∷ ps) e = ap (λ t. 32 ∷ c ∷ drop 1 t) e

spaced_step : (c : ℕ) (text : List ℕ) (b : Bool) → (c == 32) ≡ b → spaced_words (pieces text) ≡ 32 ∷ text → spaced_words (pieces (c ∷ text)) ≡ 32 ∷ c ∷ text
spaced_step c text true is inner =
    let space : c ≡ 32 = grind (arith, nat_tests) in
    rw is (ap (λ t. 32 ∷ t) inner ∙ ap (λ b. 32 ∷ b ∷ text) (sym space))
spaced_step c text false is inner = rw is (with_step c text (pieces text) inner)

-- the pieces of a text, each behind a space, are a space and the text
spaced_pieces : (text : List ℕ) → spaced_words (pieces text) ≡ 32 ∷ text
spaced_pieces [] = refl
spaced_pieces (c ∷ text) = spaced_step c text (c == 32) refl (spaced_pieces text)

abbrev IsSome : List (List ℕ) → Type 0
IsSome words = (length words == 0) ≡ false

some_words : {X : Type 0} (x : X) (xs : List X) → (length (x ∷ xs) == 0) ≡ false
some_words x xs = grind (arith, nat_tests)

items_from : (before : List ℕ) (ps words : List (List ℕ)) → spaced_words ps ≡ 32 ∷ before → items_among ps ≡ words → IsSome words → before ≡ spaced_words words
items_from before [] words e is some = absurd (cc)
items_from before ([] ∷ others) words e is some = sym (ap (drop 1) e) ∙ ap spaced_words is
items_from before ((c ∷ w) ∷ others) words e is some =
    let none : [] ≡ words = sym (ap (λ b. if b then others else []) (some_words c w)) ∙ is in
    let empty : (length words == 0) ≡ true = ap (λ ws. length ws == 0) (sym none) in
    absurd (cc)

-- what follows `order`, from its items
behind_is : (behind : List ℕ) (words : List (List ℕ)) → order_items behind ≡ words → ends_well behind (length words) ≡ true
    → behind ≡ spaced_words words ++ 10 ∷ []
behind_is behind [] are ended = sym ((bytes_decides (10 ∷ []) behind).0 ended)
behind_is behind (w ∷ ws) are ended =
    let n = position_or_len (λ c. c == 10) behind in
    let end : pointwise nat_eq (10 ∷ []) (from_feed behind) ≡ true =
    ap (λ b. pointwise nat_eq (10 ∷ []) (if b then behind else from_feed behind)) (sym (some_words w ws)) ∙ ended in
    let before : before_feed behind ≡ spaced_words (w ∷ ws) =
    items_from (before_feed behind) (pieces (before_feed behind)) (w ∷ ws) (spaced_pieces (before_feed behind)) are (some_words w ws) in
    sym (take-append-drop n behind) ∙ ap (λ t. t ++ from_feed behind) before ∙ ap (λ t. spaced_words (w ∷ ws) ++ t)
    (sym ((bytes_decides (10 ∷ []) (from_feed behind)).0 end))

abbrev named : List ℕ → List (List ℕ) → List ℕ
named quotas words = filter_map (session_of quotas) words

-- the number of a session
abbrev IsSession : List ℕ → ℕ → Type 0
IsSession quotas i = (1 ≤ i) × (i ≤ length quotas)

abbrev share : ℕ → List ℕ → ℕ
share i order = count_by (λ other. other == i) order

-- words that name sessions, none oftener than it has shared commands
record AreGood (quotas : List ℕ) (words : List (List ℕ)) : Type 0 where
  spelled : words ≡ map decimal (named quotas words)
  sessions : All (IsSession quotas) (named quotas words)
  most : (i : ℕ) → share i (named quotas words) ≤ quota_of quotas i

share_more : (order : List ℕ) (i j : ℕ) (b : Bool) → (i == j) ≡ b → share j (order ++ i ∷ []) ≡ share j order + cond b 1 0
share_more order i j b is =
    let parts : share j (order ++ i ∷ []) ≡ share j order + share j (i ∷ []) = sum_by-append (λ x. cond (x == j) 1 0) order (i ∷ []) in
    let one : share j (i ∷ []) ≡ cond b 1 0 = rw is (zero-add (cond b 1 0)) in
    omega (arith, parts, one)

most_more : (quotas order : List ℕ) (i j : ℕ) (b : Bool) → (i == j) ≡ b → share j order ≤ quota_of quotas j → share i order < quota_of quotas i
    → share j (order ++ i ∷ []) ≤ quota_of quotas j
most_more quotas order i j true is most left =
    let same : i ≡ j = grind (arith, nat_tests) in
    let more = share_more order i j true is in
    let less : share j order < quota_of quotas j = subst (λ k. share k order < quota_of quotas k) same left in
    omega (arith, more, less)
most_more quotas order i j false is most left = let more = share_more order i j false is in omega (arith, more, most)

good_item : (quotas : List ℕ) (words : List (List ℕ)) (word : List ℕ) (i : ℕ) → AreGood quotas words → session_of quotas word ≡ Some i
    → share i (named quotas words) < quota_of quotas i
    → AreGood quotas (words ++ word ∷ [])
good_item quotas words word i good is left =
    let found = find-some (spells word) 1 (length quotas) i is in
    let spelled : decimal i ≡ word = (bytes_decides (decimal i) word).0 found.passes in
    let order = named quotas words in
    let more : named quotas (words ++ word ∷ []) ≡ order ++ i ∷ [] = filter_map-append (session_of quotas) words (word ∷ []) ∙ rw is refl in
    record {
      spelled = ap (λ ws. ws ++ word ∷ []) good.spelled ∙ ap (λ w. map decimal order ++ w ∷ []) (sym spelled)
          ∙ sym (map-append decimal order (i ∷ [])) ∙ ap (map decimal) (sym more);
      sessions = subst (All (IsSession quotas)) (sym more) (All-append (IsSession quotas) order (i ∷ []) good.sessions
          (All-cons (IsSession quotas) i [] (found.above, omega (arith, found.below)) (λ k d below. absurd (omega (arith, below)))));
      most = λ j. subst (λ os. share j os ≤ quota_of quotas j) (sym more) (most_more quotas order i j (i == j) refl (good.most j) left);
    }

-- an item that isn't bad names a session that has a shared command left
record IsLeft (quotas order : List ℕ) (o : Option ℕ) : Type 0 where
  session : ℕ
  is : o ≡ Some session
  left : share session order < quota_of quotas session

left_of : (quotas order : List ℕ) (o : Option ℕ) → is_bad_session quotas order o ≡ false → IsLeft quotas order o
left_of quotas order None good = absurd (cc)
left_of quotas order (Some i) good = record { session = i; is = refl; left = grind (arith, nat_tests) }

good_to : (quotas : List ℕ) (words : List (List ℕ)) → first_bad_item quotas words ≡ None → (k : ℕ) → k ≤ length words → AreGood quotas (take k words)
good_to quotas words none zero within = record { spelled = refl; sessions = λ k d below. absurd (omega (arith, below)); most = λ i. omega arith }
good_to quotas words none (suc k) within =
    let earlier = named quotas (take k words) in
    let place : 1 + k ≡ k + 1 = omega arith in
    let good : is_bad_session quotas earlier (session_of quotas (get_or words k [])) ≡ false =
    sym (bad_at quotas words earlier k refl) ∙ ap (is_bad_item quotas words) (sym place) ∙ none-each (is_bad_item quotas words) 1
    (length words) none k (omega (arith, within)) in
    let item = left_of quotas earlier (session_of quotas (get_or words k [])) good in
    let e : suc k ≡ k + 1 = omega arith in
    subst (AreGood quotas) (sym (ap (λ n. take n words) e ∙ take_more words k [] (omega (arith, within))))
    (good_item quotas (take k words) (get_or words k []) item.session (good_to quotas words none k (omega (arith, within))) item.is item.left)

take_all : (words : List (List ℕ)) → take (length words) words ≡ words
take_all [] = refl
take_all (w ∷ ws) = ap (λ t. w ∷ t) (take_all ws)

-- the parts of what was read
record AreRead (quotas behind : List ℕ) (words : List (List ℕ)) (order : List ℕ) : Type 0 where
  none_bad : first_bad_item quotas words ≡ None
  order_is : named quotas words ≡ order
  used : are_all_used quotas order ≡ true
  ends : ends_well behind (length words) ≡ true

ended_parts : (a : Bool) (sessions order : List ℕ) (n : ℕ) → ◌≡◌ {A = Result (List ℕ) ℕ} (if a then Ok sessions else Err n) (Ok order)
    → (a ≡ true) × (sessions ≡ order)
ended_parts true sessions order n e = let same : sessions ≡ order = cc in (refl, same)
ended_parts false sessions order n e = absurd (cc)

read_parts : (quotas behind : List ℕ) (words : List (List ℕ)) (order : List ℕ) (bad : Option ℕ) → first_bad_item quotas words ≡ bad
    → option_map_or Err bad (ended_order quotas behind words (named quotas words)) ≡ Ok order → AreRead quotas behind words order
read_parts quotas behind words order (Some place) is e = absurd (cc)
read_parts quotas behind words order None is e =
    let parts = ended_parts (are_all_used quotas (named quotas words) && ends_well behind (length words)) (named quotas words) order (length words + 1) e in
    let ended = and_parts (are_all_used quotas (named quotas words)) (ends_well behind (length words)) parts.0 in
    record { none_bad = is; order_is = parts.1; used = ap (are_all_used quotas) (sym parts.1) ∙ ended.0; ends = ended.1 }

begun : (b : Bool) (x : Result (List ℕ) ℕ) (order : List ℕ) → (if b then x else Err 0) ≡ Ok order → (b ≡ true) × (x ≡ Ok order)
begun true x order e = (refl, e)
begun false x order e = absurd (cc)

read_order-parts : (quotas text order : List ℕ) → order_of quotas text ≡ Ok order → (begins text ≡ true)
    × AreRead quotas (drop 5 text) (order_items (drop 5 text)) order
unfolding order_of
read_order-parts quotas text order e =
    let parts = begun (begins text) (order_among quotas (drop 5 text) (order_items (drop 5 text))) order e in
    (parts.0, read_parts quotas (drop 5 text) (order_items (drop 5 text)) order (first_bad_item quotas (order_items (drop 5 text))) refl parts.1)

all_shares : (quotas order : List ℕ) → are_all_used quotas order ≡ true → ((i : ℕ) → share i order ≤ quota_of quotas i) → (i : ℕ)
    → 1 ≤ i → i ≤ length quotas → share i order ≡ quota_of quotas i
all_shares quotas order used most i above within =
    let e : 1 + (i - 1) ≡ i = omega (arith, above) in
    let least : nat_le (quota_of quotas i) (share i order) ≡ true =
    ap (has_used quotas order) (sym e) ∙ all-each (has_used quotas order) 1 (length quotas) used (i - 1) (omega (arith, above, within)) in
    let top = most i in
    grind (arith, nat_tests)

-- what is read is an order, and no other text is read so
pub order_of-order : (quotas text order : List ℕ) → order_of quotas text ≡ Ok order → IsOrder quotas order × (text ≡ order_line order)
order_of-order quotas text order e =
    let parts = read_order-parts quotas text order e in
    let behind = drop 5 text in
    let words = order_items behind in
    let good : AreGood quotas words = subst (AreGood quotas) (take_all words) (good_to quotas words parts.1.none_bad (length words) (omega arith)) in
    let words_are : words ≡ map decimal order = good.spelled ∙ ap (map decimal) parts.1.order_is in
    let front : codes "order" ≡ take 5 text = (bytes_decides (codes "order") (take 5 text)).0 parts.0 in (
      record {
        sessions = subst (All (IsSession quotas)) parts.1.order_is good.sessions;
        each = all_shares quotas order parts.1.used (subst (λ os. (i : ℕ) → share i os ≤ quota_of quotas i) parts.1.order_is good.most);
      },
      sym (take-append-drop 5 text) ∙ ap (λ t. t ++ behind) (sym front) ∙ ap (λ t. codes "order" ++ t) (behind_is behind words refl parts.1.ends)
          ∙ ap (λ ws. codes "order" ++ (spaced_words ws ++ 10 ∷ [])) words_are,
    )
