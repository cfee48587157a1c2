-- A walk that passes each record once finds just the pairs that aren't there yet.
use Rattle.std.proofs.Common.{◌≡◌, ◌⊎◌, inl, inr, ◌&&◌, ◌||◌, Bool, true, false, not, List, [], ◌∷◌, ◌++◌, Option, None, Some, cond}
use Rattle.std.proofs.Common.{filter, fold, map, refl, sym, ap, subst, ◌∙◌, append_assoc, get_or, length, take, ℕ, ◌+◌, ◌<◌, Less, is_eq, is_lt, Ordering}
use Rattle.std.specs.Option.{option_map_or}
use Rattle.std.specs.Ordering.{ordering_reverse}
use Rattle.std.specs.declared.cmp.Ordering.TheVariants.{Equal, Greater}
use Rattle.std.specs.Cmp.{Equal-is, both_ways, eq_by_cmp_equiv}
use Rattle.std.specs.List.{AllByRecursion, list_any}
use Rattle.std.specs.List.Sorted.{IsStrictlySortedBy}
use Rattle.std.proofs.lemmas.Bool.{or_parts}
use Rattle.std.proofs.lemmas.List.{append-nil}
use Rattle.std.proofs.lemmas.List.Folds.{list_any-append}
use Rattle.std.proofs.lemmas.List.Sums.{fold_more}
use Rattle.s57_types.specs.declared.name.RecName.{RecName}
use Rattle.cell_spec.specs.declared.key.Subject.{Subject}
use Rattle.cell_spec.specs.declared.key.Subject.TheVariants.{Rec, Side, Pair, Ident}
use Rattle.cell_spec.specs.Names.{name_order, same_name, same_subject, subject_order}
use Rattle.cell_spec.proofs.Orders.{exact_names, names_tie, one_when_same, same_from_either, total_names}
use Rattle.cell_spec.proofs.SubjectOrder.{exact_subjects, total_subjects}
use Rattle.rule_spec.specs.Affected.{pair_of}
use Rattle.rule_spec.specs.Findings.{is_below}
use Rattle.row_spec.specs.Rows.{IsAscending, value_of}
use Rattle.answer_laws.proofs.Among.{Among, among_append, among_map, any_passes, in_back, in_front, mapped}
use Rattle.finding_laws.specs.Tables.{Covering, is_mate, mates_in}
use Rattle.finding_laws.proofs.Lists.{among_held, held_among}
use Rattle.tile_index.proofs.Chosen.{sorted-chosen}
use Rattle.affected_subjects.specs.NewPairs.{Walked, is_new, new_pairs, noted, pairs_brought, pairs_found, set_out}
use Rattle.affected_subjects.specs.NewPairs.{walk_past, with_pair, with_pairs, with_passed}
use Rattle.affected_subjects.specs.Rounds.{add_all, add_each, add_one}
use Rattle.affected_subjects.proofs.EachOnce.{add-append, is_there, itself, kept, nothing_new, put}
use Rattle.affected_subjects.proofs.Mutual.{or_turned}
use Rattle.affected_subjects.proofs.Known.{other_below}

-- the pairs of a record with its mates before, then with those after
abbrev pub mated : List (RecName × Covering) → List (RecName × Covering) → Subject → List Subject
mated before after (Rec n) = map (pair_of n) (mates_in before n) ++ map (pair_of n) (mates_in after n)
mated before after (Side n) = []
mated before after (Pair a b) = []
mated before after (Ident l) = []

-- ---- tests
or_more : (a b : Bool) → (b ≡ true → a ≡ true) → a ≡ (a || b)
or_more true b h = refl
or_more false true h = h refl
or_more false false h = refl

or_end : (a b : Bool) → (a || (b || false)) ≡ (a || b)
or_end true b = refl
or_end false true = refl
or_end false false = refl

or_grouped : (a b d : Bool) → ((a || b) || d) ≡ (a || (b || d))
or_grouped true b d = refl
or_grouped false b d = refl

nor : (a b : Bool) → not (a || b) ≡ (not a && not b)
nor true b = refl
nor false b = refl

own_name : (n : RecName) → same_name n n ≡ true
own_name n = sym (names_tie n n) ∙ (eq_by_cmp_equiv total_names).refl n

agree : (p q : RecName → Bool) (xs : List RecName) → ((x : RecName) → Among x xs → p x ≡ q x) → filter p xs ≡ filter q xs
agree p q [] each = refl
agree p q (x ∷ xs) each = λ i. cond (each x (inl refl) i) (x ∷ agree p q xs (λ y at. each y (inr at)) i) (agree p q xs (λ y at. each y (inr at)) i)

-- ---- what is there with more
one_added_by : (t x : Subject) (there : List Subject) (at : Bool) → is_there x there ≡ at
    → is_there t (cond at there (there ++ x ∷ [])) ≡ (is_there t there || same_subject t x)
one_added_by t x there true is =
    or_more (is_there t there) (same_subject t x) (λ same.
    subst (λ s. is_there s there ≡ true) (sym (exact_subjects t x ((Equal-is (subject_order t x)).0 same))) is)
one_added_by t x there false is = list_any-append (same_subject t) there (x ∷ []) ∙ or_end (is_there t there) (same_subject t x)

all_added : (t : Subject) (there xs : List Subject) → is_there t (add_all there xs) ≡ (is_there t there || is_there t xs)
all_added t there [] = or_more (is_there t there) false (λ no. cc)
all_added t there (x ∷ xs) =
    all_added t (add_one there x) xs
    ∙ ap (λ b. b || is_there t xs) (one_added_by t x there (is_there x there) refl)
    ∙ or_grouped (is_there t there) (same_subject t x) (is_there t xs)

-- ---- pairs
module _ (n a b : RecName) where
  one_by : (below above : Bool) → cond below (Pair n a) (Pair a n) ≡ cond above (Pair n b) (Pair b n) → a ≡ b
  one_by true true e = cc
  one_by true false e = cc
  one_by false true e = cc
  one_by false false e = cc

  pairs_tie : same_subject (pair_of n a) (pair_of n b) ≡ same_name a b
  pairs_tie =
      both_ways (same_subject (pair_of n a) (pair_of n b)) (same_name a b)
      (λ same. ap (same_name a) (sym (one_by (is_below n a) (is_below n b)
      (exact_subjects (pair_of n a) (pair_of n b) ((Equal-is (subject_order (pair_of n a) (pair_of n b))).0 same)))) ∙ own_name a)
      (λ same. ap (λ m. same_subject (pair_of n a) (pair_of n m)) (sym (one_when_same a b same)) ∙ itself (pair_of n a))

pair_among : (n m : RecName) (mates : List RecName) → is_there (pair_of n m) (map (pair_of n) mates) ≡ list_any (same_name m) mates
pair_among n m [] = refl
pair_among n m (x ∷ mates) = λ i. pairs_tie n m x i || pair_among n m mates i

-- a pair of one name with another has one of any two names that make it
shared_by : (p x n m : RecName) (below above : Bool) → cond below (Pair p x) (Pair x p) ≡ cond above (Pair n m) (Pair m n) → (p ≡ n) ⊎ (p ≡ m)
shared_by p x n m true true e = inl cc
shared_by p x n m true false e = inr cc
shared_by p x n m false true e = inr cc
shared_by p x n m false false e = inl cc

both_below : (n m : RecName) → is_below n m ≡ true → is_below m n ≡ true → ⊥
both_below n m e f = no (name_order n m) e (sym (ap is_lt (total_names.antisymm m n)) ∙ f)
  where
    no : (o : Ordering) → is_lt o ≡ true → is_lt (ordering_reverse o) ≡ true → ⊥
    no Less e f = absurd cc
    no Equal e f = absurd cc
    no Greater e f = absurd cc

turned_by : (n m : RecName) (below above : Bool) → is_below n m ≡ below → is_below m n ≡ above → same_name n m ≡ false
    → cond below (Pair n m) (Pair m n) ≡ cond above (Pair m n) (Pair n m)
turned_by n m true true e f apart = absurd (both_below n m e f)
turned_by n m true false e f apart = refl
turned_by n m false true e f apart = refl
turned_by n m false false e f apart = let other = other_below n m e (ap not apart) in cc

turned : (n m : RecName) → same_name n m ≡ false → pair_of n m ≡ pair_of m n
turned n m = turned_by n m (is_below n m) (is_below m n) refl refl

-- ---- pairs with mates in order, each once
later_apart : (m x : RecName) (ms : List RecName) → AllByRecursion (λ y. name_order m y ≡ Less) ms → Among x ms → same_name x m ≡ false
later_apart m x [] all at = absurd at
later_apart m x (y ∷ ms) all (inl is) = sym (names_tie m x) ∙ ap is_eq (ap (name_order m) (sym is) ∙ all.0)
later_apart m x (y ∷ ms) all (inr at) = later_apart m x ms all.1 at

module _ (n : RecName) where
  abbrev fresh : List Subject → RecName → Bool
  fresh now m = not (is_there (pair_of n m) now)

  not_more : (a b : Bool) → b ≡ false → not (a || (b || false)) ≡ not a
  not_more true b e = refl
  not_more false b e = ap (λ x. not (x || false)) e

  fresh_by : (now : List Subject) (m : RecName) (ms : List RecName) (at : Bool) → is_there (pair_of n m) now ≡ at
      → AllByRecursion (λ y. name_order m y ≡ Less) ms
      → ((there : List Subject) → add_all there (map (pair_of n) ms) ≡ there ++ map (pair_of n) (filter (fresh there) ms))
      → add_all (cond at now (now ++ pair_of n m ∷ [])) (map (pair_of n) ms)
      ≡ now ++ map (pair_of n) (cond (not at) (m ∷ filter (fresh now) ms) (filter (fresh now) ms))
  fresh_by now m ms true is all rest = rest now
  fresh_by now m ms false is all rest =
      rest (now ++ pair_of n m ∷ [])
      ∙ append_assoc now (pair_of n m ∷ []) (map (pair_of n) (filter (fresh (now ++ pair_of n m ∷ [])) ms))
      ∙ ap (λ those. now ++ pair_of n m ∷ map (pair_of n) those)
      (agree (fresh (now ++ pair_of n m ∷ [])) (fresh now) ms (λ x among.
      ap not (list_any-append (same_subject (pair_of n x)) now (pair_of n m ∷ []))
      ∙ not_more (is_there (pair_of n x) now) (same_subject (pair_of n x) (pair_of n m)) (pairs_tie n x m ∙ later_apart m x ms all among)))

  fresh_added : (mates : List RecName) → IsStrictlySortedBy name_order mates → (now : List Subject)
      → add_all now (map (pair_of n) mates) ≡ now ++ map (pair_of n) (filter (fresh now) mates)
  unfolding IsStrictlySortedBy
  fresh_added [] rises now = sym (append-nil now)
  fresh_added (m ∷ ms) rises now =
      fresh_by now m ms (is_there (pair_of n m) now) refl rises.0 (λ there. fresh_added ms rises.1 there)

-- ---- the walk
module _ (before after : List (RecName × Covering)) (first_rises : (n : RecName) → IsStrictlySortedBy name_order (mates_in before n))
    (then_rises : (n : RecName) → IsStrictlySortedBy name_order (mates_in after n)) where
  abbrev gives : Subject → List Subject
  gives = mated before after

  abbrev Mates : RecName → RecName → Type 0
  Mates n m = Among m (mates_in before n) ⊎ Among m (mates_in after n)

  module _ (mutual_mate : (n m : RecName) → Mates n m → Mates m n) (apart : (n m : RecName) → Mates n m → same_name n m ≡ false) where
    -- a walk, and what is there with its pairs
    record Fits (w : Walked) (now : List Subject) : Type 0 where
      listed : (n m : RecName) → w.passed n ≡ false → Mates n m → is_there (pair_of n m) now ≡ w.passed m
      brought : (n : RecName) (t : Subject) → w.passed n ≡ true → Among t (gives (Rec n)) → is_there t now ≡ true

    given : (p m : RecName) → Mates p m → Among (pair_of p m) (gives (Rec p))
    given p m (inl at) =
        in_front (pair_of p m) (map (pair_of p) (mates_in before p)) (map (pair_of p) (mates_in after p)) (among_map (pair_of p) m (mates_in before p) at)
    given p m (inr at) =
        in_back (pair_of p m) (map (pair_of p) (mates_in before p)) (map (pair_of p) (mates_in after p)) (among_map (pair_of p) m (mates_in after p) at)

    record Giver (p : RecName) (t : Subject) : Type 0 where
      mate : RecName
      is : pair_of p mate ≡ t

    giver : (p : RecName) (t : Subject) → Among t (gives (Rec p)) → Giver p t
    giver p t at = elim (among_append t (map (pair_of p) (mates_in before p)) (map (pair_of p) (mates_in after p)) at) [
      | inl here ↦ let from = mapped (pair_of p) t (mates_in before p) here in record { mate = from.item; is = from.gives }
      | inr there ↦ let from = mapped (pair_of p) t (mates_in after p) there in record { mate = from.item; is = from.gives }
    ]

    module _ (w : Walked) (now : List Subject) (fits : Fits w now) (p : RecName) where
      abbrev passed : RecName → Bool
      passed = with_passed p w.passed

      abbrev more : List Subject
      more = add_all now (gives (Rec p))

      -- of mates of a record that isn't passed those are new that aren't passed
      new_here : w.passed p ≡ false → (known : List RecName) (m : RecName) → Mates p m
          → not (is_there (pair_of p m) now || list_any (same_name m) known) ≡ is_new passed known m
      new_here out known m mates =
          nor (is_there (pair_of p m) now) (list_any (same_name m) known)
          ∙ ap (λ b. not b && not (list_any (same_name m) known))
          (fits.listed p m out mates ∙ sym (ap (λ b. b || w.passed m) (same_from_either m p ∙ apart p m mates)))

      brings : w.passed p ≡ false → more ≡ now ++ pairs_brought (mates_in before p) (mates_in after p) passed p
      brings out =
          let olds = mates_in before p in
          let news = mates_in after p in
          let front = map (pair_of p) olds in
          let first : add_all now front ≡ now ++ new_pairs passed p [] olds =
          fresh_added p olds (first_rises p) now
          ∙ ap (λ those. now ++ map (pair_of p) those) (agree (fresh p now) (is_new passed []) olds (λ m at.
          ap not (or_more (is_there (pair_of p m) now) false (λ no. cc)) ∙ new_here out [] m (inl at))) in
          let second : add_all (add_all now front) (map (pair_of p) news) ≡ add_all now front ++ new_pairs passed p olds news =
          fresh_added p news (then_rises p) (add_all now front)
          ∙ ap (λ those. add_all now front ++ map (pair_of p) those) (agree (fresh p (add_all now front)) (is_new passed olds) news (λ m at.
          ap not (all_added (pair_of p m) now front ∙ ap (λ b. is_there (pair_of p m) now || b) (pair_among p m olds)) ∙ new_here out olds m (inr at))) in
          add-append now front (map (pair_of p) news)
          ∙ second
          ∙ ap (λ those. those ++ new_pairs passed p olds news) first
          ∙ append_assoc now (new_pairs passed p [] olds) (new_pairs passed p olds news)

      -- a pair of a record that isn't passed now is one of the passed record's just where that is its other record
      of_passed : (n m : RecName) → same_name n p ≡ false → Mates n m → is_there (pair_of n m) (gives (Rec p)) ≡ same_name m p
      of_passed n m other mates =
          both_ways (is_there (pair_of n m) (gives (Rec p))) (same_name m p)
          (λ found.
          let from = giver p (pair_of n m) (among_held subject_order exact_subjects (pair_of n m) (gives (Rec p)) found) in
          elim (shared_by p from.mate n m (is_below p from.mate) (is_below n m) from.is) [
            | inl is ↦ let same = ap (same_name n) is ∙ own_name n in cc
            | inr is ↦ ap (same_name m) is ∙ own_name m
          ])
          (λ same.
          let is = one_when_same m p same in
          let back = subst (λ q. Mates q n) is (mutual_mate n m mates) in
          let pair = ap (pair_of n) is ∙ turned n p other in
          held_among subject_order total_subjects (pair_of n m) (gives (Rec p)) (subst (λ t. Among t (gives (Rec p))) (sym pair) (given p n back)))

      listed_more : (n m : RecName) → passed n ≡ false → Mates n m → is_there (pair_of n m) more ≡ passed m
      listed_more n m out mates =
          let parts = or_parts (same_name n p) (w.passed n) out in
          all_added (pair_of n m) now (gives (Rec p))
          ∙ (λ i. fits.listed n m parts.1 mates i || of_passed n m parts.0 mates i)
          ∙ or_turned (w.passed m) (same_name m p)

      brought_more : (n : RecName) (t : Subject) → passed n ≡ true → Among t (gives (Rec n)) → is_there t more ≡ true
      brought_more n t in_ at = by (same_name n p) refl
        where
          by : (same : Bool) → same_name n p ≡ same → is_there t more ≡ true
          by true is = put t now (gives (Rec p)) (subst (λ q. Among t (gives (Rec q))) (one_when_same n p is) at)
          by false is = kept t now (gives (Rec p)) (fits.brought n t (sym (ap (λ b. b || w.passed n) is) ∙ in_) at)

    -- ---- one subject after the other, behind those of the first round
    module _ (there : List Subject) where
      record Past (w next : Walked) (s : Subject) : Type 0 where
        behind : there ++ next.pairs ≡ add_all (there ++ w.pairs) (gives s)
        fits : Fits next (there ++ next.pairs)

      past_by : (w : Walked) → Fits w (there ++ w.pairs) → (p : RecName) (b : Bool) → w.passed p ≡ b → Past w
          (cond b w (with_pairs (noted p w) (pairs_brought (mates_in before p) (mates_in after p) (with_passed p w.passed) p))) (Rec p)
      past_by w fits p true is = record {
        behind = sym (nothing_new (there ++ w.pairs) (gives (Rec p)) (λ t at. fits.brought p t is at));
        fits = fits;
      }
      past_by w fits p false is =
          let now = there ++ w.pairs in
          let brought = pairs_brought (mates_in before p) (mates_in after p) (with_passed p w.passed) p in
          let longer = sym (append_assoc there w.pairs brought) ∙ sym (brings w now fits p is) in
          record {
            behind = longer;
            fits = subst (Fits (record { passed = with_passed p w.passed; pairs = w.pairs ++ brought })) (sym longer)
                (record { listed = listed_more w now fits p; brought = brought_more w now fits p });
          }

      past : (w : Walked) → Fits w (there ++ w.pairs) → (s : Subject) → Past w (walk_past before after w s) s
      past w fits (Rec p) = past_by w fits p (w.passed p) refl
      past w fits (Side n) = record { behind = refl; fits = fits }
      past w fits (Pair a b) = record { behind = refl; fits = fits }
      past w fits (Ident l) = record { behind = refl; fits = fits }

      walked : (ss : List Subject) (w : Walked) → Fits w (there ++ w.pairs)
          → there ++ (fold (walk_past before after) w ss).pairs ≡ add_each gives (there ++ w.pairs) ss
      walked [] w fits = refl
      walked (s ∷ ss) w fits =
          let one = past w fits s in
          walked ss (walk_past before after w s) one.fits ∙ ap (λ now. add_each gives now ss) one.behind

      -- the pairs that it finds are those that subjects which have no pair lack
      pub found : ((n m : RecName) → is_there (pair_of n m) there ≡ false) → (ss : List Subject)
          → there ++ pairs_found before after ss ≡ add_each gives there ss
      found lack ss =
          let none = append-nil there in
          walked ss set_out (record {
            listed = λ n m out mates. ap (is_there (pair_of n m)) none ∙ lack n m;
            brought = λ n t in_ at. absurd cc;
          }) ∙ ap (λ now. add_each gives now ss) none

-- ---- the new pairs of a record with some mates, one after the other
added_by : (known : List RecName) (n : RecName) (w : Walked) (m : RecName) (mates : List RecName) (b : Bool)
    → fold (with_pair known n) w mates ≡ with_pairs w (new_pairs w.passed n known mates)
    → fold (with_pair known n) (with_pairs w (pair_of n m ∷ [])) mates
    ≡ with_pairs (with_pairs w (pair_of n m ∷ [])) (new_pairs w.passed n known mates)
    → fold (with_pair known n) (cond b (with_pairs w (pair_of n m ∷ [])) w) mates
    ≡ with_pairs w (map (pair_of n) (cond b (m ∷ filter (is_new w.passed known) mates) (filter (is_new w.passed known) mates)))
added_by known n w m mates true without with_ =
    with_ ∙ (λ i. record { passed = w.passed; pairs = append_assoc w.pairs (pair_of n m ∷ []) (new_pairs w.passed n known mates) i })
added_by known n w m mates false without with_ = without

pub pairs_added : (known : List RecName) (n : RecName) (w : Walked) (mates : List RecName)
    → fold (with_pair known n) w mates ≡ with_pairs w (new_pairs w.passed n known mates)
pairs_added known n w [] = sym (λ i. record { passed = w.passed; pairs = append-nil w.pairs i })
pairs_added known n w (m ∷ mates) =
    added_by known n w m mates (is_new w.passed known m) (pairs_added known n w mates) (pairs_added known n (with_pairs w (pair_of n m ∷ [])) mates)

-- a fold goes on by one item
pub fold_goes_on : {X Y : Type 0} (f : Y → X → Y) (start now next : Y) (xs : List X) (k : ℕ) (d : X) → k < length xs → now ≡ fold f start (take k xs)
    → next ≡ f now (get_or xs k d) → next ≡ fold f start (take (k + 1) xs)
fold_goes_on f start now next xs k d within is step = step ∙ ap (λ y. f y (get_or xs k d)) is ∙ sym (fold_more f start xs k d within)

-- ---- a walk past a record whose mates are the same before and after
none_new : (passed : RecName → Bool) (known mates : List RecName) → ((m : RecName) → Among m mates → list_any (same_name m) known ≡ true)
    → filter (is_new passed known) mates ≡ []
none_new passed known [] all = refl
none_new passed known (m ∷ mates) all =
    ap (λ b. cond b (m ∷ filter (is_new passed known) mates) (filter (is_new passed known) mates))
    (old (not (passed m)) (list_any (same_name m) known) (all m (inl refl)))
    ∙ none_new passed known mates (λ x at. all x (inr at))
  where
    old : (a b : Bool) → b ≡ true → (a && not b) ≡ false
    old true b e = ap not e
    old false b e = refl

pub past_same : (before after : List (RecName × Covering)) (w noted_walk next : Walked) (n : RecName) (new : Bool) (mates : List RecName)
    → new ≡ not (w.passed n) → new ≡ true → noted_walk ≡ cond new (noted n w) w → mates ≡ mates_in before n → mates_in after n ≡ mates_in before n
    → next ≡ with_pairs noted_walk (new_pairs noted_walk.passed n [] mates) → next ≡ walk_past before after w (Rec n)
past_same before after w noted_walk next n new mates is some walk list same found =
    let olds = mates_in before n in
    let there = noted n w in
    let none : new_pairs there.passed n olds (mates_in after n) ≡ [] =
    ap (λ names. map (pair_of n) (filter (is_new there.passed olds) names)) same
    ∙ ap (map (pair_of n)) (none_new there.passed olds olds (λ m at. any_passes (same_name m) m olds at (own_name m))) in
    found
    ∙ (λ i. with_pairs ((walk ∙ ap (λ b. cond b there w) some) i)
    (new_pairs ((walk ∙ ap (λ b. cond b there w) some) i).passed n [] (list i)))
    ∙ ap (with_pairs there) (sym (append-nil (new_pairs there.passed n [] olds)))
    ∙ ap (λ more. with_pairs there (new_pairs there.passed n [] olds ++ more)) (sym none)
    ∙ ap (λ b. cond b w (with_pairs there (pairs_brought olds (mates_in after n) there.passed n))) (clear (w.passed n) (sym is ∙ some))
  where
    clear : (b : Bool) → not b ≡ true → false ≡ b
    clear true e = cc
    clear false e = refl

-- ---- mates are in order
pub none_rise : IsStrictlySortedBy name_order []
unfolding IsStrictlySortedBy
none_rise = tt

pub mates_rise : (rows : List (RecName × Covering)) → IsAscending name_order rows → (n : RecName) → IsStrictlySortedBy name_order (mates_in rows n)
unfolding IsStrictlySortedBy
mates_rise rows rises n = by (value_of name_order rows n)
  where
    by : (o : Option Covering)
        → IsStrictlySortedBy name_order (option_map_or (λ (own : Covering). map (λ (row : RecName × Covering). row.0) (filter (is_mate n own) rows)) o [])
    by None = tt
    by (Some own) = sorted-chosen name_order total_names exact_names (is_mate n own) rows rises
