-- The first commit above a base that clashes, found by the places that are noted at the names that a set edits or guards.
use Rattle.std.proofs.Common.{◌≡◌, ℕ, zero, suc, ◌+◌, ◌-◌, ◌≤◌, ◌<◌, ◌||◌, Bool, true, false, List, [], ◌∷◌, ◌++◌, Option, Some, None}
use Rattle.std.proofs.Common.{cond, drop, filter_map, map, refl, sym, ap, ◌∙◌, arith}
use Rattle.std.specs.Prelude.{find}
use Rattle.std.specs.List.{cons_option, enumerate_from, list_any, slice_get}
use Rattle.std.specs.Option.{option_and_then, option_map}
use Rattle.std.proofs.lemmas.Option.{none-some, same_Some}
use Rattle.s57_types.specs.declared.name.RecName.{RecName}
use Rattle.cell_spec.specs.Ascending.{ascending}
use Rattle.cell_spec.specs.declared.edit.Edit.{Edit}
use Rattle.cell_spec.specs.Edits.{edit_of, name_of_edit}
use Rattle.cell_spec.specs.Names.{name_order, same_name}
use Rattle.history_spec.specs.declared.reply.Reply.{Reply}
use Rattle.history_spec.specs.declared.reply.Reply.TheVariants.{Newer}
use Rattle.history_spec.specs.Steps.{AcceptedCommit, clash_with, first_of, newer_answer}
use Rattle.commit_book.specs.declared.accepted.Accepted.{Accepted as Taken}
use Rattle.commit_book.specs.declared.commit_places.CommitPlaces.{CommitPlaces}
use Rattle.commit_book.specs.Books.{commit_of}
use Rattle.commit_book.specs.CommitPlaces.{AreNoted, IsFirstPlace, IsNoted, has_any, has_place}
use Rattle.commit_book.proofs.Contested.{least_contested}

-- ---- numbered commits from a place on
from_place : (n k : ℕ) (accepted : List Taken) (taken : Taken) → slice_get accepted k ≡ Some taken
    → drop k (enumerate_from n (map commit_of accepted)) ≡ (n + k, commit_of taken) ∷ drop (suc k) (enumerate_from n (map commit_of accepted))
from_place n k [] taken is = absurd (none-some taken is)
from_place n zero (x ∷ accepted) taken is =
    (let number : n ≡ n + 0 = omega arith in λ i. (number i, commit_of (same_Some x taken is i)) ∷ enumerate_from (n + 1) (map commit_of accepted))
from_place n (suc k) (x ∷ accepted) taken is =
    from_place (n + 1) k accepted taken is
    ∙ (let number : n + 1 + k ≡ n + suc k = omega arith in λ i. (number i, commit_of taken) ∷ drop (suc k) (enumerate_from (n + 1) (map commit_of accepted)))

past : (n k : ℕ) (accepted : List Taken) → slice_get accepted k ≡ None → drop k (enumerate_from n (map commit_of accepted)) ≡ []
past n zero [] none = refl
past n (suc k) [] none = refl
past n zero (x ∷ accepted) none = absurd (none-some x (sym none))
past n (suc k) (x ∷ accepted) none = past (n + 1) k accepted none

-- ---- a commit whose place isn't noted at a claimed name doesn't clash
none_passes : (p q : RecName → Bool) (names : List RecName) → ((n : RecName) → p n ≡ true → q n ≡ true) → list_any q names ≡ false → find p names ≡ None
none_passes p q [] so none = refl
none_passes p q (n ∷ names) so none = by (p n) (q n) refl refl none (none_passes p q names so)
  where
    by : (passes other : Bool) → p n ≡ passes → q n ≡ other → (other || list_any q names) ≡ false
        → (list_any q names ≡ false → find p names ≡ None) → cond passes (Some n) (find p names) ≡ None
    by false false is other_is none behind = behind none
    by false true is other_is none behind = absurd (cc)
    by true other is other_is none behind =
        let passed : other ≡ true = sym other_is ∙ so n is in
        let both : true ≡ false = sym (ap (λ b. b || list_any q names) passed) ∙ none in
        absurd (cc)

module _ (edits : List Edit) (guards : List RecName) (places : CommitPlaces) where
  abbrev claims : List RecName
  claims = ascending name_order (map name_of_edit edits ++ guards)

  no_clash : (number k : ℕ) (taken : Taken) → IsNoted places k taken → has_any places claims k ≡ false
      → clash_with edits guards (number, commit_of taken) ≡ None
  no_clash number k taken noted none =
      ap (option_and_then (λ n. option_map (Newer number n taken.desk) (edit_of n taken.set.edits)))
      (sym (least_contested edits guards taken.set.edits)
      ∙ none_passes (λ n. list_any (λ other. same_name n (name_of_edit other)) taken.set.edits) (λ n. has_place places n k) claims noted none)

  module _ (accepted : List Taken) where
    abbrev answer_above : ℕ → Option Reply
    answer_above base = newer_answer (map commit_of accepted) base edits guards

    abbrev numbered : ℕ → List (ℕ × AcceptedCommit)
    numbered k = drop k (enumerate_from 1 (map commit_of accepted))

    -- the answer is that of a commit that clashes, and of those behind it where it doesn't
    at_place : (k : ℕ) (taken : Taken) → slice_get accepted k ≡ Some taken → answer_above k ≡ first_of
        (cons_option (clash_with edits guards (k + 1, commit_of taken)) (filter_map (clash_with edits guards) (numbered (suc k))))
    at_place k taken is =
        (let number : 1 + k ≡ k + 1 = omega arith in
        ap (λ commits. first_of (filter_map (clash_with edits guards) commits)) (from_place 1 k accepted taken is)
        ∙ (λ i. first_of (cons_option (clash_with edits guards (number i, commit_of taken)) (filter_map (clash_with edits guards) (numbered (suc k))))))

    pub clashes_at : (k : ℕ) (taken : Taken) (reply : Reply) → slice_get accepted k ≡ Some taken
        → Some reply ≡ clash_with edits guards (k + 1, commit_of taken) → Some reply ≡ answer_above k
    clashes_at k taken reply is clash =
        ap (λ o. first_of (cons_option o (filter_map (clash_with edits guards) (numbered (suc k))))) clash ∙ sym (at_place k taken is)

    pub passes_at : (k : ℕ) (taken : Taken) → slice_get accepted k ≡ Some taken
        → None ≡ clash_with edits guards (k + 1, commit_of taken) → answer_above (k + 1) ≡ answer_above k
    passes_at k taken is none =
        (let next : k + 1 ≡ suc k = omega arith in ap answer_above next)
        ∙ ap (λ o. first_of (cons_option o (filter_map (clash_with edits guards) (numbered (suc k))))) none ∙ sym (at_place k taken is)

    pub none_past : (k : ℕ) → slice_get accepted k ≡ None → None ≡ answer_above k
    none_past k none = sym (ap (λ commits. first_of (filter_map (clash_with edits guards) commits)) (past 1 k accepted none))

    -- ---- places are passed over up to the first that is noted
    passed_one : AreNoted places accepted → (k : ℕ) → has_any places claims k ≡ false → answer_above (suc k) ≡ answer_above k
    passed_one noted k none = by (slice_get accepted k) refl
      where
        by : (found : Option Taken) → slice_get accepted k ≡ found → answer_above (suc k) ≡ answer_above k
        by (Some taken) is =
            (let next : suc k ≡ k + 1 = omega arith in ap answer_above next)
            ∙ passes_at k taken is (sym (no_clash (k + 1) k taken (noted k taken is) none))
        by None is = sym (none_past (suc k) (past_next k accepted is)) ∙ none_past k is
          where
            past_next : (j : ℕ) (xs : List Taken) → slice_get xs j ≡ None → slice_get xs (suc j) ≡ None
            past_next j [] none = refl
            past_next zero (x ∷ xs) none = absurd (none-some x (sym none))
            past_next (suc j) (x ∷ xs) none = past_next j xs none

    passed_many : AreNoted places accepted → (many from : ℕ) → ((k : ℕ) → from ≤ k → k < from + many → has_any places claims k ≡ false)
        → answer_above (from + many) ≡ answer_above from
    passed_many noted zero from none = (let same : from + 0 ≡ from = omega arith in ap answer_above same)
    passed_many noted (suc many) from none =
        (let same : from + suc many ≡ suc from + many = omega arith in ap answer_above same)
        ∙ passed_many noted many (suc from) (λ k above below. none k (omega (arith, above)) (omega (arith, below)))
        ∙ passed_one noted from (none from (omega arith) (omega arith))

    pub first_place_answers : AreNoted places accepted → (from to first : ℕ) → IsFirstPlace places claims from to first
        → answer_above first ≡ answer_above from
    first_place_answers noted from to first is =
        let up_to = is.from_is in
        (let same : first ≡ from + (first - from) = omega (arith, up_to) in
        ap answer_above same
        ∙ passed_many noted (first - from) from (λ k above below. is.none_before k above (omega (arith, below, same))))
