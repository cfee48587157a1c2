-- Rows that are cut into runs, and pieces that are gathered into layers, one after the other.
use Rattle.std.proofs.Common.{◌≡◌, ℕ, suc, zero, ◌+◌, ◌<◌, List, [], ◌∷◌, ◌++◌, length, get_or, take, refl, sym, ap, subst, ◌∙◌, arith, Ordering, add-one}
use Rattle.std.proofs.Common.{append_assoc, length-append, append-nil, Some, None, is_some, slice_get, true≢false}
use Rattle.std.proofs.Common.{reverse, Option, MatchOption}
use Rattle.std.proofs.lemmas.List.{reverse-append}
use Rattle.std.proofs.lemmas.List.Elements.{All-cons, All-head, All-tail, All-nil}
use Rattle.row_spec.specs.Rows.{IsAscending}
use Rattle.row_spec.proofs.Ascending.{IsAscending-left, IsAscending-right}
use Rattle.shared_table.specs.Pieces.{AllBegin, AreParts, BeginsWith, rows_of}
use Rattle.shared_table.proofs.Parts.{Begins, rows_of-append}

-- of a list in reverse the last item comes first
pub popped : {X : Type 0} (x : X) (all left : List X) → all ≡ left ++ (x ∷ []) → reverse all ≡ x ∷ reverse left
popped x all left last = ap reverse last ∙ reverse-append left (x ∷ [])

-- where nothing comes from a list, it has nothing
pub none_left : {X : Type 0} (o : Option X) (n m : ℕ) (P : Type 0) → ((x : X) → o ≡ Some x → ⊥) → MatchOption o ((n ≡ 0) × (m ≡ 0)) (λ x. P) → n ≡ 0
none_left None n m P never both = both.0
none_left (Some x) n m P never both = absurd (never x refl)

-- what is left moves on by one
pub moved : {X : Type 0} (front xs ys zs all : List X) (x : X) → ys ≡ x ∷ zs → front ++ (xs ++ ys) ≡ all → front ++ ((xs ++ x ∷ []) ++ zs) ≡ all
moved front xs ys zs all x is whole = ap (λ r. front ++ r) (append_assoc xs (x ∷ []) zs ∙ ap (λ r. xs ++ r) (sym is)) ∙ whole

-- and where what is gathered goes to the front
pub begun_anew : {X : Type 0} (front xs ys zs all : List X) (x : X) → ys ≡ x ∷ zs → front ++ (xs ++ ys) ≡ all → (front ++ xs) ++ ((x ∷ []) ++ zs) ≡ all
begun_anew front xs ys zs all x is whole = append_assoc front xs (x ∷ zs) ∙ ap (λ r. front ++ (xs ++ r)) (sym is) ∙ whole

module _ {K V : Type 0} where
  pub first_row : (rows : List (K × V)) (row : K × V) → Some row ≡ slice_get rows 0 → BeginsWith row.0 rows
  first_row [] row is = absurd (let n = ap is_some is in true≢false n)
  first_row (r ∷ rows) row is = ap (λ o. elim o as (λ _. K) [ None ↦ row.0 | Some x ↦ x.0 ]) (sym is)

  -- of parts that all begin with their keys, those at the front and those behind them do
  pub begin-left : (xs ys : List (K × List (K × V))) → AllBegin (xs ++ ys) → AllBegin xs
  begin-left [] ys begin = All-nil Begins
  begin-left (x ∷ xs) ys begin = All-cons Begins x xs (All-head Begins x (xs ++ ys) begin) (begin-left xs ys (All-tail Begins x (xs ++ ys) begin))

  pub begin-right : (xs ys : List (K × List (K × V))) → AllBegin (xs ++ ys) → AllBegin ys
  begin-right [] ys begin = begin
  begin-right (x ∷ xs) ys begin = begin-right xs ys (All-tail Begins x (xs ++ ys) begin)

  module _ (cmp : K → K → Ordering) where
    -- the rows that are gathered ascend
    pub run_ascends : (front run rest all : List (K × V)) → front ++ (run ++ rest) ≡ all → IsAscending cmp all → IsAscending cmp run
    run_ascends front run rest all whole ascending = IsAscending-left cmp run rest
        (IsAscending-right cmp front (run ++ rest) (subst (IsAscending cmp) (sym whole) ascending))

    -- the pieces that are gathered are parts
    pub layer_parts : (front : List (K × V)) (group rest : List (K × List (K × V))) (all : List (K × V)) → front ++ rows_of (group ++ rest) ≡ all
        → IsAscending cmp all → AllBegin (group ++ rest) → AreParts cmp group
    layer_parts front group rest all whole ascending begin = record {
      ascending = IsAscending-left cmp (rows_of group) (rows_of rest) (subst (IsAscending cmp) (rows_of-append group rest)
          (IsAscending-right cmp front (rows_of (group ++ rest)) (subst (IsAscending cmp) (sym whole) ascending)));
      begin = begin-left group rest begin;
    }

  -- what is left moves on by one piece
  pub moved_parts : (front : List (K × V)) (xs ys zs : List (K × List (K × V))) (all : List (K × V)) (x : K × List (K × V)) → ys ≡ x ∷ zs
      → front ++ rows_of (xs ++ ys) ≡ all → front ++ rows_of ((xs ++ x ∷ []) ++ zs) ≡ all
  moved_parts front xs ys zs all x is whole =
      ap (λ parts. front ++ rows_of parts) (append_assoc xs (x ∷ []) zs ∙ ap (λ r. xs ++ r) (sym is)) ∙ whole

  pub moved_begin : (xs ys zs : List (K × List (K × V))) (x : K × List (K × V)) → ys ≡ x ∷ zs → AllBegin (xs ++ ys) → AllBegin ((xs ++ x ∷ []) ++ zs)
  moved_begin xs ys zs x is begin = subst AllBegin (ap (λ r. xs ++ r) is ∙ sym (append_assoc xs (x ∷ []) zs)) begin

  -- and where the pieces that are gathered go to the front
  pub begun_parts : (front : List (K × V)) (xs ys zs : List (K × List (K × V))) (all : List (K × V)) (x : K × List (K × V)) → ys ≡ x ∷ zs
      → front ++ rows_of (xs ++ ys) ≡ all → (front ++ rows_of xs) ++ rows_of ((x ∷ []) ++ zs) ≡ all
  begun_parts front xs ys zs all x is whole = append_assoc front (rows_of xs) (rows_of (x ∷ zs))
      ∙ ap (λ r. front ++ r) (sym (rows_of-append xs (x ∷ zs)) ∙ ap (λ r. rows_of (xs ++ r)) (sym is)) ∙ whole

  pub begun_begin : (xs ys zs : List (K × List (K × V))) (x : K × List (K × V)) → ys ≡ x ∷ zs → AllBegin (xs ++ ys) → AllBegin ((x ∷ []) ++ zs)
  begun_begin xs ys zs x is begin = subst AllBegin is (begin-right xs ys begin)

  -- one more part behind the others
  pub rows_of-push : (parts : List (K × List (K × V))) (part : K × List (K × V)) → rows_of (parts ++ part ∷ []) ≡ rows_of parts ++ part.1
  rows_of-push parts part = rows_of-append parts (part ∷ []) ∙ ap (λ r. rows_of parts ++ r) (append-nil part.1)

  -- the rows of one more part are counted
  counted_suc : (parts : List (K × List (K × V))) (i : ℕ) (part : K × List (K × V)) → i < length parts → part ≡ get_or parts i part
      → length (rows_of (take (suc i) parts)) ≡ length (rows_of (take i parts)) + length part.1
  counted_suc [] i part lt is = absurd (omega arith)
  counted_suc (p ∷ parts) zero part lt is = ap (λ q. length (q.1 ++ [])) (sym is) ∙ omega (arith, length-append part.1 [])
  counted_suc (p ∷ parts) (suc i) part lt is =
      let rest = counted_suc parts i part (omega arith) is in
      omega (arith, rest, length-append p.1 (rows_of (take (suc i) parts)), length-append p.1 (rows_of (take i parts)))

  pub counted_more : (parts : List (K × List (K × V))) (i : ℕ) (part : K × List (K × V)) → i < length parts → part ≡ get_or parts i part
      → length (rows_of (take (i + 1) parts)) ≡ length (rows_of (take i parts)) + length part.1
  counted_more parts i part lt is = rw (add-one i) (counted_suc parts i part lt is)
