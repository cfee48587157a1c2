-- The parts of a report, one more at a time.
use Rattle.std.proofs.Common.{◌≡◌, ℕ, zero, suc, ◌+◌, ◌<◌, List, [], ◌∷◌, ◌++◌, length, take, All, Option, Some, None, sym, ap, ◌∙◌, subst, arith}
use Rattle.std.proofs.Common.{append_assoc, append-nil}
use Rattle.std.specs.Prelude.{IfSome, codes, slice_index_or}
use Rattle.std.specs.Fmt.{decimal}
use Rattle.std.specs.List.{cons_option, enumerate_from, flat_map}
use Rattle.std.proofs.lemmas.List.{length-take-le, take_more}
use Rattle.std.proofs.lemmas.List.Elements.{All-head, All-tail}
use Rattle.edit_sets.specs.FormFault.{GuardedEdits}
use Rattle.text_spec.specs.Lines.{line}
use Rattle.commit_book.specs.Books.{HaveLines, accepted_in, accepted_sets}
use Rattle.history_spec.specs.declared.entry.Entry.{Entry}
use Rattle.history_spec.specs.EntriesReport.{session_part}

of_first : (o : Option GuardedEdits) (rest : List GuardedEdits) → All HaveLines (cons_option o rest) → IfSome o HaveLines
of_first None rest all = tt
of_first (Some set) rest all = All-head HaveLines set rest all

of_rest : (o : Option GuardedEdits) (rest : List GuardedEdits) → All HaveLines (cons_option o rest) → All HaveLines rest
of_rest None rest all = all
of_rest (Some set) rest all = All-tail HaveLines set rest all

-- where all accepted sets have lines, so has that of each entry
pub lines_at : (entries : List Entry) (k : ℕ) (e : Entry) → k < length entries → e ≡ slice_index_or entries k e
    → All HaveLines (accepted_sets entries) → IfSome (accepted_in e) HaveLines
lines_at [] k e within is all = absurd (omega (arith, within))
lines_at (x ∷ entries) zero e within is all = subst (λ y. IfSome (accepted_in y) HaveLines) (sym is) (of_first (accepted_in x) (accepted_sets entries) all)
lines_at (x ∷ entries) (suc k) e within is all = lines_at entries k e (omega (arith, within)) is (of_rest (accepted_in x) (accepted_sets entries) all)

-- ---- sessions
parts_append : (n : ℕ) (xs : List (List ℕ)) (y : List ℕ) → flat_map session_part (enumerate_from n (xs ++ y ∷ [])) ≡ flat_map session_part
    (enumerate_from n xs) ++ session_part (n + length xs, y)
parts_append n [] y = append-nil (session_part (n, y)) ∙ (let same : n ≡ n + 0 = omega arith in ap (λ k. session_part (k, y)) same)
parts_append n (x ∷ xs) y =
    ap (λ (text : List ℕ). session_part (n, x) ++ text) (parts_append (n + 1) xs y)
    ∙ sym (append_assoc (session_part (n, x)) (flat_map session_part (enumerate_from (n + 1) xs)) (session_part (n + 1 + length xs, y)))
    ∙ (let same : n + 1 + length xs ≡ n + suc (length xs) = omega arith in
    ap (λ k. flat_map session_part (enumerate_from n (x ∷ xs)) ++ session_part (k, y)) same)

-- the part of one session more
pub one_session : (start before head whole : List ℕ) (number k : ℕ) (lines text : List ℕ) (texts : List (List ℕ)) → k < length texts
    → text ≡ slice_index_or texts k text
    → before ≡ start ++ flat_map session_part (enumerate_from 1 (take k texts)) → number ≡ k + 1
    → head ≡ before ++ line (codes "session") (decimal number ∷ []) → lines ≡ text → whole ≡ head ++ lines
    → whole ≡ start ++ flat_map session_part (enumerate_from 1 (take (k + 1) texts))
one_session start before head whole number k lines text texts within is is_before is_number is_head is_lines is_whole =
    let done = flat_map session_part (enumerate_from 1 (take k texts)) in
    let count = length-take-le k texts (omega (arith, within)) in
    let place : number ≡ 1 + length (take k texts) = omega (arith, is_number, count) in
    is_whole
    ∙ (λ i. is_head i ++ is_lines i)
    ∙ append_assoc before (line (codes "session") (decimal number ∷ [])) text
    ∙ (λ i. is_before i ++ session_part (place i, text))
    ∙ append_assoc start done (session_part (1 + length (take k texts), text))
    ∙ ap (λ (parts : List ℕ). start ++ parts) (sym (parts_append 1 (take k texts) text)
    ∙ ap (λ (l : List (List ℕ)). flat_map session_part (enumerate_from 1 l))
    (ap (λ t. take k texts ++ t ∷ []) is ∙ sym (take_more texts k text within)))
