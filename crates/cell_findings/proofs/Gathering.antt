-- Findings gathered step by step: what a step leaves, and what its refusal says of all.
use Rattle.std.proofs.Common.{◌≡◌, ℕ, All, List, [], ◌∷◌, ◌++◌, length, map, append_assoc, length-append, ap, ◌∙◌, arith}
use Rattle.std.specs.Prelude.{Err, IfOk, MatchResult, Ok, Result}
use Rattle.std.proofs.lemmas.List.Elements.{All-cons, All-head, All-nil, All-tail}
use Rattle.rayon.proofs.ListFacts.{All-parts}
use Rattle.cell_findings.specs.declared.list.SubjectFinding.{SubjectFinding}
use Rattle.cell_findings.specs.declared.refusal.LoadRefusal.{LoadRefusal}
use Rattle.cell_findings.specs.declared.refusal.LoadRefusal.TheVariants.{FindingsFull, NoMemory}
use Rattle.cell_findings.specs.Gathered.{IsGathered, IsOver}

-- what was gathered, where it was
pub gathered_if : {X : Type 0} (r : Result X LoadRefusal) (limit : ℕ) (all found : List SubjectFinding)
    → MatchResult r (λ _. IsGathered limit all found) (IsOver limit all) → IfOk r (λ _. found ≡ all)
gathered_if (Ok x) limit all found is = is.same
gathered_if (Err refusal) limit all found over = tt

-- what is too much for a part is too much for all
pub over_more : (limit : ℕ) (before row rest all : List SubjectFinding) (refusal : LoadRefusal) → before ++ (row ++ rest) ≡ all
    → IsOver limit (before ++ row) refusal → IsOver limit all refusal
over_more limit before row rest all FindingsFull left over =
    let parts = ap (λ fs. length fs) (append_assoc before row rest ∙ left) in
    let sum = length-append (before ++ row) rest in
    omega (arith, parts, sum, over)
over_more limit before row rest all NoMemory left over = tt

pub all_before : {X : Type 0} (P : X → Type 0) (xs ys : List X) → All P (xs ++ ys) → All P xs
all_before P xs ys all = (All-parts P xs ys all).0

pub all_behind : {X : Type 0} (P : X → Type 0) (xs ys : List X) → All P (xs ++ ys) → All P ys
all_behind P xs ys all = (All-parts P xs ys all).1

pub all_of_map : {X Y : Type 0} (P : Y → Type 0) (f : X → Y) (xs : List X) → All P (map f xs) → All (λ x. P (f x)) xs
all_of_map P f [] all = All-nil (λ x. P (f x))
all_of_map P f (x ∷ xs) all = All-cons (λ x. P (f x)) x xs (All-head P (f x) (map f xs) all) (all_of_map P f xs (All-tail P (f x) (map f xs) all))
