-- Accepted commits behind a base, with their numbers and their edit sets.
use Rattle.std.proofs.Common.{◌≡◌, ℕ, zero, suc, ◌+◌, List, [], ◌∷◌, All, drop, length, map, refl, sym, ap, subst, ◌∙◌, arith}
use Rattle.std.specs.List.{enumerate_from}
use Rattle.std.proofs.lemmas.List.{drop-map, length-map}
use Rattle.std.proofs.lemmas.List.Elements.{All-map}
use Rattle.s57_types.specs.declared.cell.Cell.{Cell}
use Rattle.edit_sets.specs.FormFault.{GuardedEdits}
use Rattle.history_spec.specs.declared.entry.Entry.{Entry}
use Rattle.history_spec.specs.Entries.{replayed}
use Rattle.history_spec.specs.Steps.{AcceptedCommit}
use Rattle.commit_book.specs.declared.accepted.Accepted.{Accepted as Taken}
use Rattle.commit_book.specs.Books.{AreSetsOf, IsKept, accepted_sets, commit_of, set_in}

-- the items behind the first, with their numbers
pub numbered_behind : {X : Type 0} (b n : ℕ) (xs : List X) → enumerate_from (n + b) (drop b xs) ≡ drop b (enumerate_from n xs)
numbered_behind zero n xs = (let e : n + 0 ≡ n = omega arith in ap (λ k. enumerate_from k xs) e)
numbered_behind (suc b) n [] = refl
numbered_behind (suc b) n (x ∷ xs) = (let e : n + suc b ≡ n + 1 + b = omega arith in ap (λ k. enumerate_from k (drop b xs)) e) ∙ numbered_behind b (n + 1) xs

same_edits : (accepted : List Taken) → map (λ (set : GuardedEdits). set.edits) (map set_in accepted) ≡ map
    (λ (commit : AcceptedCommit). commit.edits) (map commit_of accepted)
same_edits [] = refl
same_edits (taken ∷ accepted) = ap (λ all. taken.set.edits ∷ all) (same_edits accepted)

-- what a book keeps of the edit sets of its commits
module _ (c : Cell) (entries : List Entry) (cell : Cell) (accepted : List Taken) (kept : IsKept c entries cell accepted) where
  pub sets_behind : (base : ℕ) → map set_in (drop base accepted) ≡ drop base (accepted_sets entries)
  sets_behind base = sym (drop-map set_in base accepted) ∙ ap (drop base) kept.sets_are

  pub as_many_sets : length (replayed c entries).commits ≡ length (accepted_sets entries)
  as_many_sets = sym (ap length kept.commits_are) ∙ length-map accepted commit_of ∙ sym (length-map accepted set_in) ∙ ap length kept.sets_are

  pub sets_of_commits : AreSetsOf c.head.nall (replayed c entries).commits (accepted_sets entries)
  sets_of_commits = record {
    edits = ap (map (λ (set : GuardedEdits). set.edits)) (sym kept.sets_are) ∙ same_edits accepted
        ∙ ap (map (λ (commit : AcceptedCommit). commit.edits)) kept.commits_are;
    levels = subst (All (λ (set : GuardedEdits). set.nall ≡ c.head.nall)) kept.sets_are
        (All-map (λ (set : GuardedEdits). set.nall ≡ c.head.nall) set_in accepted kept.levels);
  }
