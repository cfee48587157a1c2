use Rattle.std.proofs.Common.{◌≡◌, ◌-◌, ◌≤◌, length, map}
use Rattle.history_spec.specs.Steps.{newer_answer}
use Rattle.commit_book.specs.Books.{commit_of}
use Rattle.commit_book.proofs.newer.newer_answer.Given as goal

-- the answer is that from the place on
abbrev pub invariant-loop-commit : goal.invariant-loop-commit
invariant-loop-commit l = record {
  answer : newer_answer (map commit_of l.accepted) l.place l.set.edits l.set.guards ≡ newer_answer (map commit_of l.accepted) l.base l.set.edits l.set.guards;
  within : l.place ≤ length l.accepted;
}

abbrev pub decreases-loop-commit : goal.decreases-loop-commit
decreases-loop-commit l = length l.accepted - l.place
