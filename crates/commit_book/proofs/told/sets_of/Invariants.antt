use Rattle.std.proofs.Common.{◌≡◌, map, take}
use Rattle.commit_book.specs.Books.{set_in}
use Rattle.commit_book.proofs.told.sets_of.Given as goal

abbrev pub invariant-loop-commit : goal.invariant-loop-commit
invariant-loop-commit l = l.sets.items ≡ map set_in (take l.commit-index l.newer)
