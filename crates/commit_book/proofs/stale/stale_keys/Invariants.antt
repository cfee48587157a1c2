use Rattle.std.proofs.Common.{◌≡◌, flat_map, take}
use Rattle.commit_book.specs.Books.{touched_in}
use Rattle.commit_book.proofs.stale.stale_keys.Given as goal

abbrev pub invariant-loop-commit : goal.invariant-loop-commit
invariant-loop-commit l = l.keys.items ≡ flat_map touched_in (take l.commit-index l.newer)
