use Rattle.std.proofs.Common.{take}
use Rattle.commit_book.specs.CommitPlaces.{IsFirstPlace}
use Rattle.commit_book.proofs.commit_places.CommitPlaces.first_place.Given as goal

abbrev pub invariant-loop-name : goal.invariant-loop-name
invariant-loop-name l = IsFirstPlace l.self (take l.name-index l.names) l.from l.to l.first
