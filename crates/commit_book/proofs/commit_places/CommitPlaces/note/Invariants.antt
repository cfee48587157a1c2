use Rattle.std.proofs.Common.{◌≡◌, take, true}
use Rattle.std.specs.List.{list_any}
use Rattle.s57_types.specs.declared.name.RecName.{RecName}
use Rattle.cell_spec.specs.Names.{same_name}
use Rattle.commit_book.specs.CommitPlaces.{AreKept, has_place}
use Rattle.commit_book.proofs.commit_places.CommitPlaces.note.Given as goal

abbrev pub invariant-loop-name : goal.invariant-loop-name
invariant-loop-name l = record {
  kept : AreKept l.initial.self l.self;
  noted : (n : RecName) → list_any (λ name. same_name n name) (take l.name-index l.names) ≡ true → has_place l.self n l.place ≡ true;
}
