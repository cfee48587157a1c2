use Rattle.std.proofs.Common.{take}
use Rattle.record_store.specs.Stores.{ArePut, names_after, refs_after}
use Rattle.record_store.proofs.answers.Answers.updated.Given as goal

abbrev pub invariant-loop-key : goal.invariant-loop-key
invariant-loop-key l =
    ArePut (take l.key-index l.keys) (refs_after l.edits.edits l.self.pointers) (names_after l.edits.edits l.self.bearers)
    l.self.pointers l.answers.pointers l.self.bearers l.answers.bearers
