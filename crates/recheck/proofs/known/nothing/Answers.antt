use Rattle.std.proofs.Common.{subst, sym}
use Rattle.std.specs.Prelude.{None}
use Rattle.std.proofs.lemmas.List.{get_or-replicate}
use Rattle.recheck.specs.Known.{IsFound}
use Rattle.recheck.proofs.known.nothing.Goals as goal

pub returns : goal.returns
returns c = λ cell place other within. subst (IsFound cell) (sym (get_or-replicate 128 place None other within)) tt
