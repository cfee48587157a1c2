use Rattle.std.proofs.Common.{◌≡◌, None, IfSome, true}
use Rattle.std.proofs.lemmas.List.Elements.{All-replicate}
use Rattle.subject_rows.specs.Names.{is_among}
use Rattle.subject_rows.proofs.names.KnownNames.none.Goals as goal

pub returns : goal.returns
returns c = λ names. All-replicate (λ place. IfSome place (λ n. is_among names n ≡ true)) 64 None tt
