use Rattle.room_laws.proofs.Parts.{commit_parts}
use Rattle.room_laws.proofs.law.entries_tell_the_accepted_commits.Goals as goal

pub returns : goal.returns
returns c cell entries told = commit_parts cell entries told
