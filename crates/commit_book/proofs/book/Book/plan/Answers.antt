use Rattle.std.proofs.Common.{arith}
use Rattle.commit_book.proofs.LookUps.{edits_within}
use Rattle.commit_book.proofs.book.Book.plan.Goals as goal

-- what was built ahead takes no look-up
pub returns-in-Some-clause-left : goal.returns-in-Some-clause-left
returns-in-Some-clause-left g c =
    let within = edits_within c.args.self.now c.args.prepared.now c.requires.alone in
    omega (arith, within)
