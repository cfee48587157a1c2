use Rattle.workroom.proofs.Moves.{can_commit}
use Rattle.workroom.proofs.room.Workroom.commit.Goals as goal

pub ask-requires-clause-ask : goal.ask-requires-clause-ask
ask-requires-clause-ask g c =
    can_commit c.args.desk.now c.args.prepared c.known.ensures.base c.known.ensures.cell c.known.ensures.level c.requires.base c.requires.level
    c.requires.rows c.requires.ahead
