use Rattle.sessions.proofs.Numbered.{replayed_all}
use Rattle.sessions.proofs.run.replay.Goals as goal

pub returns : goal.returns
returns g c =
    replayed_all c.args.book.opening (record { book = c.serve_all.new.book; transcripts = c.in_ok-transcripts.transcripts })
    c.args.scripts.items c.args.order.now c.in_ok-editors.editors.items c.serve_all.new.editors.items
    c.in_ok-editors.ensures.scripts c.in_ok-serve_all.ensures c.requires.order c.known.ensures.told c.in_ok-transcripts.ensures
