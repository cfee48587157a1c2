use Rattle.book_journal.proofs.DiskReads.{nothing_more, nothing_yet}
use Rattle.book_journal.proofs.reading.read_disk.Goals as goal

pub returns-in_err-sync-clause-moments : goal.returns-in_err-sync-clause-moments
returns-in_err-sync-clause-moments g c =
    let none = nothing_yet g.D.Disk.images g.D.Disk.moment g.D.Disk.left_since c.args.disk.now (g.met.D.Disk.only_now c.args.disk.now) in
    let synced = nothing_more g.D.Disk.images g.D.Disk.moment g.D.Disk.left_since c.args.disk.now c.args.disk.now c.sync.new.self none c.sync.ensures.crash
    c.sync.ensures.time in
    synced.moments

pub returns-in_err-length-clause-moments : goal.returns-in_err-length-clause-moments
returns-in_err-length-clause-moments g c =
    let none = nothing_yet g.D.Disk.images g.D.Disk.moment g.D.Disk.left_since c.args.disk.now (g.met.D.Disk.only_now c.args.disk.now) in
    let synced = nothing_more g.D.Disk.images g.D.Disk.moment g.D.Disk.left_since c.args.disk.now c.args.disk.now c.sync.new.self none c.sync.ensures.crash
    c.sync.ensures.time in
    let measured = nothing_more g.D.Disk.images g.D.Disk.moment g.D.Disk.left_since c.args.disk.now c.sync.new.self c.length.new.self synced
    c.length.ensures.images.no_more c.length.ensures.time in
    measured.moments
