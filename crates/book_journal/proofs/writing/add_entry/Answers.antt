use Rattle.std.proofs.Common.{refl, arith}
use Rattle.book_journal.proofs.Adding.{mark_kept, mark_within, mark_written, marked_only, marked_told, part_kept, part_written}
use Rattle.book_journal.proofs.Told.{if_ok, if_some, on_ok}
use Rattle.book_journal.proofs.writing.add_entry.Goals as goal

-- the part begins behind the place where the list ends
pub write_at-requires-clause-within : goal.write_at-requires-clause-within
write_at-requires-clause-within g c = if_some _ _ (g.D.Disk.content c.args.disk.now) c.requires.standing (λ file told is. omega (arith, is.0))

pub write_at-requires-2-clause-within : goal.write_at-requires-2-clause-within
write_at-requires-2-clause-within g c =
    mark_within g.D.Disk.content g.D.Disk.images g.D.Disk.moment g.D.Disk.left_since c.args.end c.args.part.now c.args.disk.now c.requires.standing
    (g.met.D.Disk.only_now c.args.disk.now) c.write_at.new.self c.write_at.ensures.crash c.sync.new.self c.sync.ensures.crash
    c.in_ok-write_at.ensures.written c.write_at.ensures.told c.sync.ensures.same
    (g.D.Disk.content c.sync.new.self) refl (g.D.Disk.content c.args.disk.now) refl

-- what a crash leaves, call by call
pub returns-in_err-write_at-clause-moments : goal.returns-in_err-write_at-clause-moments
returns-in_err-write_at-clause-moments g c =
    part_written g.D.Disk.content g.D.Disk.images g.D.Disk.moment g.D.Disk.left_since c.args.end c.args.part.now c.args.disk.now
    c.requires.standing (g.met.D.Disk.only_now c.args.disk.now) c.write_at.new.self c.write_at.ensures.crash c.write_at.ensures.time

pub returns-in_err-sync-clause-moments : goal.returns-in_err-sync-clause-moments
returns-in_err-sync-clause-moments g c =
    part_kept g.D.Disk.content g.D.Disk.images g.D.Disk.moment g.D.Disk.left_since c.args.end c.args.part.now c.args.disk.now c.requires.standing
    (g.met.D.Disk.only_now c.args.disk.now) c.write_at.new.self c.write_at.ensures.crash c.sync.new.self c.sync.ensures.crash c.write_at.ensures.time
    c.sync.ensures.time

pub returns-in_err-write_at-2-clause-moments : goal.returns-in_err-write_at-2-clause-moments
returns-in_err-write_at-2-clause-moments g c =
    mark_written g.D.Disk.content g.D.Disk.images g.D.Disk.moment g.D.Disk.left_since c.args.end c.args.part.now c.args.disk.now
    c.requires.standing (g.met.D.Disk.only_now c.args.disk.now) c.write_at.new.self c.write_at.ensures.crash c.sync.new.self c.sync.ensures.crash
    c.in_ok-write_at.ensures.written c.write_at.ensures.told c.sync.ensures.same c.in_ok-sync.ensures.durable c.write_at-2.new.self
    c.write_at-2.ensures.crash c.write_at.ensures.time c.sync.ensures.time c.write_at-2.ensures.time

pub returns-clause-moments : goal.returns-clause-moments
returns-clause-moments g c =
    mark_kept g.D.Disk.content g.D.Disk.images g.D.Disk.moment g.D.Disk.left_since c.args.end c.args.part.now c.args.disk.now
    c.requires.standing (g.met.D.Disk.only_now c.args.disk.now) c.write_at.new.self c.write_at.ensures.crash c.sync.new.self c.sync.ensures.crash
    c.in_ok-write_at.ensures.written c.write_at.ensures.told c.sync.ensures.same c.in_ok-sync.ensures.durable c.write_at-2.new.self
    c.write_at-2.ensures.crash c.write_at.ensures.time c.sync.ensures.time c.write_at-2.ensures.time c.sync-2.new.self c.sync-2.ensures.crash
    c.sync-2.ensures.time

pub returns-clause-content : goal.returns-clause-content
returns-clause-content g c =
    if_ok c.sync-2.result (marked_told g.D.Disk.content g.D.Disk.images g.D.Disk.moment g.D.Disk.left_since c.args.end c.args.part.now
    c.args.disk.now c.requires.standing (g.met.D.Disk.only_now c.args.disk.now) c.write_at.new.self c.write_at.ensures.crash c.sync.new.self
    c.sync.ensures.crash c.in_ok-write_at.ensures.written c.write_at.ensures.told c.sync.ensures.same c.in_ok-sync.ensures.durable c.write_at-2.new.self
    c.write_at-2.ensures.crash c.in_ok-write_at-2.ensures.written c.write_at-2.ensures.told.1 c.sync-2.new.self c.sync-2.ensures.same)

pub returns-clause-kept : goal.returns-clause-kept
returns-clause-kept g c =
    on_ok c.sync-2.result c.sync-2.ensures.durable (λ only. marked_only g.D.Disk.content g.D.Disk.images g.D.Disk.moment g.D.Disk.left_since c.args.end
    c.args.part.now c.args.disk.now c.requires.standing (g.met.D.Disk.only_now c.args.disk.now) c.write_at.new.self c.write_at.ensures.crash c.sync.new.self
    c.sync.ensures.crash c.in_ok-write_at.ensures.written c.write_at.ensures.told c.sync.ensures.same c.in_ok-sync.ensures.durable c.write_at-2.new.self
    c.write_at-2.ensures.crash c.in_ok-write_at-2.ensures.written c.write_at-2.ensures.told.1 c.sync-2.new.self only)
