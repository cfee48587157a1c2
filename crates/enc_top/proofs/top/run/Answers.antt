use Rattle.std.proofs.Common.{map, string_bytes}
use Rattle.call_files.specs.Outside.{outside}
use Rattle.enc_top.specs.Words.{form_of}
use Rattle.enc_top.proofs.Causes.{with_sticks}
use Rattle.enc_top.proofs.top.run.Goals as goal

pub returns-clause-cause : goal.returns-clause-cause
returns-clause-cause g c =
    let files = g.H.Shelf.files in
    let read_faults = g.H.Shelf.read_faults in
    let write_faults = g.H.Shelf.write_faults in
    let old = c.args.shelf.now in
    let new = c.run_plain.new.shelf in
    let before = outside (files old) (read_faults old) (write_faults old) (g.O.Sink.written c.args.out.now) (g.O.Sink.faults c.args.out.now) in
    let after = outside (files new) (read_faults new) (write_faults new) (g.O.Sink.written c.run_plain.new.out) (g.O.Sink.faults c.run_plain.new.out) in
    with_sticks (g.M.Meet.sticks c.args.meet.now) (form_of (map string_bytes c.args.words.now)) before after c.run_plain.result c.run_plain.ensures.cause

pub returns-clause-exact : goal.returns-clause-exact
returns-clause-exact g c = λ files smooth calm. c.run_plain.ensures.exact files smooth (λ x. x)

pub returns-clause-complete : goal.returns-clause-complete
returns-clause-complete g c = λ files smooth calm good. c.run_plain.ensures.complete files smooth (λ x. x) good
