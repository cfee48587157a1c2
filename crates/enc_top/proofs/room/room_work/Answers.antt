use Rattle.std.proofs.Common.{ℕ, ◌<◌, ◌^◌, List, Vec, length, ap, subst, arith}
use Rattle.std.specs.declared.alloc.Global.{Global}
use Rattle.std.specs.Prelude.{count_by}
use Rattle.std.proofs.lemmas.List.{length-map}
use Rattle.s57_types.specs.declared.cell.Cell.{Cell}
use Rattle.text_spec.specs.ScriptLines.{is_shared}
use Rattle.history_spec.specs.Entries.{order_of_entries}
use Rattle.room_laws.specs.Orders.{quotas_of}
use Rattle.commit_book.specs.Books.{BookState}
use Rattle.room_run.specs.Rooms.{IsHeld}
use Rattle.call_files.specs.Task.{task_of}
use Rattle.enc_top.proofs.Reports.{IsMadeOf, held_task, run_in_room}
use Rattle.enc_top.proofs.room.room_work.Goals as goal

pub returns-clause-run : goal.returns-clause-run
returns-clause-run g c =
    let bench = c.args.bench in
    let scripts = c.args.scripts.items in
    let held = c.in_ok-held.held in
    let entries = held.book.entries in
    let is : IsHeld bench scripts held = subst (λ (cell : Cell). IsHeld cell scripts held) c.in_ok-room.ensures.opening c.in_ok-held.ensures.held in
    let few : length (quotas_of scripts) < 2 ^ 32 = (let many = length-map scripts (count_by is_shared) in let limit = c.requires.few in
    omega (arith, many, limit)) in
    let out = c.args.out.now in
    let work = c.in_ok-work_of.field-0 in
    let texts = ap (λ (v : Vec (List ℕ) Global). v.items) c.into_parts-book.ensures.transcripts in
    let made : IsMadeOf work out held.book held.transcripts.items = subst (λ (book : BookState). IsMadeOf work out book held.transcripts.items)
    c.into_parts-book.ensures.book (subst (IsMadeOf work out c.into_parts-book.result.0) texts c.in_ok-work_of.ensures) in
    let order = c.entries_are_in_order.ensures.order bench scripts entries is.entries in
    run_in_room bench out scripts (order_of_entries entries) (task_of work) c.order_lines_are_read.ensures.first few
    order (held_task bench out scripts held work is made)
    (c.runs_take_their_course.ensures bench scripts (order_of_entries entries) order)
    (c.exports_are_read_back.ensures c.requires.of_file.0 bench scripts (order_of_entries entries) c.requires.of_file.1 c.requires.of_file.2
    c.requires.of_texts)
