use Rattle.std.proofs.Common.{Some, refl, subst, sym}
use Rattle.std.proofs.lemmas.Result.{err_from_is_err_and}
use Rattle.cell_spec.specs.Writable.{IsWritable}
use Rattle.keep_run.specs.Words.{keep_form}
use Rattle.keep_run.proofs.Answers.{cell_ends, given_of, kept_meanwhile, not_asked, script_ends, session_asked, untouched_by}
use Rattle.keep_run.proofs.Told.{no_disk_fault, work_told}
use Rattle.keep_run.proofs.top.kept_work.Goals as goal

pub returns-in_err-checked-clause-asked : goal.returns-in_err-checked-clause-asked
returns-in_err-checked-clause-asked g c =
    let disk = c.args.disk.now in
    let refused = err_from_is_err_and c.from_residual.result c.from_residual.ensures.1 in
    rw (refused.1, refused.2) (cell_ends (keep_form c.args.cell.now c.args.out.now c.args.script.now) (g.H.Shelf.files c.args.shelf.now)
    (g.H.Shelf.read_faults c.args.shelf.now) (g.D.Disk.content disk) (g.D.Disk.content disk) (g.D.Disk.faults disk) (g.D.Disk.faults disk)
    (g.D.Disk.images disk) (g.H.Shelf.read_faults c.read_cell.new.shelf) c.in_err-checked.field-0.0 c.in_err-checked.ensures.status
    c.in_err-checked.ensures.kind c.in_err-checked.ensures.tells)

pub returns-in_err-checked-clause-moments : goal.returns-in_err-checked-clause-moments
returns-in_err-checked-clause-moments g c =
    not_asked g.D.Disk.moment g.D.Disk.left_since g.D.Disk.images (Some (keep_form c.args.cell.now c.args.out.now c.args.script.now))
    (g.H.Shelf.files c.args.shelf.now) (g.D.Disk.content c.args.disk.now) c.args.disk.now (g.met.D.Disk.only_now c.args.disk.now)

pub returns-in_err-script-clause-asked : goal.returns-in_err-script-clause-asked
returns-in_err-script-clause-asked g c =
    let disk = c.args.disk.now in
    let refused = err_from_is_err_and c.from_residual-in_err-script.result c.from_residual-in_err-script.ensures.1 in
    rw (refused.1, refused.2) (script_ends (keep_form c.args.cell.now c.args.out.now c.args.script.now) (g.H.Shelf.files c.args.shelf.now)
    (g.H.Shelf.read_faults c.args.shelf.now) (g.D.Disk.content disk) (g.D.Disk.content disk) (g.D.Disk.faults disk) (g.D.Disk.faults disk)
    (g.D.Disk.images disk) c.in_ok-checked.checked.cell c.in_ok-checked.ensures.tells (g.H.Shelf.files c.read_cell.new.shelf)
    (g.H.Shelf.read_faults c.read_cell.new.shelf) (g.H.Shelf.read_faults c.script_in_file.new.shelf) c.in_err-script.field-0.0
    c.in_ok-checked.ensures.files c.in_ok-checked.ensures.read_faults c.in_err-script.ensures.status c.in_err-script.ensures.kind c.in_err-script.ensures.tells)

pub returns-in_err-script-clause-moments : goal.returns-in_err-script-clause-moments
returns-in_err-script-clause-moments g c =
    not_asked g.D.Disk.moment g.D.Disk.left_since g.D.Disk.images (Some (keep_form c.args.cell.now c.args.out.now c.args.script.now))
    (g.H.Shelf.files c.args.shelf.now) (g.D.Disk.content c.args.disk.now) c.args.disk.now (g.met.D.Disk.only_now c.args.disk.now)

pub keep-requires-clause-writable : goal.keep-requires-clause-writable
keep-requires-clause-writable g c κs within =
    let of_file = c.in_ok-checked.ensures.of_file in
    subst IsWritable (sym c.into_cell.ensures) (c.decoded_cell_is_writable.ensures of_file.0 c.in_ok-checked.checked.cell of_file.2)

pub returns-clause-asked : goal.returns-clause-asked
returns-clause-asked g c =
    let form = keep_form c.args.cell.now c.args.out.now c.args.script.now in
    let disk = c.args.disk.now in
    let new = c.keep.new.disk in
    session_asked form (g.H.Shelf.files c.args.shelf.now) (g.H.Shelf.read_faults c.args.shelf.now) (g.D.Disk.content disk) (g.D.Disk.content new)
    (g.D.Disk.faults disk) (g.D.Disk.faults new) (g.D.Disk.images new) c.into_cell.result c.in_ok-script.script
    (given_of form _ _ _ _ c.in_ok-script.script c.into_cell.ensures c.in_ok-checked.ensures.files c.in_ok-checked.ensures.tells
    c.in_ok-script.ensures.tells)
    (g.H.Shelf.read_faults c.script_in_file.new.shelf) c.keep.result c.work_of.result c.keep.ensures.ok c.keep.ensures.err c.work_of.ensures

pub returns-clause-moments : goal.returns-clause-moments
returns-clause-moments g c =
    let form = keep_form c.args.cell.now c.args.out.now c.args.script.now in
    kept_meanwhile g.D.Disk.moment g.D.Disk.left_since g.D.Disk.images form (g.H.Shelf.files c.args.shelf.now) (g.D.Disk.content c.args.disk.now)
    c.args.disk.now c.keep.new.disk c.into_cell.result c.in_ok-script.script
    (given_of form _ _ _ _ c.in_ok-script.script c.into_cell.ensures c.in_ok-checked.ensures.files c.in_ok-checked.ensures.tells
    c.in_ok-script.ensures.tells) c.keep.ensures.moments

pub returns-clause-untouched : goal.returns-clause-untouched
returns-clause-untouched g c =
    untouched_by c.args.disk.now c.keep.new.disk c.into_cell.result (g.D.Disk.content c.args.disk.now) (g.D.Disk.content c.keep.new.disk)
    (g.D.Disk.faults c.args.disk.now) (g.D.Disk.faults c.keep.new.disk) c.args.out.now c.keep.result c.work_of.result c.keep.ensures.err c.work_of.ensures

pub returns-in_err-checked-clause-told_disk : goal.returns-in_err-checked-clause-told_disk
returns-in_err-checked-clause-told_disk g c =
    let refused = err_from_is_err_and c.from_residual.result c.from_residual.ensures.1 in
    rw (refused.1, refused.2) (no_disk_fault _ _ c.in_err-checked.field-0.0 refl)

pub returns-in_err-script-clause-told_disk : goal.returns-in_err-script-clause-told_disk
returns-in_err-script-clause-told_disk g c =
    let refused = err_from_is_err_and c.from_residual-in_err-script.result c.from_residual-in_err-script.ensures.1 in
    rw (refused.1, refused.2) (no_disk_fault _ _ c.in_err-script.field-0.0 refl)

pub returns-clause-told_disk : goal.returns-clause-told_disk
returns-clause-told_disk g c =
    work_told (g.D.Disk.faults c.args.disk.now) (g.D.Disk.faults c.keep.new.disk) c.args.out.now c.keep.result c.work_of.result c.keep.ensures.told_disk
    c.work_of.ensures
