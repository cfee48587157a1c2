use Rattle.std.proofs.Common.{◌≡◌, ℕ, List, Option, Global, Ok, Err, subst}
use Rattle.std.specs.Prelude.{IfSome, Vec}
use Rattle.std.proofs.lemmas.Result.{err_from_is_err_and}
use Rattle.enc_outside.specs.Files.{Files}
use Rattle.call_files.specs.Inputs.{FileIs, IsFile, Tells, cell_limit}
use Rattle.enc_top.proofs.UpdateWork.{cell_ends, file_ends, update_done, update_ends}
use Rattle.enc_top.proofs.update.apply_file.Goals as goal

-- what the update's file gave, told of the files as they were before the cell was read
given_of : (update bytes : List ℕ) (old read : Option Files) → read ≡ old → IfSome read (λ fs. FileIs cell_limit update fs (Ok bytes))
    → IfSome old (λ fs. FileIs cell_limit update fs (Ok bytes))
given_of update bytes old read same given = subst (λ (told : Option Files). IfSome told (λ fs. FileIs cell_limit update fs (Ok bytes))) same given

pub returns-in_err-bench-clause-asked : goal.returns-in_err-bench-clause-asked
returns-in_err-bench-clause-asked g c =
    let refused = err_from_is_err_and c.from_residual.result c.from_residual.ensures.1 in
    rw (refused.1, refused.2) (cell_ends c.args.cell.now c.args.out.now c.args.update.now (g.H.Shelf.files c.args.shelf.now)
    (g.H.Shelf.read_faults c.args.shelf.now) (g.H.Shelf.read_faults c.read_bench.new.shelf) c.in_err-bench.field-0.0
    c.in_err-bench.ensures.text c.in_err-bench.ensures.status c.in_err-bench.ensures.tells)

pub returns-in_err-bytes-clause-asked : goal.returns-in_err-bytes-clause-asked
returns-in_err-bytes-clause-asked g c =
    let faults = g.H.Shelf.read_faults in
    let update = c.args.update.now in
    let mid = faults c.read_bench.new.shelf in
    let after = faults c.read_update.new.shelf in
    let status = c.in_err-bytes.field-0.0 in
    let tells = subst (λ fs. Tells (λ (bytes : Vec ℕ Global). bytes.items) (FileIs cell_limit update) (IsFile update) fs mid after (Err status))
    c.in_ok-bench.ensures.files c.in_err-bytes.ensures.tells in
    let refused = err_from_is_err_and c.from_residual-in_err-bytes.result c.from_residual-in_err-bytes.ensures.1 in
    rw (refused.1, refused.2) (file_ends c.args.cell.now c.args.out.now update (g.H.Shelf.files c.args.shelf.now) (faults c.args.shelf.now)
    c.in_ok-bench.bench c.in_ok-bench.ensures.tells (λ (bytes : Vec ℕ Global). bytes.items) mid after status c.in_ok-bench.ensures.read_faults
    c.in_err-bytes.ensures.text c.in_err-bytes.ensures.status tells)

pub returns-in_err-left-clause-asked : goal.returns-in_err-left-clause-asked
returns-in_err-left-clause-asked g c =
    let bytes = c.in_ok-bytes.bytes.items in
    let refused = err_from_is_err_and c.from_residual-in_err-left.result c.from_residual-in_err-left.ensures.1 in
    rw (refused.1, refused.2) (update_ends c.args.cell.now c.args.out.now c.args.update.now (g.H.Shelf.files c.args.shelf.now)
    (g.H.Shelf.read_faults c.args.shelf.now) c.in_ok-bench.bench c.in_ok-bench.ensures.tells bytes
    (given_of c.args.update.now bytes _ _ c.in_ok-bench.ensures.files c.in_ok-bytes.ensures.tells)
    (g.H.Shelf.read_faults c.read_update.new.shelf) c.in_err-left.field-0.0 c.in_err-left.ensures.judged c.in_err-left.ensures.ends)

pub returns-clause-asked : goal.returns-clause-asked
returns-clause-asked g c =
    let bytes = c.in_ok-bytes.bytes.items in
    update_done c.args.cell.now c.args.out.now c.args.update.now (g.H.Shelf.files c.args.shelf.now) (g.H.Shelf.read_faults c.args.shelf.now)
    c.in_ok-bench.bench c.in_ok-bench.ensures.tells bytes
    (given_of c.args.update.now bytes _ _ c.in_ok-bench.ensures.files c.in_ok-bytes.ensures.tells)
    (g.H.Shelf.read_faults c.read_update.new.shelf) c.in_ok-left.left c.in_ok-left_work.field-0 c.in_ok-left.ensures.judged c.in_ok-left.ensures.made
    c.in_ok-left_work.ensures.read_back c.in_ok-left_work.ensures.task
