use Rattle.std.proofs.Common.{sym, ap, ◌∙◌, subst}
use Rattle.cell_spec.specs.Names.{subject_order}
use Rattle.row_spec.specs.Rows.{IsAscending}
use Rattle.finding_laws.specs.Tables.{IsReadsOf}
use Rattle.depend_map.specs.Changes.{kept_of}
use Rattle.cell_bench.proofs.SingleReads.{singles_ascend, singles_read}
use Rattle.cell_bench.proofs.load.readers_of.Goals as goal

pub from_rows-requires : goal.from_rows-requires
from_rows-requires c = subst (IsAscending subject_order) (sym c.requires) (singles_ascend c.args.store.now c.known.ensures)

pub returns : goal.returns
returns c = subst (IsReadsOf c.args.store.now) (sym (c.in_ok-map.ensures ∙ ap kept_of c.requires)) (singles_read c.args.store.now c.known.ensures)
