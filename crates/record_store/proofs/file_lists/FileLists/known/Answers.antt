use Rattle.std.specs.Ordering.{nat_cmp}
use Rattle.s57_types.specs.declared.name.Kind.{Kind}
use Rattle.s57_types.specs.declared.name.Kind.TheVariants.{Vi, Vc, Ve, Fe, Head}
use Rattle.row_spec.specs.Rows.{IsAscending}
use Rattle.row_spec.proofs.Ascending.{IsAscending-empty}
use Rattle.s57_types.specs.declared.record.Rec.{Rec}
use Rattle.record_store.specs.Lists.{rows_of}
use Rattle.record_store.specs.declared.file_lists.FileLists.{FileLists}
use Rattle.record_store.proofs.file_lists.FileLists.known.Goals as goal

each_ascends : (lists : FileLists) → IsAscending nat_cmp lists.vi → IsAscending nat_cmp lists.vc → IsAscending nat_cmp lists.ve → IsAscending nat_cmp lists.fe
    → (k : Kind) → IsAscending nat_cmp (rows_of k lists)
each_ascends lists vi vc ve fe Vi = vi
each_ascends lists vi vc ve fe Vc = vc
each_ascends lists vi vc ve fe Ve = ve
each_ascends lists vi vc ve fe Fe = fe
each_ascends lists vi vc ve fe Head = IsAscending-empty Rec nat_cmp

pub returns : goal.returns
returns c =
    each_ascends c.args.self.now c.len-vi.ensures.ascending c.len-vc.ensures.ascending c.len-ve.ensures.ascending c.len-fe.ensures.ascending
