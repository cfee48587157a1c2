use Rattle.affected_subjects.proofs.Tiles.{changed_tiles}
use Rattle.affected_subjects.proofs.law.changes_give_the_tiles.Goals as goal

pub returns : goal.returns
returns c =
    changed_tiles c.affected_subjects_are_considered.ensures c.unaffected_records_keep_segments.ensures c.readers_are_listed.ensures
    c.changes_set_their_names.ensures
