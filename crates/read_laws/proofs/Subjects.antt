-- The findings about each subject follow its read set.
use Rattle.std.specs.List.{AllByRecursion}
use Rattle.s57_types.specs.declared.cell.Cell.{Cell}
use Rattle.cell_spec.specs.declared.key.Subject.{Subject}
use Rattle.cell_spec.specs.declared.key.Subject.TheVariants.{Rec, Side, Pair, Ident}
use Rattle.rule_spec.specs.Reads.{keys_read, read_set}
use Rattle.cell_spec.specs.AnswersAlike.{AnswerAlike}
use Rattle.read_laws.specs.FindingsFollowReads.{AreSameAbout, FindingsFollowReads}
use Rattle.read_laws.proofs.Keys.{each_key_read}
use Rattle.read_laws.proofs.Records.{same_about_record}
use Rattle.read_laws.proofs.Pairs.{same_about_pair}
use Rattle.read_laws.proofs.Sides.{same_about_side, same_about_identity}

same_about : (c d : Cell) (s : Subject) → AllByRecursion (AnswerAlike c d) (keys_read c s) → AreSameAbout c d s
same_about c d (Rec n) all = same_about_record c d n all
same_about c d (Side n) all = same_about_side c d n all
same_about c d (Pair a b) all = same_about_pair c d a b all
same_about c d (Ident l) all = same_about_identity c d l all

pub findings_follow_reads : FindingsFollowReads
unfolding read_set
findings_follow_reads s c d all = same_about c d s (each_key_read (AnswerAlike c d) (keys_read c s) all)
