use Rattle.std.proofs.Common.{◌∙◌, subst, sym}
use Rattle.std.specs.List.Sorted.{IsStrictlySortedBy}
use Rattle.std.proofs.lemmas.List.Kept.{IsStrictlySortedBy-filter}
use Rattle.cell_spec.specs.Names.{name_order}
use Rattle.cell_findings.specs.Judged.{is_part_name}
use Rattle.cell_findings.proofs.search.Search.push_pairs_and_identities.Goals as goal

pub push_pairs-requires-clause-ascending : goal.push_pairs-requires-clause-ascending
push_pairs-requires-clause-ascending g c =
    subst (IsStrictlySortedBy name_order) (sym (c.deref.ensures.value ∙ c.in_ok-parts.ensures))
    (IsStrictlySortedBy-filter name_order is_part_name c.args.names.now c.requires.ascending)
