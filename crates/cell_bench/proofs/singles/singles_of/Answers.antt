use Rattle.std.proofs.Common.{sym, ◌∙◌}
use Rattle.cell_spec.proofs.SubjectOrder.{exact_subjects}
use Rattle.cell_bench.proofs.singles.singles_of.Goals as goal

pub distinct_by_keys-requires : goal.distinct_by_keys-requires
distinct_by_keys-requires c = record { exact = λ a b e. exact_subjects a b (sym (c.orders_are_by_parts.ensures.subjects a b) ∙ e) }
