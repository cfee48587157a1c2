use Rattle.std.proofs.Common.{◌≡◌, ◌||◌, List, sym, ap, ◌∙◌}
use Rattle.std.specs.List.{flat_map}
use Rattle.s57_types.specs.declared.name.RecName.{RecName}
use Rattle.cell_spec.specs.Ascending.{ascending}
use Rattle.cell_spec.specs.Names.{name_order}
use Rattle.cell_spec.proofs.Ascending.{holds-ascending, same_when_sorted, sorted-ascending}
use Rattle.cell_spec.proofs.Orders.{exact_names, total_names}
use Rattle.subject_rows.specs.Names.{is_among, names_of_pair}
use Rattle.subject_rows.proofs.PartNames.{names_are_chained}
use Rattle.subject_rows.proofs.names.part_names.Goals as goal

-- names put in order depend on which there are alone
same : (names others : List RecName) → ((n : RecName) → is_among names n ≡ is_among others n) → ascending name_order names ≡ ascending name_order others
same names others alike =
    same_when_sorted name_order total_names exact_names (ascending name_order names) (ascending name_order others)
    (sorted-ascending name_order total_names names) (sorted-ascending name_order total_names others)
    (λ n. holds-ascending name_order exact_names n names ∙ alike n ∙ sym (holds-ascending name_order exact_names n others))

pub returns-clause-names : goal.returns-clause-names
returns-clause-names c =
    c.ascending_names.ensures ∙ same c.push_pair_names.new.names.items (flat_map names_of_pair c.args.subjects.now) (λ n.
    c.in_ok-push_pair_names.ensures n
    ∙ ap (λ before. is_among before n || is_among (flat_map names_of_pair c.args.subjects.now) n) c.in_ok-names.ensures.items)

pub returns-clause-chained : goal.returns-clause-chained
returns-clause-chained c = λ cell all.
    names_are_chained cell c.args.subjects.now c.ascending_names.result
    (c.ascending_names.ensures ∙ same c.push_pair_names.new.names.items (flat_map names_of_pair c.args.subjects.now) (λ n.
    c.in_ok-push_pair_names.ensures n
    ∙ ap (λ before. is_among before n || is_among (flat_map names_of_pair c.args.subjects.now) n) c.in_ok-names.ensures.items)) all
