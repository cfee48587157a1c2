use Rattle.std.proofs.Common.{◌≡◌, ◌++◌, List, [], ◌∙◌, IsTrue, ap, filter, map, subst, sym}
use Rattle.std.specs.List.{All, flat_map}
use Rattle.std.specs.List.Sorted.{IsStrictlySortedBy}
use Rattle.std.proofs.lemmas.List.Concat.{flat_map-append}
use Rattle.std.proofs.lemmas.Result.{err_from_is_err_and}
use Rattle.s57_types.specs.declared.name.RecName.{RecName}
use Rattle.s57_types.specs.declared.cell.Cell.{Cell}
use Rattle.cell_spec.specs.declared.key.Subject.TheVariants.{Rec, Side, Ident}
use Rattle.cell_spec.specs.Names.{name_order}
use Rattle.cell_spec.proofs.Ascending.{sorted-ascending}
use Rattle.cell_spec.proofs.Orders.{total_names}
use Rattle.rule_spec.specs.Findings.{is_subject, record_names}
use Rattle.rule_spec.specs.Records.{is_chain_part, is_edge_name}
use Rattle.cell_findings.specs.Gathered.{IsOver}
use Rattle.cell_findings.specs.Judged.{identities_in, is_part_name, names_in, part_pairs, records_and_sides, subject_findings}
use Rattle.cell_findings.specs.declared.list.SubjectFinding.{SubjectFinding}
use Rattle.cell_findings.proofs.Gathering.{over_more}
use Rattle.cell_findings.proofs.Judged.{pairs_are_subjects, parts_are_chained}
use Rattle.cell_findings.proofs.findings.gather.Goals as goal

-- what is told of the records and the sides first
first_told : {cell look : Cell} {names edges : List RecName} {before : List SubjectFinding} → before ≡ [] → look ≡ cell → names ≡ names_in cell
    → edges ≡ filter is_edge_name names
    → before ++ flat_map (subject_findings look) (map Rec names ++ map Side edges) ≡ flat_map (subject_findings cell) (records_and_sides (names_in cell))
first_told none is all sides =
    λ i. none i ++ flat_map (subject_findings (is i)) (map Rec (all i) ++ map Side ((sides ∙ ap (filter is_edge_name) all) i))

pub push_pairs_and_identities-requires-clause-subjects : goal.push_pairs_and_identities-requires-clause-subjects
push_pairs_and_identities-requires-clause-subjects g c =
    subst (λ ns. All (λ s. IsTrue (is_subject c.in_ok-look.look s)) (part_pairs ns)) (sym (c.as_slice-names.ensures ∙ c.in_ok-names.ensures))
    (subst (λ cell. All (λ s. IsTrue (is_subject cell s)) (part_pairs (names_in c.args.cell.now))) (sym c.in_ok-look.ensures)
    (pairs_are_subjects c.args.cell.now c.requires.writable))

pub push_pairs_and_identities-requires-clause-parts : goal.push_pairs_and_identities-requires-clause-parts
push_pairs_and_identities-requires-clause-parts g c =
    subst (λ ns. All (λ n. IsTrue (is_chain_part c.in_ok-look.look n)) (filter is_part_name ns)) (sym (c.as_slice-names.ensures ∙ c.in_ok-names.ensures))
    (subst (λ cell. All (λ n. IsTrue (is_chain_part cell n)) (filter is_part_name (names_in c.args.cell.now))) (sym c.in_ok-look.ensures)
    (parts_are_chained c.args.cell.now c.requires.writable))

pub push_pairs_and_identities-requires-clause-ascending : goal.push_pairs_and_identities-requires-clause-ascending
push_pairs_and_identities-requires-clause-ascending g c =
    subst (IsStrictlySortedBy name_order) (sym (c.as_slice-names.ensures ∙ c.in_ok-names.ensures))
    (sorted-ascending name_order total_names (record_names c.args.cell.now))

pub returns-in_err-push_records_and_sides : goal.returns-in_err-push_records_and_sides
returns-in_err-push_records_and_sides g c =
    let findings = subject_findings c.args.cell.now in
    let first = records_and_sides (names_in c.args.cell.now) in
    let second = part_pairs (names_in c.args.cell.now) ++ map Ident (identities_in c.args.cell.now) in
    let refusal = c.in_err-push_records_and_sides.field-0.0 in
    let refused = err_from_is_err_and c.from_residual-in_err-push_records_and_sides.result c.from_residual-in_err-push_records_and_sides.ensures.1 in
    rw (refused.1, refused.2)
    (over_more c.args.limit [] (flat_map findings first) (flat_map findings second) (flat_map findings (first ++ second)) refusal
    (sym (flat_map-append findings first second))
    (subst (λ all. IsOver c.args.limit all refusal)
    (first_told c.new-gathered.ensures.items c.in_ok-look.ensures (c.as_slice-names.ensures ∙ c.in_ok-names.ensures)
    (c.deref.ensures.value ∙ c.in_ok-edges.ensures))
    c.in_err-push_records_and_sides.ensures))

pub returns-in_err-push_pairs_and_identities : goal.returns-in_err-push_pairs_and_identities
returns-in_err-push_pairs_and_identities g c =
    let findings = subject_findings c.args.cell.now in
    let first = records_and_sides (names_in c.args.cell.now) in
    let second = part_pairs (names_in c.args.cell.now) ++ map Ident (identities_in c.args.cell.now) in
    let names = c.as_slice-names.ensures ∙ c.in_ok-names.ensures in
    let identities = c.deref-2.ensures.value ∙ c.in_ok-identities.ensures in
    let is_first = c.in_ok-push_records_and_sides.ensures.same
    ∙ first_told c.new-gathered.ensures.items c.in_ok-look.ensures names (c.deref.ensures.value ∙ c.in_ok-edges.ensures) in
    let refused = err_from_is_err_and c.from_residual-in_err-push_pairs_and_identities.result c.from_residual-in_err-push_pairs_and_identities.ensures.1 in
    rw (refused.1, refused.2)
    (subst (λ all. IsOver c.args.limit all c.in_err-push_pairs_and_identities.field-0.0)
    ((λ i. is_first i ++ flat_map (subject_findings (c.in_ok-look.ensures i)) (part_pairs (names i) ++ map Ident (identities i)))
    ∙ sym (flat_map-append findings first second))
    c.in_err-push_pairs_and_identities.ensures)
