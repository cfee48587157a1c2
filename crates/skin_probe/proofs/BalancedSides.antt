-- Where no side is unbalanced, both sorts of areas go round each point equally often.
use Rattle.std.proofs.Common.{◌≡◌, ℕ, ◌+◌, ◌<◌, ◌≤◌, Bool, true, false, List, [], ◌∷◌, Option, None, Some, cond, map, length, count_by}
use Rattle.std.proofs.Common.{sum_by, eqb-true, lt-ltb, refl, sym, ap, ◌∙◌, inl, inr, subst, ℤ, pos, ◌-ℤ◌, ◌*ℤ◌, arith}
use Rattle.std.specs.Prelude.{not, nat_lt, is_some}
use Rattle.std.proofs.lemmas.Int.{ints}
use Rattle.std.proofs.lemmas.List.Sums.{count_by-le-length, sum_by-cons}
use Rattle.std.specs.Ordering.{is_eq}
use Rattle.s57_types.specs.declared.name.RecName.{RecName}
use Rattle.s57_types.specs.declared.record.Vector.{Vector}
use Rattle.s57_types.specs.declared.cell.Cell.{Cell}
use Rattle.cell_spec.specs.declared.finding.Finding.{Finding}
use Rattle.cell_spec.specs.declared.key.Subject.{Subject}
use Rattle.cell_spec.specs.declared.key.Subject.TheVariants.{Side}
use Rattle.cell_spec.specs.Lookup.{name_of}
use Rattle.cell_spec.specs.Names.{subject_order}
use Rattle.geometry_spec.specs.Points.{Point}
use Rattle.rule_spec.specs.declared.kind.TheConstants.{ORPHAN, SIDE_OVERLAP, SIDE_UNBALANCED}
use Rattle.rule_spec.specs.declared.side.EdgeSideCounts.{EdgeSideCounts}
use Rattle.rule_spec.specs.Findings.{all_findings, finding, findings_of_rules, findings_of_subject}
use Rattle.rule_spec.specs.Records.{edge_named}
use Rattle.rule_spec.specs.Rule.{Found, found_if}
use Rattle.rule_spec.specs.Rules.{side_rules}
use Rattle.rule_spec.specs.Sides.{is_balanced, numbers_of, orphan, side_counts, side_overlap, side_unbalanced, uses_of}
use Rattle.row_spec.specs.Rows.{value_of}
use Rattle.answer_laws.proofs.Among.{Among, in_back, in_front}
use Rattle.finding_laws.specs.Tables.{ListedTablesAreRight}
use Rattle.skin_probe.specs.Totals.{is_unbalanced, unbalanced_in, unbalanced_total}
use Rattle.skin_probe.specs.Winding.{edge_winding}
use Rattle.skin_probe.specs.WindingLaws.{BalancedSidesEqualWinding, WindingSumByEdges, coverage_excess, group1_excess}
use Rattle.skin_probe.proofs.EdgeSums.{no_edge_part}
use Rattle.skin_probe.proofs.Sums.{sum_same, times_zero}

-- ---- what is counted
counted_by : (f : Finding) (fs : List Finding) (is : Bool) → is_unbalanced f ≡ is → count_by is_unbalanced (f ∷ fs) ≡ cond is 1 0 + count_by is_unbalanced fs
counted_by f fs is e = sum_by-cons (λ (g : Finding). cond (is_unbalanced g) 1 0) f fs ∙ ap (λ b. cond b 1 0 + count_by is_unbalanced fs) e

counted : (f : Finding) (fs : List Finding) → is_unbalanced f ≡ true → Among f fs → 0 < count_by is_unbalanced fs
counted f [] is at = absurd at
counted f (g ∷ fs) is (inl same) = omega (arith, counted_by g fs true (ap is_unbalanced same ∙ is))
counted f (g ∷ fs) is (inr at) = omega (arith, counted f fs is at, counted_by g fs (is_unbalanced g) refl)

-- the findings of a row are counted
row_by : (s : Subject) (row : Subject × List Finding) (rows : List (Subject × List Finding)) (found : List Finding) (own : Bool)
    → cond own (Some row.1) (value_of subject_order rows s) ≡ Some found
    → (value_of subject_order rows s ≡ Some found → count_by is_unbalanced found ≤ sum_by unbalanced_in rows)
    → count_by is_unbalanced found ≤ sum_by unbalanced_in (row ∷ rows)
row_by s row rows found true e later =
    let same : row.1 ≡ found = cc in omega (arith, sum_by-cons unbalanced_in row rows, ap (count_by is_unbalanced) same)
row_by s row rows found false e later = omega (arith, sum_by-cons unbalanced_in row rows, later e)

row_counted : (s : Subject) (rows : List (Subject × List Finding)) (found : List Finding) → value_of subject_order rows s ≡ Some found
    → count_by is_unbalanced found ≤ sum_by unbalanced_in rows
row_counted s [] found e = cc
row_counted s (row ∷ rows) found e = row_by s row rows found (is_eq (subject_order row.0 s)) e (row_counted s rows found)

-- ---- an unbalanced side is counted
module _ (c : Cell) (tables : ListedTablesAreRight) (e : RecName) where
  abbrev counts : EdgeSideCounts
  counts = side_counts (uses_of c e)

  abbrev found_there : List Finding
  found_there = findings_of_subject c (Side e)

  abbrev about_balance : Finding
  about_balance = finding SIDE_UNBALANCED (numbers_of counts)

  told : is_balanced counts ≡ false → Among about_balance (map (finding SIDE_UNBALANCED) (side_unbalanced c e))
  told uneven = ap_told (is_balanced counts) uneven
    where
      ap_told : (b : Bool) → b ≡ false → Among about_balance (map (finding SIDE_UNBALANCED) (found_if (not b) (numbers_of counts)))
      ap_told true h = cc
      ap_told false h = inl refl

  found_among : (v : Vector) → edge_named c e ≡ Some v → is_balanced counts ≡ false → Among about_balance found_there
  unfolding findings_of_subject
  found_among v is uneven =
      subst (λ b. Among about_balance (cond b (findings_of_rules (λ (rule : Cell → RecName → Found). rule c e) side_rules) [])) (sym (ap is_some is))
      (in_back about_balance (map (finding ORPHAN) (orphan c e)) _ (in_back about_balance (map (finding SIDE_OVERLAP) (side_overlap c e)) _
      (in_front about_balance (map (finding SIDE_UNBALANCED) (side_unbalanced c e)) _ (told uneven))))

  uneven_counts : (v : Vector) → edge_named c e ≡ Some v → is_balanced counts ≡ false → 0 < unbalanced_total c
  uneven_counts v is uneven =
      let some = counted about_balance found_there refl (found_among v is uneven) in
      let any : nat_lt 0 (length found_there) ≡ true = lt-ltb 0 (length found_there) (omega (arith, some, count_by-le-length is_unbalanced found_there)) in
      let kept = (tables.verdicts c).exact (Side e) ∙ ap (λ b. cond b (Some found_there) None) any in
      omega (arith, some, row_counted (Side e) (all_findings c) found_there kept)

  balanced_by : (v : Vector) → edge_named c e ≡ Some v → unbalanced_total c ≡ 0 → (b : Bool) → is_balanced counts ≡ b → b ≡ true
  balanced_by v is none true even = refl
  balanced_by v is none false uneven = absurd (omega (arith, none, uneven_counts v is uneven))

  same_excess : is_balanced counts ≡ true → group1_excess counts ≡ coverage_excess counts
  same_excess even = moved counts.group1_forward counts.group1_reverse counts.coverage_forward counts.coverage_reverse
      (eqb-true (counts.group1_forward + counts.coverage_reverse) (counts.coverage_forward + counts.group1_reverse) even)
    where
      moved : (a b p q : ℕ) → a + q ≡ p + b → pos a -ℤ pos b ≡ pos p -ℤ pos q
      moved a b p q h = omega (arith, ints)

  same_term : (at : Point) → unbalanced_total c ≡ 0 → (o : Option Vector) → edge_named c e ≡ o
      → group1_excess counts *ℤ edge_winding c at e ≡ coverage_excess counts *ℤ edge_winding c at e
  same_term at none None is =
      let no = no_edge_part c at e is in
      ap (λ z. group1_excess counts *ℤ z) no ∙ times_zero (group1_excess counts)
      ∙ sym (ap (λ z. coverage_excess counts *ℤ z) no ∙ times_zero (coverage_excess counts))
  same_term at none (Some v) is = ap (λ z. z *ℤ edge_winding c at e)
      (same_excess (balanced_by v is none (is_balanced counts) refl))

pub balanced_sides : WindingSumByEdges → ListedTablesAreRight → BalancedSidesEqualWinding
balanced_sides law tables c w none at =
    let sums = law c w at in
    sums.group1
    ∙ sum_same (λ e. group1_excess (side_counts (uses_of c e)) *ℤ edge_winding c at e) (λ e. coverage_excess (side_counts (uses_of c e)) *ℤ edge_winding c at e)
    (map name_of c.ve) (λ e here. same_term c tables e at none (edge_named c e) refl)
    ∙ sym sums.coverage

-- no more findings are SideUnbalanced than there are
pub few_unbalanced : (rows : List (Subject × List Finding)) → sum_by unbalanced_in rows ≤ sum_by (λ (row : Subject × List Finding). length row.1) rows
few_unbalanced [] = omega arith
few_unbalanced (row ∷ rows) =
    omega (
      arith,
      sum_by-cons unbalanced_in row rows,
      sum_by-cons (λ (r : Subject × List Finding). length r.1) row rows,
      count_by-le-length is_unbalanced row.1,
      few_unbalanced rows,
    )
