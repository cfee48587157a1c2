-- The rules on features give the same in two cells that answer alike to what they look up.
use Rattle.std.proofs.Common.{◌≡◌, ℕ, ◌==◌, ◌&&◌, Bool, true, false, List, [], ◌∷◌, ◌++◌, Option, None, Some, cond, map, take, not, length, flat_map}
use Rattle.std.proofs.Common.{is_some, option_map, refl, sym, ap, ◌∙◌}
use Rattle.std.specs.List.{AllByRecursion, enumerate_from, list_all}
use Rattle.s57_types.specs.declared.record.Feature.{Feature}
use Rattle.s57_types.specs.declared.record.Partner.{Partner}
use Rattle.s57_types.specs.declared.record.Rec.{Rec as Record}
use Rattle.s57_types.specs.declared.record.Rec.TheVariants.{V, F, H}
use Rattle.s57_types.specs.declared.record.Spot.{Spot}
use Rattle.s57_types.specs.declared.cell.Cell.{Cell}
use Rattle.s57_types.specs.Heads.{head_name}
use Rattle.cell_spec.specs.declared.key.Key.{Key}
use Rattle.cell_spec.specs.declared.key.Key.TheVariants.{Name, Foid}
use Rattle.cell_spec.specs.Lookup.{lookup_record, lookup_identity}
use Rattle.rule_spec.specs.declared.line.BoundaryRow.{BoundaryRow}
use Rattle.rule_spec.specs.declared.line.EdgeLine.{EdgeLine}
use Rattle.rule_spec.specs.Boundary.{line_along, boundary_row, boundary_of, is_clean, has_points, has_usable_boundary, open_ring_of, mixed_ring_of}
use Rattle.rule_spec.specs.Boundary.{outer_count_of, wrong_turn_of, has_whole_loops}
use Rattle.rule_spec.specs.EdgePoints.{edge_line_of}
use Rattle.rule_spec.specs.Features.{prim_refs, dangling_ref, bad_codes, bad_level, dangling_feature, is_beyond_ascii, target}
use Rattle.rule_spec.specs.Findings.{findings_of_record}
use Rattle.rule_spec.specs.Reads.{end_keys_at, feature_keys}
use Rattle.rule_spec.specs.Rule.{Found, places_where}
use Rattle.rule_spec.specs.Rules.{feature_rules}
use Rattle.cell_spec.specs.AnswersAlike.{AnswerAlike}
use Rattle.read_laws.proofs.Lists.{each_weaker, each_from_both, each_front, each_back, each_mapped, each_flat, each_numbered, same_filter_map, same_flat_map}
use Rattle.read_laws.proofs.Lists.{same_list_all, same_places}
use Rattle.read_laws.proofs.EdgeLines.{Alike, same_end_keys, same_line}
use Rattle.read_laws.proofs.RuleFindings.{same_findings}

-- whether a boundary is usable, by what its rules found and whether each pointer names an edge with points
abbrev usable_when : Bool → Found → Found → Found → Bool → Bool
usable_when is_area misfits dangling codes lines = is_area && (is_clean misfits && is_clean dangling && is_clean codes) && lines

abbrev row_by : ℕ × Spot → Option EdgeLine → Option BoundaryRow
row_by pointer found = option_map (λ line. record { place = pointer.0; usag = pointer.1.usag; line = line_along pointer.1.ornt line }) found

-- AALL of a head that is found
abbrev level_of : Option Record → ℕ
level_of None = 0
level_of (Some (V v)) = 0
level_of (Some (F f)) = 0
level_of (Some (H h)) = h.aall

abbrev place_keys : Feature → List Key
place_keys f = map (λ (s : Spot). Name s.to) f.places

abbrev edge_keys : Cell → Feature → List Key
edge_keys c f = flat_map (λ (s : Spot). end_keys_at c s.to) f.places

abbrev edge_keys_of_area : Cell → Feature → List Key
edge_keys_of_area c f = cond (f.prim == 3) (edge_keys c f) []

abbrev partner_keys : Feature → List Key
partner_keys f = map (λ (p : Partner). Foid p.to) f.partners

module _ (c d : Cell) (f : Feature) where
  abbrev HasAlikePlaces : Type 0
  HasAlikePlaces = AllByRecursion (λ (s : Spot). Alike c d s.to) f.places

  alike_places : AllByRecursion (AnswerAlike c d) (feature_keys c f) → HasAlikePlaces
  alike_places all =
      each_mapped (AnswerAlike c d) (λ (s : Spot). Name s.to) f.places
      (each_front (AnswerAlike c d) (place_keys f) (edge_keys_of_area c f)
      (each_front (AnswerAlike c d) (place_keys f ++ edge_keys_of_area c f) (partner_keys f) all.1))

  alike_edges : AllByRecursion (AnswerAlike c d) (feature_keys c f) → AllByRecursion (AnswerAlike c d) (edge_keys_of_area c f)
  alike_edges all = each_back (AnswerAlike c d) (place_keys f) (edge_keys_of_area c f)
      (each_front (AnswerAlike c d) (place_keys f ++ edge_keys_of_area c f) (partner_keys f) all.1)

  alike_partners : AllByRecursion (AnswerAlike c d) (feature_keys c f) → AllByRecursion (λ (p : Partner). AnswerAlike c d (Foid p.to)) f.partners
  alike_partners all =
      each_mapped (AnswerAlike c d) (λ (p : Partner). Foid p.to) f.partners
      (each_back (AnswerAlike c d) (place_keys f ++ edge_keys_of_area c f) (partner_keys f) all.1)

  -- the same keys are read
  keys_by_places : HasAlikePlaces → feature_keys c f ≡ feature_keys d f
  keys_by_places places =
      let ends : edge_keys c f ≡ edge_keys d f =
      same_flat_map (λ (s : Spot). end_keys_at c s.to) (λ (s : Spot). end_keys_at d s.to) f.places
      (each_weaker (λ (s : Spot). Alike c d s.to) (λ (s : Spot). end_keys_at c s.to ≡ end_keys_at d s.to)
      (λ s same. same_end_keys c d s.to same) f.places places) in
      λ i. Name head_name ∷ (place_keys f ++ cond (f.prim == 3) (ends i) [] ++ partner_keys f)

  pub same_feature_keys : AllByRecursion (AnswerAlike c d) (feature_keys c f) → feature_keys c f ≡ feature_keys d f
  same_feature_keys all = keys_by_places (alike_places all)

  same_dangling_ref : HasAlikePlaces → dangling_ref c f ≡ dangling_ref d f
  same_dangling_ref places =
      let missing : Cell → Spot → Bool = λ cell s. not (is_some (lookup_record cell (target s))) in
      same_places (missing c) (missing d) 1 f.places
      (each_weaker (λ (s : Spot). Alike c d s.to) (λ s. missing c s ≡ missing d s) (λ s same. ap (λ found. not (is_some found)) same) f.places places)

  same_dangling_feature : AllByRecursion (λ (p : Partner). AnswerAlike c d (Foid p.to)) f.partners → dangling_feature c f ≡ dangling_feature d f
  same_dangling_feature partners =
      let missing : Cell → Partner → Bool = λ cell p. length (lookup_identity cell p.to) == 0 in
      same_places (missing c) (missing d) 1 f.partners
      (each_weaker (λ (p : Partner). AnswerAlike c d (Foid p.to)) (λ p. missing c p ≡ missing d p)
      (λ p same. ap (λ bearers. length bearers == 0) same) f.partners partners)

  same_bad_level : AnswerAlike c d (Name head_name) → bad_level c f ≡ bad_level d f
  same_bad_level same = ap (λ found. cond (level_of found == 0) (take 1 (places_where is_beyond_ascii f.attf)) []) same

  -- the lines of an area's boundary
  abbrev HasSameLines : Type 0
  HasSameLines = AllByRecursion (λ (s : Spot). edge_line_of c s.to ≡ edge_line_of d s.to) f.places

  same_lines : HasAlikePlaces → AllByRecursion (AnswerAlike c d) (edge_keys c f) → HasSameLines
  same_lines places edges =
      each_from_both (λ (s : Spot). Alike c d s.to) (λ (s : Spot). AllByRecursion (AnswerAlike c d) (end_keys_at c s.to))
      (λ (s : Spot). edge_line_of c s.to ≡ edge_line_of d s.to)
      (λ s same ends. same_line c d s.to same ends) f.places places (each_flat (AnswerAlike c d) (λ (s : Spot). end_keys_at c s.to) f.places edges)

  same_points : HasSameLines → list_all (has_points c) f.places ≡ list_all (has_points d) f.places
  same_points lines =
      same_list_all (has_points c) (has_points d) f.places
      (each_weaker (λ (s : Spot). edge_line_of c s.to ≡ edge_line_of d s.to) (λ s. has_points c s ≡ has_points d s)
      (λ s same. ap (λ line. is_some line) same) f.places lines)

  same_boundary : HasSameLines → boundary_of c f ≡ boundary_of d f
  unfolding boundary_of
  same_boundary lines =
      same_filter_map (boundary_row c) (boundary_row d) (enumerate_from 1 f.places)
      (each_weaker (λ (item : ℕ × Spot). edge_line_of c item.1.to ≡ edge_line_of d item.1.to) (λ item. boundary_row c item ≡ boundary_row d item)
      (λ item same. ap (row_by item) same) (enumerate_from 1 f.places)
      (each_numbered (λ (s : Spot). edge_line_of c s.to ≡ edge_line_of d s.to) 1 f.places lines))

  -- a rule on usable boundaries alone
  boundary_by : (rule : Bool → List BoundaryRow → Found) → ((rows : List BoundaryRow) → rule false rows ≡ []) → (is_area : Bool)
      → HasAlikePlaces → AllByRecursion (AnswerAlike c d) (cond is_area (edge_keys c f) [])
      → rule (usable_when is_area (prim_refs c f) (dangling_ref c f) (bad_codes c f) (list_all (has_points c) f.places)) (boundary_of c f)
      ≡ rule (usable_when is_area (prim_refs d f) (dangling_ref d f) (bad_codes d f) (list_all (has_points d) f.places)) (boundary_of d f)
  boundary_by rule none true places edges =
      let lines = same_lines places edges in
      λ i. rule (usable_when true (prim_refs c f) (same_dangling_ref places i) (bad_codes c f) (same_points lines i)) (same_boundary lines i)
  boundary_by rule none false places edges = none (boundary_of c f) ∙ sym (none (boundary_of d f))

  same_by_boundary : (rule : Bool → List BoundaryRow → Found) → ((rows : List BoundaryRow) → rule false rows ≡ [])
      → AllByRecursion (AnswerAlike c d) (feature_keys c f)
      → rule (has_usable_boundary c f) (boundary_of c f) ≡ rule (has_usable_boundary d f) (boundary_of d f)
  unfolding has_usable_boundary
  same_by_boundary rule none all = boundary_by rule none (f.prim == 3) (alike_places all) (alike_edges all)

  pub same_feature_findings : AllByRecursion (AnswerAlike c d) (feature_keys c f) → findings_of_record c (F f) ≡ findings_of_record d (F f)
  same_feature_findings all =
      same_findings (λ (rule : Cell → Feature → Found). rule c f) (λ (rule : Cell → Feature → Found). rule d f) feature_rules (
        refl,
        (
          same_dangling_ref (alike_places all),
          (
            refl,
            (
              same_by_boundary (λ usable rows. cond usable (open_ring_of rows) []) (λ rows. refl) all,
              (
                same_by_boundary (λ usable rows. cond (usable && is_clean (open_ring_of rows)) (mixed_ring_of rows) []) (λ rows. refl) all,
                (
                  same_by_boundary (λ usable rows. cond (usable && has_whole_loops rows) (outer_count_of rows) []) (λ rows. refl) all,
                  (
                    same_by_boundary (λ usable rows. cond (usable && has_whole_loops rows) (wrong_turn_of rows) []) (λ rows. refl) all,
                    (same_dangling_feature (alike_partners all), (refl, (same_bad_level all.0, tt))),
                  ),
                ),
              ),
            ),
          ),
        ),
      )
