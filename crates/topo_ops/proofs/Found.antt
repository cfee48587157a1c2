-- The edits of an edit set find their records where those of vector records do.
use Rattle.std.proofs.Common.{◌≡◌, ℕ, ◌<◌, Bool, true, false, List, [], ◌++◌, None, length, map, refl, ap, ◌∙◌, arith}
use Rattle.std.specs.Prelude.{filter_map}
use Rattle.std.specs.List.{IsDistinct, list_all}
use Rattle.std.proofs.lemmas.Bool.{and_from, and_parts}
use Rattle.std.proofs.lemmas.List.{append-nil, get_or-map, length-map}
use Rattle.std.proofs.lemmas.List.Elements.{filter_map-append, recursion_from_All}
use Rattle.std.proofs.lemmas.List.Folds.{list_all-append}
use Rattle.std.proofs.lemmas.Map.Keys.{IsDistinct-from_apart}
use Rattle.s57_types.specs.Fitness.{has_good_names, is_feature_kind, is_vector_kind, unfitness}
use Rattle.s57_types.specs.Heads.{head_name}
use Rattle.s57_types.specs.declared.name.Kind.{Kind}
use Rattle.s57_types.specs.declared.name.Kind.TheVariants.{Vi, Vc, Ve, Fe, Head as HeadKind}
use Rattle.s57_types.specs.declared.name.RecName.{RecName}
use Rattle.s57_types.specs.declared.record.Spot.{Spot}
use Rattle.s57_types.specs.declared.record.Rec.{Rec}
use Rattle.s57_types.specs.declared.record.Rec.TheVariants.{V, F, H}
use Rattle.s57_types.specs.declared.cell.Cell.{Cell}
use Rattle.cell_spec.specs.declared.edit.Edit.{Edit}
use Rattle.cell_spec.specs.declared.edit.Edit.TheVariants.{Del}
use Rattle.cell_spec.specs.Edits.{added_by, find_their_records, has_its_record, name_of_edit}
use Rattle.cell_spec.specs.Lookup.{all_records, head_and_records, name_of}
use Rattle.cell_spec.specs.Names.{same_name}
use Rattle.cell_spec.specs.Readable.{IsReadable}
use Rattle.cell_spec.specs.Writable.{HaveDistinctNames}
use Rattle.edit_sets.specs.FormFault.{IsFormed}
use Rattle.answer_laws.specs.EditedAnswers.{FindTheirRecords, has_a_list}
use Rattle.answer_laws.proofs.Among.{each_mapped, known_of}
use Rattle.topo_ops.specs.Features.{feature_edit, features_at}
use Rattle.topo_ops.proofs.FeatureEdits.{features_found, none_added}
use Rattle.topo_ops.proofs.Records.{good_names}

-- a kind that passes a test which the head's fails is another
not_head : (passes : Kind → Bool) → passes HeadKind ≡ false → (k : Kind) (id : ℕ) → passes k ≡ true
    → same_name head_name (record { kind = k; id = id }) ≡ false
not_head passes fails Vi id e = refl
not_head passes fails Vc id e = refl
not_head passes fails Ve id e = refl
not_head passes fails Fe id e = refl
not_head passes fails HeadKind id e = cc

not_the_head : (r : Rec) → has_good_names r ≡ true → same_name head_name (name_of r) ≡ false
not_the_head (V v) good = not_head is_vector_kind refl v.name.kind v.name.id (and_parts (is_vector_kind v.name.kind) _ good).0
not_the_head (F f) good = not_head is_feature_kind refl f.name.kind f.name.id (and_parts (is_feature_kind f.name.kind) _ good).0
not_the_head (H h) good = cc

names_with_head : (c : Cell) → IsReadable c → HaveDistinctNames (head_and_records c)
unfolding IsDistinct
names_with_head c readable = (
  each_mapped (λ n. same_name head_name n ≡ false) name_of (all_records c) (λ r at.
      not_the_head r (good_names c.head.nall r (known_of (λ s. unfitness c.head.nall s ≡ None) r (all_records c)
      (recursion_from_All (λ s. unfitness c.head.nall s ≡ None) (all_records c) readable.fit) at))),
  readable.distinct,
)

different_names : (nall : ℕ) (edits : List Edit) (guards : List RecName) → IsFormed nall edits guards → IsDistinct same_name (map name_of_edit edits)
different_names nall edits guards form =
    IsDistinct-from_apart same_name (map name_of_edit edits) (λ i j d before within.
    let there : j < length edits = omega (arith, length-map edits name_of_edit, within) in
    (λ k. same_name (get_or-map name_of_edit edits i (Del d) d (omega (arith, there, before)) k) (get_or-map name_of_edit edits j (Del d) d there k))
    ∙ form.distinct i j (Del d) before there)

module _ (nall : ℕ) (c : Cell) (readable : IsReadable c) (lead : List Edit) (change : List Spot → List Spot) (targets : List RecName)
    (form : IsFormed nall (lead ++ map (feature_edit change) (features_at c targets)) []) (found : list_all (has_its_record c) lead ≡ true)
    (placed : list_all has_a_list (filter_map added_by lead) ≡ true) where
  abbrev all_edits : List Edit
  all_edits = lead ++ map (feature_edit change) (features_at c targets)

  pub all_found : find_their_records all_edits c ≡ true
  all_found =
      list_all-append (has_its_record c) lead (map (feature_edit change) (features_at c targets))
      ∙ and_from (list_all (has_its_record c) lead) _ found (features_found change c targets)

  pub finds_theirs : FindTheirRecords all_edits c
  finds_theirs = record {
    names = names_with_head c readable;
    different = different_names nall all_edits [] form;
    found = all_found;
    placed = ap (list_all has_a_list) (filter_map-append added_by lead (map (feature_edit change) (features_at c targets))
        ∙ ap (λ rs. filter_map added_by lead ++ rs) (none_added change c (features_at c targets)) ∙ append-nil (filter_map added_by lead)) ∙ placed;
  }
