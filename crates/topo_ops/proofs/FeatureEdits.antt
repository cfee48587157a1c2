-- The edits of features that point to some names.
use Rattle.std.proofs.Common.{◌≡◌, Bool, true, false, ◌||◌, List, [], ◌∷◌, Option, None, Some, cond, map, is_some}
use Rattle.std.proofs.Common.{refl, sym, ap, ◌∙◌}
use Rattle.std.specs.Prelude.{filter_map, flat_map, option_map}
use Rattle.std.specs.List.{cons_option, list_all, list_any}
use Rattle.std.proofs.lemmas.Bool.{and_from, both_ways as contradiction, false_from_ne_true}
use Rattle.s57_types.specs.declared.name.RecName.{RecName}
use Rattle.s57_types.specs.declared.record.Feature.{Feature}
use Rattle.s57_types.specs.declared.record.Spot.{Spot}
use Rattle.s57_types.specs.declared.record.Rec.TheVariants.{F}
use Rattle.s57_types.specs.declared.cell.Cell.{Cell}
use Rattle.cell_spec.specs.declared.edit.Edit.{Edit}
use Rattle.cell_spec.specs.declared.key.Ref.{Ref}
use Rattle.cell_spec.specs.Edits.{added_by, edit_of, has_its_record}
use Rattle.cell_spec.specs.Lookup.{listed_record, lookup_pointers}
use Rattle.cell_spec.specs.Names.{name_order, same_name}
use Rattle.cell_spec.proofs.Ascending.{any-ascending}
use Rattle.cell_spec.proofs.Orders.{exact_names, one_when_same}
use Rattle.rule_spec.specs.Records.{feature_named}
use Rattle.answer_laws.proofs.Among.{Among, among_mapped, any_passes, passing}
use Rattle.answer_laws.proofs.Tests.{any_flat}
use Rattle.topo_ops.specs.Features.{feature_edit, features_at, names_pointing}
use Rattle.topo_ops.proofs.PlaceCounts.{same_self}
use Rattle.topo_ops.proofs.Pointers.{any_pointing}
use Rattle.topo_ops.proofs.Records.{is_feature}

-- whether a name is among some
abbrev pub is_among : List RecName → RecName → Bool
is_among names n = list_any (λ m. same_name m n) names

module _ (change : List Spot → List Spot) (c : Cell) where
  abbrev of_names : List RecName → List Edit
  of_names names = map (feature_edit change) (filter_map (feature_named c) names)

  -- the edit of a name, where it is among the names and is a feature's
  abbrev wanted : RecName → Bool → Option Feature → Option Edit
  wanted n among o = option_map (feature_edit change) (cond among o None)

  none_wanted : (n : RecName) (among : Bool) → wanted n among None ≡ None
  none_wanted n true = refl
  none_wanted n false = refl

  behind : (f : Feature) (n : RecName) (later : Option Edit) (named : Bool) → same_name f.name n ≡ named
      → cond (same_name f.name n) (Some (feature_edit change f)) later ≡ cond named (Some (feature_edit change f)) later
  behind f n later named is = ap (λ b. cond b (Some (feature_edit change f)) later) is

  edited_by : (m n : RecName) (names : List RecName) (o : Option Feature) (named : Bool) → feature_named c m ≡ o → same_name m n ≡ named
      → edit_of n (of_names names) ≡ wanted n (is_among names n) (feature_named c n)
      → edit_of n (map (feature_edit change) (cons_option o (filter_map (feature_named c) names))) ≡ wanted n (named || is_among names n) (feature_named c n)
  edited_by m n names None true found is later =
      let here : feature_named c n ≡ None = ap (feature_named c) (sym (one_when_same m n is)) ∙ found in
      later ∙ ap (wanted n (is_among names n)) here ∙ none_wanted n (is_among names n) ∙ ap (wanted n true) (sym here)
  edited_by m n names None false found is later = later
  edited_by m n names (Some f) true found is later =
      let here : feature_named c n ≡ Some f = ap (feature_named c) (sym (one_when_same m n is)) ∙ found in
      let own : same_name f.name n ≡ true = ap (λ k. same_name k n) (is_feature c m f found).name_is ∙ is in
      behind f n (edit_of n (of_names names)) true own ∙ ap (wanted n true) (sym here)
  edited_by m n names (Some f) false found is later =
      let other : same_name f.name n ≡ false = ap (λ k. same_name k n) (is_feature c m f found).name_is ∙ is in
      behind f n (edit_of n (of_names names)) false other ∙ later

  edited : (n : RecName) (names : List RecName) → edit_of n (of_names names) ≡ wanted n (is_among names n) (feature_named c n)
  edited n [] = refl
  edited n (m ∷ names) = edited_by m n names (feature_named c m) (same_name m n) refl refl (edited n names)

  -- the edit of a feature that points to one of the targets
  pub feature_edited : (n : RecName) (targets : List RecName)
      → edit_of n (map (feature_edit change) (features_at c targets))
      ≡ option_map (feature_edit change) (cond (is_among (names_pointing c targets) n) (feature_named c n) None)
  unfolding features_at
  feature_edited n targets = edited n (names_pointing c targets)

  -- each finds its record, and none adds one
  found_by : (m : RecName) (o : Option Feature) (fs : List Feature) → feature_named c m ≡ o
      → list_all (has_its_record c) (map (feature_edit change) fs) ≡ true → list_all (has_its_record c) (map (feature_edit change) (cons_option o fs)) ≡ true
  found_by m None fs found later = later
  found_by m (Some f) fs found later =
      let there = is_feature c m f found in
      and_from (is_some (listed_record c f.name)) _ (ap (λ k. is_some (listed_record c k)) there.name_is ∙ there.listed) later

  all_found : (names : List RecName) → list_all (has_its_record c) (of_names names) ≡ true
  all_found [] = refl
  all_found (m ∷ names) = found_by m (feature_named c m) (filter_map (feature_named c) names) refl (all_found names)

  pub features_found : (targets : List RecName) → list_all (has_its_record c) (map (feature_edit change) (features_at c targets)) ≡ true
  unfolding features_at
  features_found targets = all_found (names_pointing c targets)

  pub none_added : (fs : List Feature) → filter_map added_by (map (feature_edit change) fs) ≡ []
  none_added [] = refl
  none_added (f ∷ fs) = none_added fs

-- ---- a feature that names a target points to it
from_named : (n : RecName) (qs : List Ref) → is_among (map (λ (r : Ref). r.from) qs) n ≡ list_any (λ (r : Ref). same_name r.from n) qs
from_named n [] = refl
from_named n (q ∷ qs) = ap (λ b. same_name q.from n || b) (from_named n qs)

pub points_there : (c : Cell) (targets : List RecName) (target : RecName) (n : RecName) (f : Feature) → Among target targets → feature_named c n ≡ Some f
    → list_any (same_name target) (map (λ (s : Spot). s.to) f.places) ≡ true → is_among (names_pointing c targets) n ≡ true
points_there c targets target n f at named some =
    let there = is_feature c n f named in
    let from : Ref → Bool = λ r. same_name r.from n in
    any-ascending name_order exact_names (λ m. same_name m n) (map (λ (r : Ref). r.from) (flat_map (lookup_pointers c) targets))
    ∙ from_named n (flat_map (lookup_pointers c) targets)
    ∙ any_flat from (lookup_pointers c) targets
    ∙ any_passes (λ m. list_any from (lookup_pointers c m)) target targets at
    (any_pointing from c target (F f) there.among (λ place. ap (λ m. same_name m n) there.name_is ∙ same_self n) some)

-- one that doesn't point to it doesn't name it
pub names_none : (c : Cell) (targets : List RecName) (target : RecName) (n : RecName) (f : Feature) → Among target targets → feature_named c n ≡ Some f
    → is_among (names_pointing c targets) n ≡ false → list_any (same_name target) (map (λ (s : Spot). s.to) f.places) ≡ false
names_none c targets target n f at named none =
    false_from_ne_true (list_any (same_name target) (map (λ (s : Spot). s.to) f.places)) (λ some.
    contradiction (is_among (names_pointing c targets) n) none (points_there c targets target n f at named some))

-- a feature that points to a target is among those that do
pub feature_there : (c : Cell) (targets : List RecName) (n : RecName) (f : Feature) → feature_named c n ≡ Some f
    → is_among (names_pointing c targets) n ≡ true → Among f (features_at c targets)
unfolding features_at
feature_there c targets n f named points =
    let hit = passing (λ m. same_name m n) (names_pointing c targets) points in
    among_mapped (feature_named c) hit.item f (names_pointing c targets) hit.among (ap (feature_named c) (one_when_same hit.item n hit.passes) ∙ named)
