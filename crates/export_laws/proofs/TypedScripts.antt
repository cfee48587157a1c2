-- What a script's line can say fits its types.
use Rattle.std.proofs.Common.{ℕ, ◌^◌, ◌<◌, ◌==◌, Bool, true, false, List, [], ◌∷◌, ◌++◌, refl, sym, subst, arith}
use Rattle.std.specs.Prelude.{All, if◌then◌else◌}
use Rattle.std.specs.List.{AllByRecursion, flat_map, filter_map}
use Rattle.std.proofs.lemmas.List.Elements.{recursion_from_All}
use Rattle.s57_types.specs.Subfield.{Subfield, text, wide_text, b12, unsigned_of, signed_of, text_of, wide_text_of}
use Rattle.s57_types.specs.FieldRows.{name_row, frid_row, foid_row, attribute_row, partner_row, place_row, end_row, plane_row, deep_row, attribute_forms}
use Rattle.s57_types.specs.declared.record.Attr.{Attr}
use Rattle.s57_types.specs.declared.record.Feature.{Feature}
use Rattle.s57_types.specs.declared.record.Vector.{Vector}
use Rattle.s57_types.specs.declared.record.Rec.{Rec}
use Rattle.s57_types.specs.declared.record.Rec.TheVariants.{V, F, H}
use Rattle.cell_spec.specs.declared.edit.Edit.{Edit}
use Rattle.cell_spec.specs.declared.edit.Edit.TheVariants.{Add, Set, Del, Head}
use Rattle.file_spec.specs.ReadBack.{frid_of}
use Rattle.file_spec.specs.RoundTrip.{IsInRange, HasForms, VectorHasForms, FeatureHasForms, RecordHasForms}
use Rattle.text_spec.specs.declared.command.Command.{Command}
use Rattle.text_spec.specs.declared.command.Command.TheVariants.{View, Commit, Drop, List as Findings, Push, Guard}
use Rattle.text_spec.specs.ScriptLines.{IsOfWidth, record_subfields, vector_subfields, feature_subfields, IsEditOfWidth, IsCommand, ScriptLine, skipped}
use Rattle.text_spec.specs.ScriptLines.{spoken, spoken_command, IsLine}
use Rattle.edit_laws.specs.ReadBackAfterRuns.{EditHasItsTypes, CommandHasItsTypes}
use Rattle.cell_spec.proofs.EachItem.{each_weaker, each_front, each_back}
use Rattle.export_laws.specs.ScriptTypes.{ScriptHasItsTypes}

in_range : (s : Subfield) → IsOfWidth s → IsInRange s
in_range (unsigned_of w n) fits = fits
in_range (signed_of z) fits = fits
in_range s fits = tt

abbrev AreInRange : List Subfield → Type 0
AreInRange = AllByRecursion IsInRange

parts : (row others : List Subfield) → AreInRange (row ++ others) → AreInRange row × AreInRange others
parts row others all = (each_front IsInRange row others all, each_back IsInRange row others all)

each_row : {X : Type 0} (row : X → List Subfield) (P : X → Type 0) → ((x : X) → AreInRange (row x) → P x) → (xs : List X)
    → AreInRange (flat_map row xs) → AllByRecursion P xs
each_row row P from [] all = tt
each_row row P from (x ∷ xs) all = let both = parts (row x) (flat_map row xs) all in (from x both.0, each_row row P from xs both.1)

-- a text's bytes are in two-byte units at level 2
at_level : (nall : ℕ) (a : Attr) → AreInRange (attribute_row 0 a) → HasForms (attribute_forms nall) (attribute_row nall a)
at_level nall a all = by (nall == 2)
  where
    by : (wide : Bool) → HasForms (b12 ∷ (if wide then wide_text else text) ∷ [])
        (unsigned_of 2 a.code ∷ (if wide then wide_text_of a.value else text_of a.value) ∷ [])
    by true = record { forms_are = refl; each = (all.0, (tt, tt)) }
    by false = record { forms_are = refl; each = (all.0, (tt, tt)) }

vector_typed : (v : Vector) → AreInRange (vector_subfields v) → VectorHasForms v
vector_typed v all =
    let start = name_row v.name ++ (unsigned_of 2 v.rver ∷ []) in
    let attrs = flat_map (attribute_row 0) v.attrs in
    let ends = flat_map end_row v.ends in
    let plane = flat_map plane_row v.plane in
    let with_deep = parts (start ++ attrs ++ ends ++ plane) (flat_map deep_row v.deep) all in
    let with_plane = parts (start ++ attrs ++ ends) plane with_deep.0 in
    let with_ends = parts (start ++ attrs) ends with_plane.0 in
    let with_attrs = parts start attrs with_ends.0 in
    let inserted : 1 < 256 ^ 1 = omega arith in
    record {
      identifier = record { forms_are = refl; each = (with_attrs.0.0, (with_attrs.0.1.0, (with_attrs.0.1.1.0, (inserted, tt)))) };
      attrs = each_row (attribute_row 0) _ (at_level 0) v.attrs with_attrs.1;
      ends = each_row end_row _ (λ e fits. record { forms_are = refl; each = fits }) v.ends with_ends.1;
      plane = each_row plane_row _ (λ p fits. record { forms_are = refl; each = fits }) v.plane with_plane.1;
      deep = each_row deep_row _ (λ p fits. record { forms_are = refl; each = fits }) v.deep with_deep.1;
    }

feature_typed : (nall : ℕ) (f : Feature) → AreInRange (feature_subfields f) → FeatureHasForms nall f
feature_typed nall f all =
    let start = frid_row (frid_of f) in
    let foid = foid_row f.foid in
    let attf = flat_map (attribute_row 0) f.attf in
    let natf = flat_map (attribute_row 0) f.natf in
    let partners = flat_map partner_row f.partners in
    let with_places = parts (start ++ foid ++ attf ++ natf ++ partners) (flat_map place_row f.places) all in
    let with_partners = parts (start ++ foid ++ attf ++ natf) partners with_places.0 in
    let with_natf = parts (start ++ foid ++ attf) natf with_partners.0 in
    let with_attf = parts (start ++ foid) attf with_natf.0 in
    let with_foid = parts start foid with_attf.0 in
    record {
      identifier = record { forms_are = refl; each = with_foid.0 };
      foid = record { forms_are = refl; each = with_foid.1 };
      attf = each_row (attribute_row 0) _ (at_level 0) f.attf with_attf.1;
      natf = each_row (attribute_row 0) _ (at_level nall) f.natf with_natf.1;
      partners = each_row partner_row _ (λ p fits. record { forms_are = refl; each = fits }) f.partners with_partners.1;
      places = each_row place_row _ (λ s fits. record { forms_are = refl; each = fits }) f.places with_places.1;
    }

record_typed : (nall : ℕ) (r : Rec) → AreInRange (record_subfields r) → RecordHasForms nall r
record_typed nall (V v) all = vector_typed v all
record_typed nall (F f) all = feature_typed nall f all
record_typed nall (H h) all = tt

ranges : (row : List Subfield) → All IsOfWidth row → AreInRange row
ranges row all = each_weaker IsOfWidth IsInRange in_range row (recursion_from_All IsOfWidth row all)

edit_typed : (nall : ℕ) (edit : Edit) → IsEditOfWidth edit → EditHasItsTypes nall edit
edit_typed nall (Add r) fits = record_typed nall r (ranges (record_subfields r) fits)
edit_typed nall (Set r) fits = record_typed nall r (ranges (record_subfields r) fits)
edit_typed nall (Del n) fits = tt
edit_typed nall (Head e) fits = record { uadt = fits.uadt; isdt = fits.isdt }

command_typed : (nall : ℕ) (command : Command) → IsCommand command → CommandHasItsTypes nall command
command_typed nall View can = tt
command_typed nall Commit can = tt
command_typed nall Drop can = tt
command_typed nall (Findings shown) can = tt
command_typed nall (Push edit) can = edit_typed nall edit can.1
command_typed nall (Guard name) can = tt

lines_typed : (nall : ℕ) (lines : List ScriptLine) → AllByRecursion IsLine lines → AllByRecursion (CommandHasItsTypes nall) (filter_map spoken_command lines)
lines_typed nall [] all = tt
lines_typed nall (skipped words ∷ lines) all = lines_typed nall lines all.1
lines_typed nall (spoken command ∷ lines) all = (command_typed nall command all.0, lines_typed nall lines all.1)

pub script_has_its_types : ScriptHasItsTypes
script_has_its_types nall bytes commands is =
    subst (AllByRecursion (CommandHasItsTypes nall)) (sym is.commands_are) (lines_typed nall is.lines (recursion_from_All IsLine is.lines is.each))
