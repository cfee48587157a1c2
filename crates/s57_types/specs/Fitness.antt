-- Which records and heads can be written, and why not.
use Rattle.std.specs.Prelude.{ℕ, ◌&&◌, Bool, true, false, not, nat_le, nat_lt, List, [], ◌++◌, Option, Some, None, if◌then◌else◌}
use Rattle.std.specs.List.{list_all, flat_map}
use Rattle.frame_spec.specs.WrittenRecord.{record_length, field_lengths}
use Rattle.s57_types.specs.Subfield.{Subfield, is_plain}
use Rattle.s57_types.specs.FieldRows.{dsid_row, dspm_row, attribute_row, partner_row}
use Rattle.s57_types.specs.RecordFields.{written_length, length_limit, identification_length, parameter_fields, dsid_of_head, dspm_of_head}
use Rattle.s57_types.specs.declared.name.Kind.{Kind}
use Rattle.s57_types.specs.declared.name.Kind.TheVariants.{Vi, Vc, Ve, Fe, Head as HeadKind}
use Rattle.s57_types.specs.declared.record.Attr.{Attr}
use Rattle.s57_types.specs.declared.record.Rec.{Rec}
use Rattle.s57_types.specs.declared.record.Rec.TheVariants.{V, F, H}
use Rattle.s57_types.specs.declared.head.Head.{Head}
use Rattle.s57_types.specs.declared.fault.Unfit.{Unfit}
use Rattle.s57_types.specs.declared.fault.Unfit.TheVariants.{TooLong, BadText, BadName}

abbrev pub is_vector_kind : Kind → Bool
is_vector_kind Vi = true
is_vector_kind Vc = true
is_vector_kind Ve = true
is_vector_kind Fe = false
is_vector_kind HeadKind = false

abbrev pub is_feature_kind : Kind → Bool
is_feature_kind Vi = false
is_feature_kind Vc = false
is_feature_kind Ve = false
is_feature_kind Fe = true
is_feature_kind HeadKind = false

-- a vector record has a vector's name and a feature a feature's; pointers name vector records; a head is no record of a list
abbrev pub has_good_names : Rec → Bool
has_good_names (V v) = is_vector_kind v.name.kind && list_all (λ e. is_vector_kind e.to.kind) v.ends
has_good_names (F f) = is_feature_kind f.name.kind && list_all (λ s. is_vector_kind s.to.kind) f.places
has_good_names (H h) = false

-- the subfields of a record that may hold texts
abbrev pub attribute_texts : ℕ → List Attr → List Subfield
attribute_texts level = flat_map (attribute_row level)

abbrev pub text_subfields : ℕ → Rec → List Subfield
text_subfields nall (V v) = attribute_texts 0 v.attrs
text_subfields nall (F f) = attribute_texts 0 f.attf ++ attribute_texts nall f.natf ++ flat_map partner_row f.partners
text_subfields nall (H h) = []

abbrev pub has_good_texts : ℕ → Rec → Bool
has_good_texts nall rec = list_all is_plain (text_subfields nall rec)

-- why a record can't be written at the level NALL, if it can't: its names, then its texts, then its length
unfoldable pub unfitness : ℕ → Rec → Option Unfit
unfitness nall rec =
    if not (has_good_names rec) then Some BadName else
    (if not (has_good_texts nall rec) then Some BadText else
    (if nat_lt length_limit (written_length nall rec) then Some TooLong else None))

-- a head can be written: the lexical levels AALL and NALL are in range (S-57 Part 3, 2.4 and 7.3.1.2), no control byte
-- stands in a text, and neither head record is too long
unfoldable pub is_fit_head : Head → Bool
is_fit_head h = nat_le h.aall 1 && nat_le h.nall 2 && list_all is_plain (dsid_row (dsid_of_head h)) && list_all is_plain (dspm_row (dspm_of_head h))
    && nat_le (identification_length h) length_limit
    && nat_le (record_length (field_lengths (parameter_fields 0 h))) length_limit
