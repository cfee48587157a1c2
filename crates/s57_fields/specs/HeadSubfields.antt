-- The subfields of the head's fields as they were cut, texts borrowed.
use Rattle.std.specs.Prelude.{ℕ, List, [], ◌∷◌, ◌++◌, Option}
use Rattle.std.specs.Option.{option_map, option_and_then}
use Rattle.s57_types.specs.Subfield.{Form, Subfield, text, fixed, b11, b12, b14, unsigned_of, text_of, fixed_of}
use Rattle.field_spec.specs.Cutting.{cut_row}
use Rattle.s57_fields.specs.declared.head.DspmSubfields.{DspmSubfields}
use Rattle.s57_fields.specs.declared.head.DsidSubfields.{DsidSubfields}
use Rattle.s57_fields.specs.declared.head.DsidNames.{DsidNames}
use Rattle.s57_fields.specs.declared.head.DsidDates.{DsidDates}
use Rattle.s57_fields.specs.declared.head.DsidProduct.{DsidProduct}

abbrev pub dspm_subfields : DspmSubfields → List Subfield
dspm_subfields d = unsigned_of 1 d.rcnm ∷ unsigned_of 4 d.rcid ∷ unsigned_of 1 d.hdat ∷ unsigned_of 1 d.vdat ∷ unsigned_of 1 d.sdat ∷ unsigned_of 4 d.cscl
    ∷ unsigned_of 1 d.duni ∷ unsigned_of 1 d.huni ∷ unsigned_of 1 d.puni ∷ unsigned_of 1 d.coun ∷ unsigned_of 4 d.comf ∷
    unsigned_of 4 d.somf ∷ text_of d.comt.now ∷ []

abbrev pub dsid_names : DsidNames → List Subfield
dsid_names d = unsigned_of 1 d.rcnm ∷ unsigned_of 4 d.rcid ∷ unsigned_of 1 d.expp ∷ unsigned_of 1 d.intu ∷ text_of d.dsnm.now
    ∷ text_of d.edtn.now ∷ text_of d.updn.now ∷ []

abbrev pub dsid_dates : DsidDates → List Subfield
dsid_dates d = fixed_of d.uadt ∷ fixed_of d.isdt ∷ fixed_of d.sted ∷ []

abbrev pub dsid_product : DsidProduct → List Subfield
dsid_product d = unsigned_of 1 d.prsp ∷ text_of d.psdn.now ∷ text_of d.pred.now ∷ unsigned_of 1 d.prof ∷ unsigned_of 2 d.agen ∷ text_of d.comt.now ∷ []

abbrev pub dsid_subfields : DsidSubfields → List Subfield
dsid_subfields d = dsid_names d.names ++ dsid_dates d.dates ++ dsid_product d.product

-- the forms of the groups
abbrev pub dsid_name_forms : List Form
dsid_name_forms = b11 ∷ b14 ∷ b11 ∷ b11 ∷ text ∷ text ∷ text ∷ []

abbrev pub dsid_date_forms : List Form
dsid_date_forms = fixed 8 ∷ fixed 8 ∷ fixed 4 ∷ []

abbrev pub dsid_product_forms : List Form
dsid_product_forms = b11 ∷ text ∷ text ∷ b11 ∷ b12 ∷ text ∷ []

-- three groups of forms one after the other
abbrev pub cut_groups : List Form → List Form → List Form → List ℕ → Option (List Subfield × List ℕ)
cut_groups first second third b = option_and_then (λ x. option_and_then (λ y. option_map (λ z. (x.0 ++ y.0 ++ z.0, z.1)) (cut_row third y.1))
    (cut_row second x.1)) (cut_row first b)
