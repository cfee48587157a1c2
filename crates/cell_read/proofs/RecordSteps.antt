-- What a record says, from the values of its fields.
use Rattle.std.proofs.Common.{◌≡◌, ℕ, Bool, true, false, List, [], Option, None, Result, Ok, Err, refl, sym, ap, ◌∙◌}
use Rattle.frame_spec.specs.RecordFrame.{Field}
use Rattle.s57_types.specs.declared.record.Rec.{Rec}
use Rattle.file_spec.specs.DecodedCell.{general_information, geographic_reference, is_general_information, is_geographic_reference, vector_record}
use Rattle.file_spec.specs.DecodedCell.{feature_record}
use Rattle.file_spec.specs.RecordFaults.{◌>>=◌, ◌>>◌, demand}
use Rattle.file_spec.specs.RecordReading.{record_type, fields_fault}
use Rattle.file_spec.specs.declared.fault.RecordFault.{RecordFault}
use Rattle.file_spec.specs.declared.fault.RecordFault.TheVariants.{HeadOrder}
use Rattle.file_spec.specs.declared.tag.RecordType.{RecordType}
use Rattle.file_spec.specs.declared.tag.RecordType.TheVariants as types
use Rattle.cell_read.specs.Gives.{GivesRecord, IsFault}
use Rattle.cell_read.specs.RecordsFrom.{fields_then, general_information_from, geographic_reference_from, vector_from, feature_from}
use Rattle.cell_read.specs.ValuesOf.{values_of}
use Rattle.cell_read.specs.declared.refusal.RecordRefusal.{RecordRefusal}
use Rattle.cell_read.specs.declared.refusal.RecordRefusal.TheVariants.{Fault, NoMemory}
use Rattle.cell_read.specs.declared.values.FieldValues.{FieldValues}

-- a step that has a fault is the last
pub step_fails : {X : Type 0} (found : Option RecordFault) (others : Result X RecordFault) (r : RecordRefusal) → IsFault r found
    → GivesRecord {X = X} (Err r) (found >> others)
step_fails found others (Fault fault) is = rw is refl
step_fails found others NoMemory is = tt

pub step_passes : {X : Type 0} (found : Option RecordFault) (others : Result X RecordFault) → found ≡ None → (found >> others) ≡ others
step_passes found others is = rw is refl

-- what is said by the values that were read
pub fields_are : {X : Type 0} (nall : ℕ) (type : RecordType) (meaning : FieldValues → Result X RecordFault) (fields : List Field)
    (v : FieldValues) → v ≡ values_of nall fields
    → fields_fault nall type [] fields ≡ None → fields_then nall type meaning fields ≡ meaning v
fields_are nall type meaning fields v is good = step_passes _ (meaning (values_of nall fields)) good ∙ ap meaning (sym is)

vector_parts : (fields : List Field) → vector_record fields ≡ fields_then 0 types.Vector vector_from fields
unfolding values_of
vector_parts fields = refl

feature_parts : (nall : ℕ) (fields : List Field) → feature_record nall fields ≡ fields_then nall types.Feature feature_from fields
unfolding values_of
feature_parts nall fields = refl

-- a head record is asked for its type, and then its fields count
abbrev head_then : {X : Type 0} → (RecordType → Bool) → RecordType → (FieldValues → Result X RecordFault) → List Field → Result RecordType RecordFault
    → Result X RecordFault
head_then right type meaning fields found = found >>= λ t. demand (right t) HeadOrder >> fields_then 0 type meaning fields

-- what follows of a head record by its type
pub record HeadSteps {X : Type 0} (defined : List Field → Result X RecordFault) (right : RecordType → Bool) (type : RecordType)
    (meaning : FieldValues → Result X RecordFault) : Type 0 where
  pub is : (fields : List Field) (t : RecordType) → record_type fields ≡ Ok t → right t ≡ true → defined fields ≡ fields_then 0 type meaning fields
  pub order : (fields : List Field) (t : RecordType) → record_type fields ≡ Ok t → right t ≡ false → defined fields ≡ Err HeadOrder
  pub fails : (fields : List Field) (fault : RecordFault) → record_type fields ≡ Err fault → defined fields ≡ Err fault

head_steps : {X : Type 0} (defined : List Field → Result X RecordFault) (right : RecordType → Bool) (type : RecordType)
    (meaning : FieldValues → Result X RecordFault) → ((fields : List Field) → defined fields ≡ head_then right type meaning fields (record_type fields))
    → HeadSteps defined right type meaning
head_steps defined right type meaning parts = record {
  is = λ fields t is good. typed fields t true is good;
  order = λ fields t is other. typed fields t false is other;
  fails = λ fields fault is. parts fields ∙ ap (head_then right type meaning fields) is;
}
  where
    typed : (fields : List Field) (t : RecordType) (good : Bool) → record_type fields ≡ Ok t → right t ≡ good
        → defined fields ≡ (demand good HeadOrder >> fields_then 0 type meaning fields)
    typed fields t good is right_is = parts fields ∙ ap (head_then right type meaning fields) is
        ∙ ap (λ b. demand b HeadOrder >> fields_then 0 type meaning fields) right_is

general_parts : (fields : List Field) → general_information fields ≡
    head_then is_general_information types.GeneralInformation general_information_from fields (record_type fields)
unfolding general_information values_of
general_parts fields = refl

geographic_parts : (fields : List Field) → geographic_reference fields ≡
    head_then is_geographic_reference types.GeographicReference geographic_reference_from fields (record_type fields)
unfolding geographic_reference values_of
geographic_parts fields = refl

pub vector_fails : (fields : List Field) (r : RecordRefusal) → IsFault r (fields_fault 0 types.Vector [] fields)
    → GivesRecord {X = Rec} (Err r) (vector_record fields)
vector_fails fields r is = rw (vector_parts fields) (step_fails (fields_fault 0 types.Vector [] fields) (vector_from (values_of 0 fields)) r is)

pub vector_is : (fields : List Field) (v : FieldValues) → v ≡ values_of 0 fields → fields_fault 0 types.Vector [] fields ≡ None
    → vector_record fields ≡ vector_from v
vector_is fields v is good = vector_parts fields ∙ fields_are 0 types.Vector vector_from fields v is good

pub feature_fails : (nall : ℕ) (fields : List Field) (r : RecordRefusal) → IsFault r (fields_fault nall types.Feature [] fields)
    → GivesRecord {X = Rec} (Err r) (feature_record nall fields)
feature_fails nall fields r is = rw (feature_parts nall fields)
    (step_fails (fields_fault nall types.Feature [] fields) (feature_from (values_of nall fields)) r is)

pub feature_is : (nall : ℕ) (fields : List Field) (v : FieldValues) → v ≡ values_of nall fields
    → fields_fault nall types.Feature [] fields ≡ None → feature_record nall fields ≡ feature_from v
feature_is nall fields v is good = feature_parts nall fields ∙ fields_are nall types.Feature feature_from fields v is good

pub general : HeadSteps general_information is_general_information types.GeneralInformation general_information_from
general = head_steps general_information is_general_information types.GeneralInformation general_information_from general_parts

pub geographic : HeadSteps geographic_reference is_geographic_reference types.GeographicReference geographic_reference_from
geographic = head_steps geographic_reference is_geographic_reference types.GeographicReference geographic_reference_from geographic_parts

-- a result is what is defined
pub gives_result : {X : Type 0} (defined : Result X RecordFault) (x : X) → defined ≡ Ok x → GivesRecord (Ok x) defined
gives_result defined x is = is

pub gives_fault_of : {X : Type 0} (defined : Result X RecordFault) (fault : RecordFault) (r : RecordRefusal) → r ≡ Fault fault
    → defined ≡ Err fault → GivesRecord {X = X} (Err r) defined
gives_fault_of defined fault r of is = rw of is
