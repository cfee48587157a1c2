use Rattle.field_spec.proofs.FieldsBack.{field_is_decided_lem, rows_are_decided_lem}
use Rattle.field_spec.proofs.law.field_is_decided.Goals as goal

pub returns-clause-row : goal.returns-clause-row
returns-clause-row c = field_is_decided_lem

pub returns-clause-rows : goal.returns-clause-rows
returns-clause-rows c = λ level forms bytes rows can all. rows_are_decided_lem level forms bytes rows can.takes can.fits all
