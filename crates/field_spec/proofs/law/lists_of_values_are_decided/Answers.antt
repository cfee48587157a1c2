use Rattle.field_spec.proofs.DecidedFields.{attributes_decided as attributes, partners_decided as partners, places_decided as places}
use Rattle.field_spec.proofs.DecidedFields.{ends_decided as ends, plane_decided as plane, deep_decided as deep}
use Rattle.field_spec.proofs.law.lists_of_values_are_decided.Goals as goal

pub returns : goal.returns
returns c =
    record { attributes = attributes; partners = partners; places = places; ends = ends; plane = plane; deep = deep }
