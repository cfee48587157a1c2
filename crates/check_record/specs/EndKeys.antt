-- What a feature names, and what the ends of an edge name. This project's own.
use Rattle.std.specs.Prelude.{List, [], ◌∷◌, map, option_and_then}
use Rattle.std.specs.Option.{option_map_or}
use Rattle.s57_types.specs.declared.cell.Cell.{Cell}
use Rattle.s57_types.specs.declared.name.RecName.{RecName}
use Rattle.s57_types.specs.declared.record.Feature.{Feature}
use Rattle.s57_types.specs.declared.record.Partner.{Partner}
use Rattle.s57_types.specs.declared.record.Spot.{Spot}
use Rattle.s57_types.specs.Heads.{head_name}
use Rattle.cell_spec.specs.Ascending.{ascending}
use Rattle.cell_spec.specs.Names.{key_order}
use Rattle.cell_spec.specs.declared.key.Key.{Key}
use Rattle.cell_spec.specs.declared.key.Key.TheVariants.{Name, Refs, Foid}
use Rattle.rule_spec.specs.Reads.{end_keys, end_keys_at}
use Rattle.rule_spec.specs.Records.{is_edge_name, vector_of}
use Rattle.near_records.specs.Near.{KeyAnswer, answer_held}
use Rattle.near_records.specs.declared.near.Answer.{Answer}

-- the names that the ends of the edge name that a key asks for
abbrev pub ends_of_key : Cell → Key → List Key
ends_of_key c (Name n) = end_keys_at c n
ends_of_key c (Refs n) = []
ends_of_key c (Foid l) = []

-- the names that the ends of an edge name that is an answer
abbrev pub ends_found : KeyAnswer → List Key
ends_found a = option_map_or end_keys (option_and_then (vector_of is_edge_name) a.found) []

abbrev pub ends_of_answer : Answer → List Key
ends_of_answer a = ends_found (answer_held a)

-- the identifiers that a feature points to
abbrev pub partner_keys : Feature → List Key
partner_keys f = map (λ (p : Partner). Foid p.to) f.partners

-- a feature's name, the head's, and those of the records that its spatial pointers name, each once
abbrev pub named_by : RecName → Feature → List Key
named_by n f = ascending key_order (Name n ∷ Name head_name ∷ map (λ (s : Spot). Name s.to) f.places)
