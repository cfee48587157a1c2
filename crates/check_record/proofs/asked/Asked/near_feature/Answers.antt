use Rattle.std.proofs.Common.{◌≡◌, ◌≤◌, ◌+◌, ◌*◌, ℕ, List, Some, length, ap, ◌∙◌, arith}
use Rattle.s57_types.specs.declared.cell.Cell.{Cell}
use Rattle.s57_types.specs.declared.name.RecName.{RecName}
use Rattle.s57_types.specs.declared.record.Feature.{Feature}
use Rattle.s57_types.specs.declared.record.Rec.TheVariants.{F}
use Rattle.cell_spec.specs.declared.key.Key.{Key}
use Rattle.cell_spec.specs.declared.key.Subject.TheVariants.{Rec}
use Rattle.cell_spec.specs.Lookup.{lookup_record}
use Rattle.rule_spec.specs.Reads.{read_set}
use Rattle.near_records.proofs.NearAnswers.{near_are_answers}
use Rattle.check_record.specs.EndKeys.{named_by}
use Rattle.check_record.proofs.ReadSets.{feature_places, some_keys}
use Rattle.check_record.proofs.asked.Asked.near_feature.Goals as goal

-- the records that a feature names are looked up
named_within : (cell : Cell) (n : RecName) (f : Feature) → lookup_record cell n ≡ Some (F f) → (before after : ℕ) (named : List Key)
    → named ≡ named_by n f → after ≤ before + length named → after + 1 ≤ before + 4 * length (read_set cell (Rec n))
named_within cell n f found before after named is first =
    omega (arith, first, ap length is, feature_places cell n f found, some_keys cell n)

-- then all that it reads
steps_within : (cell : Cell) (n : RecName) (f : Feature) → lookup_record cell n ≡ Some (F f) → (before between after : ℕ) (named reads : List Key)
    → named ≡ named_by n f → (named ≡ named_by n f → reads ≡ read_set cell (Rec n)) → between ≤ before + length named → after ≤ between + length reads
    → after + 1 ≤ before + 4 * length (read_set cell (Rec n))
steps_within cell n f found before between after named reads named_is reads_is first then =
    omega (arith, first, then, ap length named_is, ap length (reads_is named_is), feature_places cell n f found, some_keys cell n)

pub returns-in_err-names-clause-steps : goal.returns-in_err-names-clause-steps
returns-in_err-names-clause-steps g c = omega (arith, some_keys (g.B.Look.cell c.args.self.now.look.now) c.args.self.now.name)

pub returns-in_err-known-clause-steps : goal.returns-in_err-known-clause-steps
returns-in_err-known-clause-steps g c =
    named_within (g.B.Look.cell c.args.self.now.look.now) c.args.self.now.name c.args.feature.now c.requires _ _ _
    (c.as_slice-named.ensures ∙ c.in_ok-names.ensures) c.gather.ensures.steps

pub returns-in_err-reads-clause-steps : goal.returns-in_err-reads-clause-steps
returns-in_err-reads-clause-steps g c =
    named_within (g.B.Look.cell c.args.self.now.look.now) c.args.self.now.name c.args.feature.now c.requires _ _ _
    (c.as_slice-named.ensures ∙ c.in_ok-names.ensures) c.gather.ensures.steps

pub gather_beside-requires : goal.gather_beside-requires
gather_beside-requires g c = near_are_answers (g.B.Look.cell c.args.self.now.look.now) c.as_slice-named.result.now _ c.in_ok-known.ensures.near

pub returns-clause-reads : goal.returns-clause-reads
returns-clause-reads g c =
    c.in_ok-reads.ensures (g.B.Look.cell c.args.self.now.look.now) c.args.self.now.name c.requires (c.as_slice-named.ensures ∙ c.in_ok-names.ensures)
    c.in_ok-known.ensures.near

pub returns-in_err-near-clause-steps : goal.returns-in_err-near-clause-steps
returns-in_err-near-clause-steps g c =
    steps_within (g.B.Look.cell c.args.self.now.look.now) c.args.self.now.name c.args.feature.now c.requires _ _ _ _ _
    (c.as_slice-named.ensures ∙ c.in_ok-names.ensures) (λ named. c.as_slice.ensures ∙ c.in_ok-reads.ensures _ _ c.requires named c.in_ok-known.ensures.near)
    c.gather.ensures.steps c.gather_beside.ensures.steps

pub returns-clause-steps : goal.returns-clause-steps
returns-clause-steps g c =
    steps_within (g.B.Look.cell c.args.self.now.look.now) c.args.self.now.name c.args.feature.now c.requires _ _ _ _ _
    (c.as_slice-named.ensures ∙ c.in_ok-names.ensures) (λ named. c.as_slice.ensures ∙ c.in_ok-reads.ensures _ _ c.requires named c.in_ok-known.ensures.near)
    c.gather.ensures.steps c.gather_beside.ensures.steps
