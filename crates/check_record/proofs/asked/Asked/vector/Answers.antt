use Rattle.std.proofs.Common.{◌≡◌, ℕ, ◌+◌, ◌*◌, ◌≤◌, List, length, ap, ◌∙◌, refl, sym, arith}
use Rattle.s57_types.specs.declared.cell.Cell.{Cell}
use Rattle.s57_types.specs.declared.name.RecName.{RecName}
use Rattle.cell_spec.specs.declared.key.Key.{Key}
use Rattle.cell_spec.specs.declared.key.Subject.TheVariants.{Rec}
use Rattle.rule_spec.specs.Reads.{read_set}
use Rattle.check_record.proofs.ReadSets.{some_keys, vector_found}
use Rattle.check_record.proofs.asked.Asked.vector.Goals as goal

pub returns-in_err-reads-clause-steps : goal.returns-in_err-reads-clause-steps
returns-in_err-reads-clause-steps g c = omega (arith, some_keys (g.B.Look.cell c.args.self.now.look.now) c.args.self.now.name)

-- what an edge's read set asks for is looked up once
within : (cell : Cell) (n : RecName) (before after : ℕ) (reads : List Key) → reads ≡ read_set cell (Rec n) → after ≤ before + length reads
    → after + 1 ≤ before + 4 * length (read_set cell (Rec n))
within cell n before after reads is h = omega (arith, h, ap length is, some_keys cell n)

pub returns-in_err-near-clause-steps : goal.returns-in_err-near-clause-steps
returns-in_err-near-clause-steps g c =
    let cell = g.B.Look.cell c.args.self.now.look.now in
    within cell c.args.self.now.name _ _ _ (c.as_slice.ensures ∙ c.in_ok-reads.ensures cell c.requires) c.near_vector.ensures.steps

pub returns-in_err-findings-clause-steps : goal.returns-in_err-findings-clause-steps
returns-in_err-findings-clause-steps g c =
    let cell = g.B.Look.cell c.args.self.now.look.now in
    within cell c.args.self.now.name _ _ _ (c.as_slice.ensures ∙ c.in_ok-reads.ensures cell c.requires) c.near_vector.ensures.steps

pub returns-clause-steps : goal.returns-clause-steps
returns-clause-steps g c =
    let cell = g.B.Look.cell c.args.self.now.look.now in
    within cell c.args.self.now.name _ _ _ (c.as_slice.ensures ∙ c.in_ok-reads.ensures cell c.requires) c.near_vector.ensures.steps

pub returns-clause-row : goal.returns-clause-row
returns-clause-row g c =
    let cell = g.B.Look.cell c.args.self.now.look.now in
    let name = c.args.self.now.name in
    let reads = c.in_ok-reads.ensures cell c.requires in
    record {
      subject = refl;
      findings =
          c.of_vec.ensures
          ∙ c.in_ok-findings.ensures cell name _ c.in_ok-near.ensures.near (c.as_slice.ensures ∙ reads) c.requires
          ∙ sym (vector_found cell name c.args.vector.now c.requires);
      reads = reads;
    }
