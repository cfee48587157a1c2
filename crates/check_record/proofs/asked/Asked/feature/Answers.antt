use Rattle.std.proofs.Common.{◌∙◌, refl, sym}
use Rattle.check_record.proofs.ReadSets.{feature_found}
use Rattle.check_record.proofs.asked.Asked.feature.Goals as goal

pub returns-clause-row : goal.returns-clause-row
returns-clause-row g c =
    let cell = g.B.Look.cell c.args.self.now.look.now in
    let name = c.args.self.now.name in
    record {
      subject = refl;
      findings =
          c.of_vec.ensures
          ∙ c.in_ok-findings.ensures cell name _ c.in_ok-reads.ensures.near c.in_ok-reads.ensures.reads c.requires
          ∙ sym (feature_found cell name c.args.feature.now c.requires);
      reads = c.in_ok-reads.ensures.reads;
    }
