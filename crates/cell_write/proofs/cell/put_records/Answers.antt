use Rattle.std.proofs.Common.{◌≡◌, ◌∙◌, ◌+◌, ◌++◌, ◌∷◌, List, ℕ, drop, sym, ap, subst, arith, append_assoc}
use Rattle.std.specs.Prelude.{None}
use Rattle.std.proofs.lemmas.List.{at_drop_more}
use Rattle.s57_types.specs.Fitness.{unfitness}
use Rattle.s57_types.specs.declared.record.Rec.{Rec}
use Rattle.file_spec.specs.EncodedCell.{record_bytes, records_bytes}
use Rattle.cell_write.proofs.cell.put_records.Goals as goal

pub put_record-requires : goal.put_record-requires
put_record-requires c =
    let rec = c.rec-item.result in
    subst (λ (r : Rec). unfitness c.args.nall r ≡ None) (sym c.rec-item.is) (c.requires.fit c.loop-rec.rec-index rec (omega arith))

pub loop-rec-preserved : goal.loop-rec-preserved
loop-rec-preserved c =
    let records = c.args.records.now in
    let nall = c.args.nall in
    let i = c.loop-rec.rec-index in
    let rec = c.rec-item.result in
    let number = c.loop-rec.number in
    let out : List ℕ = c.loop-rec.out.items in
    let rest : List ℕ = records_bytes nall (number + 1) (drop (i + 1) records) in
    let more : records_bytes nall number (drop i records) ≡ record_bytes nall number rec ++ rest =
    at_drop_more (records_bytes nall number) records i rec (omega arith) ∙ ap (λ (r : Rec). records_bytes nall number (r ∷ drop (i + 1) records))
    (sym c.rec-item.is) in
    record {
      number = omega arith;
      rest = ap (λ (x : List ℕ). x ++ rest) c.in_ok-put_record.ensures ∙ append_assoc out (record_bytes nall number rec) rest
          ∙ ap (λ (x : List ℕ). out ++ x) (sym more) ∙ c.loop-rec.invariant.rest;
    }
