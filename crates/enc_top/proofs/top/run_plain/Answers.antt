use Rattle.std.proofs.Common.{◌∙◌, map, string_bytes}
use Rattle.call_files.proofs.Answered.{none_failed}
use Rattle.enc_top.proofs.Causes.{exact_from_cause}
use Rattle.enc_top.proofs.Completed.{complete_from_exact, read_back_from_cause}
use Rattle.enc_top.proofs.Ended.{refused_end, work_end}
use Rattle.enc_top.proofs.top.run_plain.Goals as goal

pub returns-in-Err-clause-cause : goal.returns-in-Err-clause-cause
returns-in-Err-clause-cause g c =
    (refused_end ⊥ (map string_bytes c.args.words.now) _ _ _ _ _ _ _ _ c.in-Err.status
    c.in-Err.ensures.files c.in-Err.ensures.write_faults c.in-Err.ensures.asked).cause

pub returns-in-Err-clause-exact : goal.returns-in-Err-clause-exact
returns-in-Err-clause-exact g c = exact_from_cause ⊥ _ _ _ c.in-Err.status (returns-in-Err-clause-cause g c)

pub returns-in-Err-clause-complete : goal.returns-in-Err-clause-complete
returns-in-Err-clause-complete g c = complete_from_exact ⊥ _ _ _ c.in-Err.status (returns-in-Err-clause-exact g c)

pub returns-in-Err-clause-read_back : goal.returns-in-Err-clause-read_back
returns-in-Err-clause-read_back g c = read_back_from_cause ⊥ _ _ _ c.in-Err.status (returns-in-Err-clause-cause g c)

pub returns-in-Ok-clause-cause : goal.returns-in-Ok-clause-cause
returns-in-Ok-clause-cause g c =
    (work_end ⊥ (map string_bytes c.args.words.now) _ _ _ _ _ _ _ _ _ _ _ _ _ c.in-Ok.work c.finish.result
    c.in-Ok.ensures.files c.in-Ok.ensures.write_faults c.finish.ensures.read_faults c.in-Ok.ensures.asked c.finish.ensures.done).cause

pub returns-in-Ok-clause-exact : goal.returns-in-Ok-clause-exact
returns-in-Ok-clause-exact g c = exact_from_cause ⊥ _ _ _ c.finish.result (returns-in-Ok-clause-cause g c)

pub returns-in-Ok-clause-complete : goal.returns-in-Ok-clause-complete
returns-in-Ok-clause-complete g c = complete_from_exact ⊥ _ _ _ c.finish.result (returns-in-Ok-clause-exact g c)

pub returns-in-Ok-clause-read_back : goal.returns-in-Ok-clause-read_back
returns-in-Ok-clause-read_back g c = read_back_from_cause ⊥ _ _ _ c.finish.result (returns-in-Ok-clause-cause g c)

pub returns-in-Ok-clause-told_reads : goal.returns-in-Ok-clause-told_reads
returns-in-Ok-clause-told_reads g c = none_failed _ _ c.finish.result (c.finish.ensures.read_faults ∙ c.in-Ok.ensures.told_reads)
