use Rattle.std.proofs.Common.{◌≡◌, ◌+◌, ◌<◌, length, map, string_bytes, sym, ap, ◌∙◌, subst, arith}
use Rattle.std.proofs.Common.{[], ◌∷◌, All, Err, Ok, Global, IfSome, length-append}
use Rattle.std.specs.Prelude.{Vec, slice_index_or}
use Rattle.script_text.specs.declared.script.Script.{Script}
use Rattle.std.proofs.lemmas.List.{length-map}
use Rattle.std.proofs.lemmas.Result.{err_from_is_err_and}
use Rattle.std.proofs.lemmas.List.Elements.{All-push}
use Rattle.export_laws.specs.ExportedCells.{IsScriptOfText}
use Rattle.sessions.specs.Replays.{IsShortScript}
use Rattle.call_files.specs.Inputs.{AreScripts, EndTellsReads, IsAmong, IsFile, IsReachedScript, ScriptIs, ScriptsAre, Tells}
use Rattle.call_files.proofs.Answered.{both_told, first_bad, name_there, reached_script, scripts_more, status_of_more, tells_later}
use Rattle.call_files.proofs.script_input.scripts_in_files.Goals as goal

pub returns-in_err-script-clause-tells : goal.returns-in_err-script-clause-tells
returns-in_err-script-clause-tells g c =
    let names = map string_bytes c.args.names.now in
    let before = c.loop-k.invariant in
    let within = c.loop-k-test.true in
    let there = ap (λ k. slice_index_or names k []) before.many
    ∙ name_there c.args.names.now c.loop-k.k c.index-names-k.result within c.index-names-k.is ∙ sym c.as_str.ensures.value in
    let inside : length c.loop-k.scripts.items < length names =
    (let many = before.many in let all = length-map c.args.names.now string_bytes in omega (arith, within, many, all)) in
    let status = c.in_err-script.field-0.0 in
    let refused = err_from_is_err_and c.from_residual.result c.from_residual.ensures.1 in
    rw (refused.1, refused.2) (tells_later (λ script. script) (λ (scripts : Vec Script Global). scripts.items) (ScriptIs (c.loop-k.k + 1) c.as_str.result.now)
    (ScriptsAre names) (IsFile c.as_str.result.now) (λ fs n. IsReachedScript names fs n) (λ fs. AreScripts names fs c.loop-k.scripts.items)
    (g.H.Shelf.files c.args.shelf.now) (g.H.Shelf.read_faults c.args.shelf.now) (g.H.Shelf.read_faults c.loop-k.shelf)
    (g.H.Shelf.read_faults c.script_in_file.new.shelf) status
    (let none = before.read_faults in omega (arith, none)) before.good
    (λ fs good bad. first_bad names fs c.loop-k.scripts.items c.as_str.result.now status
    inside there good (subst (λ n. ScriptIs (n + 1) c.as_str.result.now fs (Err status)) (sym before.many) bad))
    (λ fs other good is. reached_script names fs c.loop-k.scripts.items c.as_str.result.now other inside there good is)
    (subst (λ files. Tells (λ script. script) (ScriptIs (c.loop-k.k + 1) c.as_str.result.now) (IsFile c.as_str.result.now) files
    (g.H.Shelf.read_faults c.loop-k.shelf) (g.H.Shelf.read_faults c.script_in_file.new.shelf) (Err status)) before.files
    c.in_err-script.ensures.tells))

pub returns-in_err-script-clause-status : goal.returns-in_err-script-clause-status
returns-in_err-script-clause-status g c =
    let names = map string_bytes c.args.names.now in
    let within = c.loop-k-test.true in
    let there = name_there c.args.names.now c.loop-k.k c.index-names-k.result within c.index-names-k.is ∙ sym c.as_str.ensures.value in
    let inside : c.loop-k.k < length names = (let all = length-map c.args.names.now string_bytes in omega (arith, within, all)) in
    let refused = err_from_is_err_and c.from_residual.result c.from_residual.ensures.1 in
    rw (refused.1, refused.2) (status_of_more (λ n. n ≡ c.as_str.result.now) (IsAmong names) c.in_err-script.field-0.0
    (λ n is. (c.loop-k.k, inside, is ∙ sym there)) c.in_err-script.ensures.status)

pub returns-in_err-script-clause-told_reads : goal.returns-in_err-script-clause-told_reads
returns-in_err-script-clause-told_reads g c =
    let refused = err_from_is_err_and c.from_residual.result c.from_residual.ensures.1 in
    rw (refused.1, refused.2) (subst (λ n. EndTellsReads n (g.H.Shelf.read_faults c.script_in_file.new.shelf) c.in_err-script.field-0.0)
    c.loop-k.invariant.read_faults c.in_err-script.ensures.told_reads)

pub loop-k-preserved : goal.loop-k-preserved
loop-k-preserved g c =
    let names = map string_bytes c.args.names.now in
    let before = c.loop-k.invariant in
    let within = c.loop-k-test.true in
    let scripts = c.loop-k.scripts.items in
    let there = ap (λ k. slice_index_or names k []) before.many
    ∙ name_there c.args.names.now c.loop-k.k c.index-names-k.result within c.index-names-k.is ∙ sym c.as_str.ensures.value in
    let tells = subst (λ files. Tells (λ script. script) (ScriptIs (c.loop-k.k + 1) c.as_str.result.now) (IsFile c.as_str.result.now) files
    (g.H.Shelf.read_faults c.loop-k.shelf) (g.H.Shelf.read_faults c.script_in_file.new.shelf) (Ok c.in_ok-script.script)) before.files
    c.in_ok-script.ensures.tells in
    let pushed = c.in_ok-push_script.ensures in
    record {
      many =
          (let one = ap length pushed in let more = length-append scripts (c.in_ok-script.script ∷ []) in let many = before.many in
          omega (arith, one, more, many));
      good = subst (λ all. IfSome (g.H.Shelf.files c.args.shelf.now) (λ fs. AreScripts names fs all)) (sym pushed)
          (both_told (g.H.Shelf.files c.args.shelf.now) before.good tells
          (λ fs good next. scripts_more names fs scripts c.as_str.result.now c.in_ok-script.script there good
          (subst (λ n. ScriptIs (n + 1) c.as_str.result.now fs (Ok c.in_ok-script.script)) (sym before.many) next)));
      short = subst (All IsShortScript) (sym pushed) (All-push IsShortScript scripts c.in_ok-script.script before.short c.in_ok-script.ensures.short);
      of_texts = subst (All IsScriptOfText) (sym pushed) (All-push IsScriptOfText scripts c.in_ok-script.script before.of_texts c.in_ok-script.ensures.of_text);
      files = c.in_ok-script.ensures.files ∙ before.files;
      read_faults = c.in_ok-script.ensures.told_reads ∙ before.read_faults;
      write_faults = c.in_ok-script.ensures.write_faults ∙ before.write_faults;
    }
