use Rattle.std.proofs.lemmas.Result.{on_ok_weaker}
use Rattle.history_spec.specs.ReportText.{form_words}
use Rattle.report_text.proofs.Lines.{refused_text}
use Rattle.report_text.proofs.reply.push_formed.Goals as goal

pub returns : goal.returns
returns c = on_ok_weaker c.push_text-2.result (refused_text c.args.out.now.items _ _ _
    (form_words c.args.fault) c.in_ok-push_text.ensures.ok c.in_ok-push_form_words.ensures) c.push_text-2.ensures.ok
