use Rattle.report_text.proofs.status.push_bad_script.Goals as goal

pub returns : goal.returns
returns c =
    let worded = rw (c.numbered-session.ensures.word, c.numbered-line.ensures.word, c.numbered-code.ensures.word) at c.push_three.ensures in
    rw (c.numbered-session.ensures.number, c.numbered-line.ensures.number, c.numbered-code.ensures.number, c.from.ensures) at worded
