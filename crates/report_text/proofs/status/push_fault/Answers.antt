use Rattle.report_text.proofs.status.push_fault.Goals as goal

pub returns : goal.returns
returns c =
    let worded = rw (c.numbered-record.ensures.word, c.numbered-offset.ensures.word, c.numbered-code.ensures.word) at c.push_three.ensures in
    rw (c.numbered-record.ensures.number, c.numbered-offset.ensures.number, c.numbered-code.ensures.number, c.from.ensures) at worded
