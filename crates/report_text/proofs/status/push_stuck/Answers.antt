use Rattle.report_text.proofs.status.push_stuck.Goals as goal

pub returns : goal.returns
returns c = rw (c.numbered.ensures.word, c.numbered.ensures.number, c.numbered-2.ensures.word, c.numbered-2.ensures.number) at c.push_two.ensures
