use Rattle.workroom.proofs.turn.answer.Given as goal

-- the counter is the one that the blank becomes
abbrev pub ghosts-answer_commit : goal.ghosts-answer_commit
ghosts-answer_commit a = record { name = a.blank.name; parts = a.blank.parts }
