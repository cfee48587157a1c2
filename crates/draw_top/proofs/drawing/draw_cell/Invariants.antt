use Rattle.draw_top.proofs.drawing.draw_cell.Given as goal

-- the counter's ledger is the one that the blank becomes
abbrev pub ghosts-draw_counted : goal.ghosts-draw_counted
ghosts-draw_counted a = record { name = a.blank.name; parts = a.blank.parts }
