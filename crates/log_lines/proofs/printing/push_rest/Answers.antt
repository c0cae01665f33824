use Rattle.log_lines.proofs.printing.push_rest.Goals as goal

pub returns-in-ToldLost : goal.returns-in-ToldLost
returns-in-ToldLost c = rw c.in-ToldLost.is c.push_told_lost.ensures
