use Rattle.frame_laws.proofs.Unstuffing.{undone, undone-open, undone-frame}
use Rattle.frame_laws.proofs.unstuffing_undoes_stuffing.Goals as goal

pub returns-clause-stuff : goal.returns-clause-stuff
returns-clause-stuff c = undone

pub returns-clause-stuff_open : goal.returns-clause-stuff_open
returns-clause-stuff_open c = undone-open

pub returns-clause-frame : goal.returns-clause-frame
returns-clause-frame c = undone-frame
