use Rattle.log_laws.proofs.Ranks.{kinds-in-order}
use Rattle.log_laws.proofs.Timed.{never-fall}
use Rattle.log_laws.proofs.Endings.{lines-are-of}
use Rattle.log_laws.proofs.moments_never_fall.Goals as goal

pub returns-clause-later : goal.returns-clause-later
returns-clause-later c = never-fall

pub returns-clause-own : goal.returns-clause-own
returns-clause-own c = lines-are-of

pub returns-clause-kinds : goal.returns-clause-kinds
returns-clause-kinds c = kinds-in-order
