use Rattle.module_laws.proofs.Causes.{causes}
use Rattle.module_laws.proofs.Exact.{gives, refuses}
use Rattle.module_laws.proofs.laws.reading_is_exact.Goals as goal

pub returns-clause-gives : goal.returns-clause-gives
returns-clause-gives c = gives

pub returns-clause-refuses : goal.returns-clause-refuses
returns-clause-refuses c = refuses

pub returns-clause-causes : goal.returns-clause-causes
returns-clause-causes c = causes
