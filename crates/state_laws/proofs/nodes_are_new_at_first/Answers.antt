use Rattle.state_laws.proofs.Opening.{first-event}
use Rattle.state_laws.proofs.Begun.{first-begins, stays-begun, new-at-first}
use Rattle.state_laws.proofs.nodes_are_new_at_first.Goals as goal

pub returns-clause-first : goal.returns-clause-first
returns-clause-first g c = first-event

pub returns-clause-begins : goal.returns-clause-begins
returns-clause-begins g c = first-begins

pub returns-clause-stays : goal.returns-clause-stays
returns-clause-stays g c = stays-begun

pub returns-clause-along : goal.returns-clause-along
returns-clause-along g c = new-at-first
