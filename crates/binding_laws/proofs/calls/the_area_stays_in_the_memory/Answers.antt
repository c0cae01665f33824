use Rattle.binding_laws.proofs.Steady.{area_is_placed, area_is_left, area_stays}
use Rattle.binding_laws.proofs.calls.the_area_stays_in_the_memory.Goals as goal

pub returns-clause-stays : goal.returns-clause-stays
returns-clause-stays c = area_stays

pub returns-clause-instantiated : goal.returns-clause-instantiated
returns-clause-instantiated c = area_is_placed

pub returns-clause-left : goal.returns-clause-left
returns-clause-left c = area_is_left
