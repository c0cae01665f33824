use Rattle.state_laws.proofs.Opening.{opens-bounded}
use Rattle.state_laws.proofs.Moments.{buses-keep, clocks-keep}
use Rattle.state_laws.proofs.what_is_bounded_goes_on_so.Goals as goal

pub returns-clause-opens : goal.returns-clause-opens
returns-clause-opens g c = opens-bounded

pub returns-clause-buses : goal.returns-clause-buses
returns-clause-buses g c = λ u limit bit ids w e l i f h. buses-keep u limit bit ids i w e l f h

pub returns-clause-clocks : goal.returns-clause-clocks
returns-clause-clocks g c = clocks-keep
