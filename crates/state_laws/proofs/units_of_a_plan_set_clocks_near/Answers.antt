use Rattle.state_laws.proofs.Clocks.{units-near}
use Rattle.state_laws.proofs.units_of_a_plan_set_clocks_near.Goals as goal

pub returns : goal.returns
returns g c = record { near = units-near }
