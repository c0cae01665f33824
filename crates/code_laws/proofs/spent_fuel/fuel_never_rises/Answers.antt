use Rattle.code_laws.proofs.Spending.{never_rises}
use Rattle.code_laws.proofs.spent_fuel.fuel_never_rises.Goals as goal

pub returns : goal.returns
returns c = never_rises
