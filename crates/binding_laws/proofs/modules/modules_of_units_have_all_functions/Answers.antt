use Rattle.binding_laws.proofs.Bound.{is_there}
use Rattle.binding_laws.proofs.modules.modules_of_units_have_all_functions.Goals as goal

pub returns : goal.returns
returns c = is_there
