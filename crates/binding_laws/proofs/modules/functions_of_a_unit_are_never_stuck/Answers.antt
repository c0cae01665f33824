use Rattle.binding_laws.proofs.Bound.{comes_to}
use Rattle.binding_laws.proofs.modules.functions_of_a_unit_are_never_stuck.Goals as goal

pub returns : goal.returns
returns c = comes_to
