use Rattle.binding_laws.proofs.Firsts.{first_is}
use Rattle.binding_laws.proofs.modules.a_binding_fault_is_the_first.Goals as goal

pub returns : goal.returns
returns c = first_is
