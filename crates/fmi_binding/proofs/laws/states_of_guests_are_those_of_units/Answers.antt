use Rattle.fmi_binding.specs.Laws.{moves, suits, are_bytes}
use Rattle.fmi_binding.proofs.Units.{guest_behind}
use Rattle.fmi_binding.proofs.laws.states_of_guests_are_those_of_units.Goals as goal

pub returns-clause-behind : goal.returns-clause-behind
returns-clause-behind c = guest_behind

pub returns-clause-moves : goal.returns-clause-moves
returns-clause-moves c = moves

pub returns-clause-suits : goal.returns-clause-suits
returns-clause-suits c = suits

pub returns-clause-bytes : goal.returns-clause-bytes
returns-clause-bytes c = are_bytes
