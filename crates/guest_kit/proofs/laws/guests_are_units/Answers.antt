use Rattle.guest_kit.proofs.Valid.{guest_is_valid, guest_is_bound}
use Rattle.guest_kit.proofs.laws.guests_are_units.Goals as goal

pub returns-clause-valid : goal.returns-clause-valid
returns-clause-valid c = λ m answer opening. guest_is_valid m answer opening

pub returns-clause-bound : goal.returns-clause-bound
returns-clause-bound c = λ m answer opening. guest_is_bound m answer opening
