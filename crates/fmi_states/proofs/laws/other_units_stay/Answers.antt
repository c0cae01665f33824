-- What a unit leaves, another one shares before and after, so the trait's laws on parts apply.
use Rattle.fmi_states.proofs.Spared.{spares_shares}
use Rattle.fmi_states.proofs.laws.other_units_stay.Goals as goal

pub returns-clause-state : goal.returns-clause-state
returns-clause-state g c = λ e other s t spares disjoint here.
    g.met.E.Ecu.state_by_parts other s t here (spares_shares spares disjoint)

pub returns-clause-here : goal.returns-clause-here
returns-clause-here g c = λ e other s t spares disjoint here.
    g.met.E.Ecu.in_by_parts other s t here (spares_shares spares disjoint)
