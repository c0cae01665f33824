use Rattle.state_laws.proofs.Within.{within-step, within-opens, planned-short, planned-few, opens-along}
use Rattle.state_laws.proofs.what_is_within_goes_on_so.Goals as goal

pub returns-clause-opens : goal.returns-clause-opens
returns-clause-opens g c = within-opens

pub returns-clause-step : goal.returns-clause-step
returns-clause-step g c = λ u p states after w e fit sets plan planned left next h.
    within-step u p states w e after fit sets plan (planned-short p plan states w planned) (planned-few p plan states w planned) left next h

pub returns-clause-along : goal.returns-clause-along
returns-clause-along g c = λ u p states k fit sets plan room. opens-along u p states fit sets plan k room
