use Rattle.fmi_binding.proofs.Imaged.{same-again, step-alone, saved-again}
use Rattle.fmi_binding.proofs.laws.what_was_saved_of_a_guest_is_made_again.Goals as goal

pub returns-clause-again : goal.returns-clause-again
returns-clause-again c = same-again

pub returns-clause-step : goal.returns-clause-step
returns-clause-step c = step-alone

pub returns-clause-saved : goal.returns-clause-saved
returns-clause-saved c = saved-again
