use Rattle.log_laws.proofs.Answered.{each-answered}
use Rattle.log_laws.proofs.each_action_is_answered.Goals as goal

pub returns : goal.returns
returns c = record { answered = λ budget p h b e. each-answered p budget h b e }
