use Rattle.binding_laws.proofs.Sound.{reply_suits, reply_is_bytes, phase_moves}
use Rattle.binding_laws.proofs.replies.replies_suit_their_calls.Goals as goal

pub returns-clause-suits : goal.returns-clause-suits
returns-clause-suits c = reply_suits

pub returns-clause-bytes : goal.returns-clause-bytes
returns-clause-bytes c = reply_is_bytes

pub returns-clause-phase : goal.returns-clause-phase
returns-clause-phase c = phase_moves
