use Rattle.bus_sound.proofs.Among.{among-Contains}
use Rattle.play_laws.proofs.Attempts.{sender-part, listener-part}
use Rattle.play_laws.proofs.only_able_nodes_take_part.Goals as goal

pub returns-clause-sender : goal.returns-clause-sender
returns-clause-sender c b since now r m s a e = sender-part b since now r m s (among-Contains b.members m a) e

pub returns-clause-listener : goal.returns-clause-listener
returns-clause-listener c b since now r m s a l = listener-part b since now r s m (among-Contains b.members m a) (among-Contains r.listeners m.node l)
