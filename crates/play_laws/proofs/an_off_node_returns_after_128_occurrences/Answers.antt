use Rattle.bus_sound.proofs.Among.{among-Contains}
use Rattle.play_laws.proofs.Recovery.{finish-one-more, finish-goes-off, start-idle-spans, return-due, return-prompt}
use Rattle.play_laws.proofs.an_off_node_returns_after_128_occurrences.Goals as goal

pub returns-clause-one_more : goal.returns-clause-one_more
returns-clause-one_more c b now r m m' u = finish-one-more b now r u m m'

pub returns-clause-goes_off : goal.returns-clause-goes_off
returns-clause-goes_off c b now r m m' u = finish-goes-off b now r u m m'

pub returns-clause-idle : goal.returns-clause-idle
returns-clause-idle c = start-idle-spans

pub returns-clause-due : goal.returns-clause-due
returns-clause-due c = return-due

pub returns-clause-prompt : goal.returns-clause-prompt
returns-clause-prompt c b since seen m f a e = return-prompt b since seen m f (among-Contains b.members m a) e
