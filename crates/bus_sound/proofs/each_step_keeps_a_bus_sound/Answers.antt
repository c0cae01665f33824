use Rattle.bus_sound.proofs.Opened.{new_bus-sound}
use Rattle.bus_sound.proofs.Quiet.{enter-sound, take_inbox-sound, recover-sound}
use Rattle.bus_sound.proofs.Left.{leave-sound}
use Rattle.bus_sound.proofs.Finished.{finish-sound}
use Rattle.bus_sound.proofs.Started.{start-sound}
use Rattle.bus_sound.proofs.Submitted.{submit-sound, submission_of-fits}
use Rattle.bus_sound.proofs.each_step_keeps_a_bus_sound.Goals as goal

pub returns-clause-new_bus : goal.returns-clause-new_bus
returns-clause-new_bus c = new_bus-sound

pub returns-clause-enter : goal.returns-clause-enter
returns-clause-enter c = enter-sound

pub returns-clause-leave : goal.returns-clause-leave
returns-clause-leave c = leave-sound

pub returns-clause-take_inbox : goal.returns-clause-take_inbox
returns-clause-take_inbox c = take_inbox-sound

pub returns-clause-finish : goal.returns-clause-finish
returns-clause-finish c = finish-sound

pub returns-clause-recover : goal.returns-clause-recover
returns-clause-recover c = recover-sound

pub returns-clause-start : goal.returns-clause-start
returns-clause-start c = start-sound

pub returns-clause-submit : goal.returns-clause-submit
returns-clause-submit c = submit-sound

pub returns-clause-submission_of : goal.returns-clause-submission_of
returns-clause-submission_of c = submission_of-fits
