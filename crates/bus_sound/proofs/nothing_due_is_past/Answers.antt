use Rattle.bus_sound.proofs.Timed.{new_bus-in-time, enter-in-time, leave-in-time, submit-in-time, take-in-time, start-in-time, finish-in-time, recover-in-time, next-in-time}
use Rattle.bus_sound.proofs.Later.{later}
use Rattle.bus_sound.proofs.nothing_due_is_past.Goals as goal

pub returns-clause-new_bus : goal.returns-clause-new_bus
returns-clause-new_bus c = new_bus-in-time

pub returns-clause-enter : goal.returns-clause-enter
returns-clause-enter c = enter-in-time

pub returns-clause-leave : goal.returns-clause-leave
returns-clause-leave c = leave-in-time

pub returns-clause-submit : goal.returns-clause-submit
returns-clause-submit c = submit-in-time

pub returns-clause-take_inbox : goal.returns-clause-take_inbox
returns-clause-take_inbox c = take-in-time

pub returns-clause-start : goal.returns-clause-start
returns-clause-start c = start-in-time

pub returns-clause-finish : goal.returns-clause-finish
returns-clause-finish c = finish-in-time

pub returns-clause-recover : goal.returns-clause-recover
returns-clause-recover c = recover-in-time

pub returns-clause-next : goal.returns-clause-next
returns-clause-next c = next-in-time

pub returns-clause-later : goal.returns-clause-later
returns-clause-later c = later
