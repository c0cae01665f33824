use Rattle.world_core.specs.Walked.{IsWalking}
use Rattle.world_core.proofs.course.Course.sit_all.Given as goal

abbrev pub invariant-loop-node : goal.invariant-loop-node
invariant-loop-node g l = IsWalking g.E.Ecu l.now l.node l.fn.self l.self l.fn.ecus.items l.ecus.items l.fn.shared l.shared l.turns.items
