use Rattle.std.proofs.Common.{map}
use Rattle.log_lines.specs.Lines.{line_of}
use Rattle.world_core.specs.Closing.{IsClosing}
use Rattle.world_core.proofs.course.Course.close_all.Given as goal

abbrev pub invariant-loop-node : goal.invariant-loop-node
invariant-loop-node g l = IsClosing g.E.Ecu l.node l.fn.self l.self l.fn.ecus.items l.ecus.items l.fn.shared l.shared (map line_of l.lines.items)
