-- What the rest holds completes what was read.
use Rattle.std.proofs.Common.{List, ◌++◌, length}
use Rattle.operation_specs.specs.Reading.{Item, IsReading}
use Rattle.bus_ops.specs.Views.{items_of}
use Rattle.bus_ops.proofs.reading.read_ops.Given as goal

abbrev pub invariant-loop-rest : goal.invariant-loop-rest
invariant-loop-rest l = (more : List Item) → IsReading l.rest more → IsReading l.fn.bytes (items_of l.list.items ++ more)

abbrev pub decreases-loop-rest : goal.decreases-loop-rest
decreases-loop-rest l = length l.rest
