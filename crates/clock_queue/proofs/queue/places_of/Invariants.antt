use Rattle.clock_queue.specs.Order.{CountsUp}
use Rattle.clock_queue.proofs.queue.places_of.Given as goal

abbrev pub invariant-loop-place : goal.invariant-loop-place
invariant-loop-place l = CountsUp l.place l.places.items
