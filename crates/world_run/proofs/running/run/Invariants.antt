use Rattle.std.proofs.Common.{◌≡◌, ◌≤◌, ◌+◌, ◌++◌, List, false, map}
use Rattle.log_specs.specs.Line.{Line, line_text}
use Rattle.world_specs.specs.Plan.{units_of}
use Rattle.world_specs.specs.Network.{run_lines, run_status}
use Rattle.bench_outside.specs.Pieces.{WritesAll}
use Rattle.world_run.proofs.running.run.Given as goal

-- The lines that are written and those that are left are the whole log.
abbrev pub invariant-loop-event : goal.invariant-loop-event
invariant-loop-event g l = record {
  goes_on : l.world.failed ≡ false;
  few : l.world.network.events + l.left ≤ l.world.plan.events;
  log : (so_far : List Line) × WritesAll g.O.Sink l.fn.out l.out (map line_text so_far)
      × (so_far ++ run_lines (units_of g.E.Ecu.answer g.E.Ecu.phase_of l.world.plan) l.world.plan.stop l.left l.world.network
      ≡ run_lines (units_of g.E.Ecu.answer g.E.Ecu.phase_of l.fn.world.plan) l.fn.world.plan.stop l.budget l.fn.world.network);
  status : run_status (units_of g.E.Ecu.answer g.E.Ecu.phase_of l.world.plan) l.world.plan.stop l.left l.world.network
      ≡ run_status (units_of g.E.Ecu.answer g.E.Ecu.phase_of l.fn.world.plan) l.fn.world.plan.stop l.budget l.fn.world.network;
  kept : g.O.Sink.faults l.out ≡ g.O.Sink.faults l.fn.out;
}

abbrev pub decreases-loop-event : goal.decreases-loop-event
decreases-loop-event g l = l.left
