use Rattle.std.proofs.Common.{◌≡◌, ◌<◌, ◌+◌, ◌^◌, ◌++◌, List, map}
use Rattle.log_specs.specs.Line.{Line, line_text}
use Rattle.play_run.specs.Statuses.{status_from}
use Rattle.play_run.proofs.Logs.{run_from}
use Rattle.bench_outside.specs.Pieces.{WritesAll}
use Rattle.play_run.specs.Ready.{IsReady}
use Rattle.play_run.specs.Worlds.{world_of}
use Rattle.play_run.proofs.playing.run_on.Given as goal

-- The lines that are written and those that are left are the whole log.
abbrev pub invariant-loop-event : goal.invariant-loop-event
invariant-loop-event g l = record {
  ready : IsReady (world_of l.runner);
  few : (world_of l.runner).events + l.left < 2 ^ 62;
  log : (so_far : List Line) × WritesAll g.O.Sink l.fn.out l.out (map line_text so_far)
      × (so_far ++ run_from l.stop l.left (world_of l.runner) ≡ run_from l.stop l.budget (world_of l.fn.runner));
  status : status_from l.stop l.left (world_of l.runner) ≡ status_from l.stop l.budget (world_of l.fn.runner);
  kept : g.O.Sink.faults l.out ≡ g.O.Sink.faults l.fn.out;
}

abbrev pub decreases-loop-event : goal.decreases-loop-event
decreases-loop-event g l = l.left
