-- The status of what is left of a run, with a budget of events. No public clause cites this file.
use Rattle.std.specs.Prelude.{ℕ}
use Rattle.run_specs.specs.Run.{behind}
use Rattle.play_specs.specs.Scenario.{World, machine, next_event, status}

abbrev pub status_from : ℕ → ℕ → World → ℕ
status_from stop budget w = status (next_event stop (behind (machine stop) budget w))
