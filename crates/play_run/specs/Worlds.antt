-- The moment of a run that a runner stands at.
use Rattle.play_specs.specs.Scenario.{World}
use Rattle.play_run.specs.declared.runner.Runner.{Runner}

abbrev pub world_of : Runner → World
world_of r = record { events = r.events; now = r.moment; ahead = r.ahead.items; bus = r.medium }
