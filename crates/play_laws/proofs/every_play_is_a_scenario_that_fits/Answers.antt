use Rattle.play_laws.proofs.Plays.{play-scenario, play-by_moment, play-tick}
use Rattle.play_laws.proofs.every_play_is_a_scenario_that_fits.Goals as goal

pub returns-clause-scenario : goal.returns-clause-scenario
returns-clause-scenario c = play-scenario

pub returns-clause-by_moment : goal.returns-clause-by_moment
returns-clause-by_moment c = play-by_moment

pub returns-clause-tick : goal.returns-clause-tick
returns-clause-tick c = play-tick
