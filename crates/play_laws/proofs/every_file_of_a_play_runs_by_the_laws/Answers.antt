use Rattle.play_specs.specs.Play.{scenario_of}
use Rattle.log_laws.proofs.Timed.{never-fall}
use Rattle.log_laws.proofs.Answered.{each-answered}
use Rattle.log_laws.proofs.EventCount.{end-tells}
use Rattle.play_laws.proofs.Plays.{play-scenario, play-by_moment, play-tick}
use Rattle.play_laws.proofs.every_file_of_a_play_runs_by_the_laws.Goals as goal

pub returns-clause-later : goal.returns-clause-later
returns-clause-later c bytes p budget is = never-fall budget (scenario_of p) (play-scenario p is.0) (play-by_moment p is.0)

pub returns-clause-answered : goal.returns-clause-answered
returns-clause-answered c bytes p budget is done = each-answered (scenario_of p) budget (play-scenario p is.0) (play-by_moment p is.0) done

pub returns-clause-events : goal.returns-clause-events
returns-clause-events c bytes p budget is = end-tells (scenario_of p) (play-tick p is.0) budget (play-scenario p is.0) (play-by_moment p is.0)
