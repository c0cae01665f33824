use Rattle.session_laws.proofs.Closing.{close_stands_ok, close_run_ok, close_few}
use Rattle.ecu_session.specs.Words.{end_of}
use Rattle.ecu_session.proofs.whole.close.Goals as goal

pub returns-clause-calls : goal.returns-clause-calls
returns-clause-calls g c = close_run_ok g.E.Ecu.answer g.E.Ecu.phase_of g.met.E.Ecu.moves _ c.requires.phase end_of _ _ c.shut.ensures.close

pub returns-clause-few : goal.returns-clause-few
returns-clause-few g c = close_few g.E.Ecu.answer g.E.Ecu.phase_of g.met.E.Ecu.moves _ c.requires.phase

pub returns-clause-phase : goal.returns-clause-phase
returns-clause-phase g c = close_stands_ok g.E.Ecu.answer g.E.Ecu.phase_of g.met.E.Ecu.moves _ c.requires.phase end_of _ _ c.shut.ensures.close
