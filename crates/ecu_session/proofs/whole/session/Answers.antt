use Rattle.session_laws.proofs.Whole.{stands_ok, run_ok, few}
use Rattle.ecu_session.proofs.whole.session.Goals as goal

pub returns-clause-calls : goal.returns-clause-calls
returns-clause-calls g c = run_ok g.E.Ecu.answer g.E.Ecu.phase_of g.met.E.Ecu.moves c.args.d.now c.args.input.now _ c.requires.phase _ _ c.conclude.ensures.session

pub returns-clause-few : goal.returns-clause-few
returns-clause-few g c = λ clocks. few g.E.Ecu.answer g.E.Ecu.phase_of g.met.E.Ecu.moves c.args.d.now c.args.input.now _ c.requires.phase c.requires.ticked clocks

pub returns-clause-phase : goal.returns-clause-phase
returns-clause-phase g c = stands_ok g.E.Ecu.answer g.E.Ecu.phase_of g.met.E.Ecu.moves c.args.d.now c.args.input.now _ c.requires.phase _ _ c.conclude.ensures.session
