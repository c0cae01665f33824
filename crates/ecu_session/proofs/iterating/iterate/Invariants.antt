use Rattle.std.proofs.Common.{◌≡◌, ◌-◌}
use Rattle.fmi_states.specs.declared.phase.Phase.TheVariants.{Event}
use Rattle.fmi_states.specs.Parts.{Spares}
use Rattle.session_specs.specs.Session.{iterations}
use Rattle.ecu_session.proofs.iterating.iterate.Given as goal

abbrev pub invariant-loop-done : goal.invariant-loop-done
invariant-loop-done g l =
    let state = g.E.Ecu.state in
    record {
      gives : iterations g.E.Ecu.answer l.terminals (16 - l.done) l.emitted (state l.unit l.shared) ≡ iterations g.E.Ecu.answer l.terminals 16 l.fn.emitted (state l.fn.unit l.fn.shared);
      phase : g.E.Ecu.phase_of (state l.unit l.shared) ≡ Event;
      parts : g.E.Ecu.parts l.unit ≡ g.E.Ecu.parts l.fn.unit;
      here : g.E.Ecu.is_in l.unit l.shared;
      others : Spares g.E.Ecu.part (g.E.Ecu.parts l.fn.unit) l.fn.shared l.shared;
    }
