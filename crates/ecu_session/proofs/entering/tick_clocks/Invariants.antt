use Rattle.std.proofs.Common.{◌≡◌, drop}
use Rattle.fmi_states.specs.declared.phase.Phase.TheVariants.{Event}
use Rattle.fmi_states.specs.Parts.{Spares}
use Rattle.session_specs.specs.Sequence.{in_order}
use Rattle.session_specs.specs.Session.{clock_tick}
use Rattle.ecu_session.proofs.entering.tick_clocks.Given as goal

abbrev pub invariant-loop-clock : goal.invariant-loop-clock
invariant-loop-clock g l =
    let state = g.E.Ecu.state in
    record {
      gives : in_order (clock_tick g.E.Ecu.answer) l.clock-index (drop l.clock-index l.clocks) tt (state l.unit l.shared) ≡ in_order (clock_tick g.E.Ecu.answer) 0 l.clocks tt (state l.fn.unit l.fn.shared);
      phase : g.E.Ecu.phase_of (state l.unit l.shared) ≡ Event;
      parts : g.E.Ecu.parts l.unit ≡ g.E.Ecu.parts l.fn.unit;
      here : g.E.Ecu.is_in l.unit l.shared;
      others : Spares g.E.Ecu.part (g.E.Ecu.parts l.fn.unit) l.fn.shared l.shared;
    }
