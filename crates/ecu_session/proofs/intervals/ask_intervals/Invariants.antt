use Rattle.std.proofs.Common.{◌≡◌, drop}
use Rattle.fmi_states.specs.declared.phase.Phase.TheVariants.{Event}
use Rattle.fmi_states.specs.Parts.{Spares}
use Rattle.session_specs.specs.Sequence.{in_order}
use Rattle.session_specs.specs.Session.{interval_call}
use Rattle.ecu_session.proofs.intervals.ask_intervals.Given as goal

abbrev pub invariant-loop-n : goal.invariant-loop-n
invariant-loop-n g l =
    let state = g.E.Ecu.state in
    record {
      gives : in_order (interval_call g.E.Ecu.answer l.input) l.n (drop l.n l.clocks) l.dues (state l.unit l.shared) ≡ in_order (interval_call g.E.Ecu.answer l.input) 0 l.clocks l.fn.dues (state l.fn.unit l.fn.shared);
      phase : g.E.Ecu.phase_of (state l.unit l.shared) ≡ Event;
      parts : g.E.Ecu.parts l.unit ≡ g.E.Ecu.parts l.fn.unit;
      here : g.E.Ecu.is_in l.unit l.shared;
      others : Spares g.E.Ecu.part (g.E.Ecu.parts l.fn.unit) l.fn.shared l.shared;
    }
