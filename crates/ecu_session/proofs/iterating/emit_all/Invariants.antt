use Rattle.std.proofs.Common.{◌≡◌, drop}
use Rattle.fmi_states.specs.declared.phase.Phase.TheVariants.{Event}
use Rattle.fmi_states.specs.Parts.{Spares}
use Rattle.session_specs.specs.Sequence.{in_order}
use Rattle.session_specs.specs.Session.{emission_of}
use Rattle.ecu_session.proofs.iterating.emit_all.Given as goal

abbrev pub invariant-loop-n : goal.invariant-loop-n
invariant-loop-n g l =
    let state = g.E.Ecu.state in
    record {
      gives : in_order (emission_of g.E.Ecu.answer) l.n (drop l.n l.terminals) l.emitted (state l.unit l.shared) ≡ in_order (emission_of g.E.Ecu.answer) 0 l.terminals l.fn.emitted (state l.fn.unit l.fn.shared);
      phase : g.E.Ecu.phase_of (state l.unit l.shared) ≡ Event;
      parts : g.E.Ecu.parts l.unit ≡ g.E.Ecu.parts l.fn.unit;
      here : g.E.Ecu.is_in l.unit l.shared;
      others : Spares g.E.Ecu.part (g.E.Ecu.parts l.fn.unit) l.fn.shared l.shared;
    }
