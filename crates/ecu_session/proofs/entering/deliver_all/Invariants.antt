use Rattle.std.proofs.Common.{◌≡◌, drop}
use Rattle.fmi_states.specs.declared.phase.Phase.TheVariants.{Event}
use Rattle.fmi_states.specs.Parts.{Spares}
use Rattle.session_specs.specs.Sequence.{in_order}
use Rattle.session_specs.specs.Session.{delivery_from}
use Rattle.ecu_session.proofs.entering.deliver_all.Given as goal

abbrev pub invariant-loop-n : goal.invariant-loop-n
invariant-loop-n g l =
    let state = g.E.Ecu.state in
    record {
      gives : in_order (delivery_from g.E.Ecu.answer l.inbox) l.n (drop l.n l.terminals) tt (state l.unit l.shared) ≡ in_order (delivery_from g.E.Ecu.answer l.inbox) 0 l.terminals tt (state l.fn.unit l.fn.shared);
      phase : g.E.Ecu.phase_of (state l.unit l.shared) ≡ Event;
      parts : g.E.Ecu.parts l.unit ≡ g.E.Ecu.parts l.fn.unit;
      here : g.E.Ecu.is_in l.unit l.shared;
      others : Spares g.E.Ecu.part (g.E.Ecu.parts l.fn.unit) l.fn.shared l.shared;
    }
