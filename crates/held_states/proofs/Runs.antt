-- Runs of a network whose units' states are held in another form.
use Rattle.std.proofs.Common.{◌≡◌, ℕ, List, ap, map}
use Rattle.fmi_states.specs.declared.call.Call.{Call}
use Rattle.fmi_states.specs.declared.phase.Phase.{Phase}
use Rattle.fmi_states.specs.declared.reply.Reply.{Reply}
use Rattle.bus_specs.specs.Bus.{new_bus}
use Rattle.world_specs.specs.World.{World, opening}
use Rattle.world_specs.specs.Plan.{Plan, description_of, opening_of, session_in, units_of}
use Rattle.world_specs.specs.Network.{run_lines, run_status}
use Rattle.held_states.specs.Held.{IsHeldAs, world_as}
use Rattle.held_states.proofs.Sessions.{session-as, close-as}
use Rattle.held_states.proofs.Worlds.{lines-as, status-as, opening-as}

module _ {S T : Type 0} (f : S → T) (A : S → Call → Reply × S) (P : S → Phase) (B : T → Call → Reply × T) (Q : T → Phase) (held : IsHeldAs f A P B Q) where
  pub lines-held : (p : Plan) (stop budget : ℕ) (w : World S) → run_lines (units_of B Q p) stop budget (world_as f w) ≡ run_lines (units_of A P p) stop budget w
  lines-held p = lines-as f (units_of A P p) (units_of B Q p)
      (λ node given x. session-as f A P B Q held (description_of p node) (session_in p.resolution (description_of p node) given) x)
      (λ node x. close-as f A P B Q held x)

  pub status-held : (p : Plan) (stop budget : ℕ) (w : World S) → run_status (units_of B Q p) stop budget (world_as f w) ≡ run_status (units_of A P p) stop budget w
  status-held p = status-as f (units_of A P p) (units_of B Q p)
      (λ node given x. session-as f A P B Q held (description_of p node) (session_in p.resolution (description_of p node) given) x)
      (λ node x. close-as f A P B Q held x)

pub opening-held : {S T : Type 0} (f : S → T) (p : Plan) (states : List S) → opening_of p (map f states) ≡ world_as f (opening_of p states)
opening-held f p states = ap (opening (map (λ b. new_bus b.setup b.members) p.buses)) (opening-as f 0 p.nodes states)
