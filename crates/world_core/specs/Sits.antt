-- What is left of a network's nodes and units behind the session of one node, or where it isn't called. No public clause cites this file.
use Rattle.std.specs.Prelude.{◌≡◌, ◌*◌, ℕ, List, length, Option, Some, None, slice_set}
use Rattle.fmi_states.specs.declared.ecu.Ecu.{Ghosts}
use Rattle.world_specs.specs.Plan.{NodePlan}
use Rattle.world_core.specs.Courses.{Course}
use Rattle.world_core.specs.Settled.{entries_behind, standing_behind}
use Rattle.world_core.specs.Sitting.{Sat}
use Rattle.world_core.specs.declared.sessions.Call.{Call}
use Rattle.world_core.specs.declared.turns.Turn.{Turn}

module _ {E G S : Type 0} (g : Ghosts E G S) where
  pub record Seated (now node : ℕ) (n : NodePlan) (call : Call) (turn : Turn) (c after : Course) (ss states : List S) : Type 0 where
    pub sat : Sat g n.description call.input node ss turn.out states
    pub number : turn.node ≡ node
    pub newness : turn.is_new ≡ call.is_new
    pub course : after ≡ record c {
      standings = slice_set c.standings node (standing_behind now turn.out.end);
      clocks = entries_behind now (node * 8) (length n.description.countdown) turn.out.end turn.out.dues c.clocks;
    }

  abbrev pub Sits : (now node : ℕ) → NodePlan → Option Call → Option Turn → (c after : Course) → (ss states : List S) → Type 0
  Sits now node n None None c after ss states = (after ≡ c) × (states ≡ ss)
  Sits now node n (Some call) (Some turn) c after ss states = Seated now node n call turn c after ss states
  Sits now node n None (Some turn) c after ss states = ⊥
  Sits now node n (Some call) None c after ss states = ⊥
