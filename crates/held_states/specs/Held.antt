-- A network whose units' states are held in another form.
use Rattle.std.specs.Prelude.{◌≡◌, map}
use Rattle.fmi_states.specs.declared.call.Call.{Call}
use Rattle.fmi_states.specs.declared.phase.Phase.{Phase}
use Rattle.fmi_states.specs.declared.reply.Reply.{Reply}
use Rattle.world_specs.specs.World.{Node, Standing, New, Live, Down, Over, World}

-- In the other form a unit answers alike, goes on to the same state in that form, and is in the same phase.
pub record IsHeldAs {S T : Type 0} (f : S → T) (answer : S → Call → Reply × S) (phase_of : S → Phase) (other : T → Call → Reply × T) (other_phase : T → Phase) : Type 0 where
  pub answers : (s : S) (c : Call) → other (f s) c ≡ ((answer s c).0, f (answer s c).1)
  pub phases : (s : S) → other_phase (f s) ≡ phase_of s

module _ {S T : Type 0} (f : S → T) where
  abbrev pub standing_as : Standing S → Standing T
  standing_as (New s) = New (f s)
  standing_as (Live s last clocks) = Live (f s) last clocks
  standing_as Down = Down
  standing_as Over = Over

  abbrev pub node_as : Node S → Node T
  node_as n = record { number = n.number; buses = n.buses; standing = standing_as n.standing }

  abbrev pub world_as : World S → World T
  world_as w = record { events = w.events; now = w.now; buses = w.buses; nodes = map node_as w.nodes }
