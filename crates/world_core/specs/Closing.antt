-- The close of a network without its units. No public clause cites this file.
use Rattle.std.specs.Prelude.{◌≡◌, ◌+◌, ◌*◌, ◌++◌, ℕ, Bool, true, false, List, [], ◌∷◌, Option, Some, None, drop, flat_map, if◌then◌else◌, length, map, replicate, slice_set, take}
use Rattle.fmi_states.specs.declared.ecu.Ecu.{Ghosts}
use Rattle.log_specs.specs.Line.{Line}
use Rattle.session_specs.specs.Outcome as session
use Rattle.session_specs.specs.Outcome.{End}
use Rattle.bus_specs.specs.Bus.{Bus}
use Rattle.bus_specs.specs.Inbox.{leave}
use Rattle.world_specs.specs.Network.{close_of, failure_lines, lines_of_close, node_closed}
use Rattle.world_specs.specs.Plan.{NodePlan, units_of}
use Rattle.world_specs.specs.Units.{Units}
use Rattle.world_specs.specs.World.{Node}
use Rattle.world_core.specs.Clocks.{settled}
use Rattle.world_core.specs.Courses.{Course, network_of}
use Rattle.world_core.specs.Held.{IsHeld}
use Rattle.world_core.specs.Left.{units_closed}
use Rattle.world_core.specs.Sitting.{Closed}
use Rattle.world_core.specs.Units.{states_of}
use Rattle.world_core.specs.Walked.{Stays}
use Rattle.world_core.specs.declared.standing.Standing.{Standing}
use Rattle.world_core.specs.declared.standing.Standing.TheVariants.{New, Live, Down, Over}

abbrev pub is_live : Standing → Bool
is_live New = false
is_live (Live last) = true
is_live Down = false
is_live Over = false

-- those that are live leave every bus, where the first has this place
abbrev pub left_from : ℕ → List Standing → List Bus → List Bus
left_from place [] bs = bs
left_from place (t ∷ ts) bs = left_from (place + 1) ts (if is_live t then map (λ b. leave b place) bs else bs)

abbrev pub standing_closed : End → Standing
standing_closed session.Live = Over
standing_closed session.Over = Over
standing_closed (session.Down cause) = Down

-- a line where a close fails
abbrev pub lines_of_end : ℕ → ℕ → Option End → List Line
lines_of_end now node None = []
lines_of_end now node (Some end) = failure_lines now node end

module _ {E G S : Type 0} (g : Ghosts E G S) where
  -- the close of a live node, by its end
  pub record IsShut (node : ℕ) (n : NodePlan) (end : End) (c after : Course) (ss states : List S) : Type 0 where
    pub closed : Closed g node ss end states
    pub course : after ≡ record c {
      standings = slice_set c.standings node (standing_closed end);
      clocks = settled 0 (node * 8) (replicate (length n.description.countdown) session.Clear) c.clocks;
    }

  -- where it isn't live nothing happens
  abbrev pub Shuts : (node : ℕ) → NodePlan → Bool → Option End → (c after : Course) → (ss states : List S) → Type 0
  Shuts node n false None c after ss states = (after ≡ c) × (states ≡ ss)
  Shuts node n true (Some end) c after ss states = IsShut node n end c after ss states
  Shuts node n false (Some end) c after ss states = ⊥
  Shuts node n true None c after ss states = ⊥

-- The first nodes were closed, and those that are left lead from here to the whole.
pub record ClosedSoFar {S : Type 0} (u : Units S) (now k : ℕ) (old ns : List (Node S)) (units ss : List S) (ls : List Line) : Type 0 where
  pub nodes : take k ns ++ map (node_closed u) (drop k ns) ≡ map (node_closed u) old
  pub states : take k ss ++ units_closed u (drop k ns) (drop k ss) ≡ units_closed u old units
  pub lines : ls ++ flat_map (λ n. lines_of_close now n.number (close_of u n)) (drop k ns) ≡ flat_map (λ n. lines_of_close now n.number (close_of u n)) old

pub record IsClosing {E G S : Type 0} (g : Ghosts E G S) (k : ℕ) (old c : Course) (before es : List E) (first shared : G) (ls : List Line) : Type 0 where
  pub held : IsHeld g c es shared
  pub stays : Stays old c
  pub parts : map g.parts es ≡ map g.parts before
  pub so_far : ClosedSoFar (units_of g.answer g.phase_of old.plan) old.now k
      (network_of old (states_of g before first)).nodes (network_of c (states_of g es shared)).nodes (states_of g before first) (states_of g es shared) ls
