-- The sessions of the nodes of a network, one after the other. No public clause cites this file.
use Rattle.std.specs.Prelude.{◌≡◌, ◌<◌, ◌++◌, ℕ, All, List, drop, length, map, take}
use Rattle.fmi_states.specs.declared.ecu.Ecu.{Ghosts}
use Rattle.bus_specs.specs.Bus.{Bus}
use Rattle.world_specs.specs.Units.{Units}
use Rattle.world_specs.specs.World.{Node}
use Rattle.world_specs.specs.Plan.{NodePlan, units_of}
use Rattle.world_specs.specs.Sessions.{is_new, node_after, turns}
use Rattle.world_specs.specs.Sessions as model
use Rattle.world_core.specs.Bare.{Bare, bare}
use Rattle.world_core.specs.Courses.{Course, network_of}
use Rattle.world_core.specs.Held.{IsHeld, LastsAreBy}
use Rattle.world_core.specs.Left.{units_after}
use Rattle.world_core.specs.SeenTurns.{seen}
use Rattle.world_core.specs.Units.{states_of}
use Rattle.world_core.specs.declared.turns.Turn.{Turn}

-- a turn of the definitions, without the state of its node's unit
abbrev pub bare_of : {S : Type 0} → model.Turn S → Bare
bare_of x = bare x.node.number x.node.buses (is_new x.node.standing) x.out

-- The first nodes had their sessions, and those that are left lead from here to the whole.
pub record Walked {S : Type 0} (u : Units S) (bs : List Bus) (now k : ℕ) (plans : List NodePlan) (old ns : List (Node S)) (units ss : List S) (xs : List Turn) : Type 0 where
  pub nodes : take k ns ++ map (node_after u bs now) (drop k ns) ≡ map (node_after u bs now) old
  pub states : take k ss ++ units_after u bs now (drop k ns) (drop k ss) ≡ units_after u bs now old units
  pub turns : map (seen plans) xs ++ map bare_of (turns u bs now (drop k ns)) ≡ map bare_of (turns u bs now old)

-- a course whose standings and clock entries alone may differ
abbrev pub Stays : Course → Course → Type 0
Stays c after = after ≡ record c { standings = after.standings; clocks = after.clocks }

-- between the sessions of one moment: so many nodes had theirs, and the units own what they owned
pub record IsWalking {E G S : Type 0} (g : Ghosts E G S) (now k : ℕ) (old c : Course) (before es : List E) (first shared : G) (xs : List Turn) : Type 0 where
  pub held : IsHeld g c es shared
  pub lasts : LastsAreBy now c.standings
  pub stays : Stays old c
  pub parts : map g.parts es ≡ map g.parts before
  pub there : All (λ x. x.node < length old.plan.nodes) xs
  pub walked : Walked (units_of g.answer g.phase_of old.plan) old.buses now k old.plan.nodes
      (network_of old (states_of g before first)).nodes (network_of c (states_of g es shared)).nodes (states_of g before first) (states_of g es shared) xs
