-- What a contract sees of a world.
use Rattle.std.specs.Prelude.{ℕ, Bool, false, List}
use Rattle.world_specs.specs.World.{World}
use Rattle.world_specs.specs.Plan.{Plan, opening_of}

-- Its plan, its network, the state of the unit of each node, also of one that is down or over, the parts of the shared value that
-- each unit owns, what the units share, and whether it has failed.
pub record Seen (S G : Type 0) : Type 0 where
  pub plan : Plan
  pub network : World S
  pub units : List S
  pub parts : List (List ℕ)
  pub shared : G
  pub failed : Bool

-- nothing has happened in the network of a plan
abbrev pub opened : {S G : Type 0} → Plan → List S → List (List ℕ) → G → Seen S G
opened p states parts shared = record { plan = p; network = opening_of p states; units = states; parts = parts; shared = shared; failed = false }
