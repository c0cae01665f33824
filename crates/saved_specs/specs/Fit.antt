-- Which states of a network fit its plan and its units, so that a run may go on from them: what holds in every state of a run.
-- Contracts cite this module.
use Rattle.std.specs.Prelude.{◌≡◌, ◌<◌, ℕ, ◌^◌, true, All, List, [], ◌∷◌, length, ⊤}
use Rattle.fmi_states.specs.declared.phase.Phase.TheVariants.{Step}
use Rattle.code_specs.specs.Stores.{pages}
use Rattle.wasm_machine.specs.Making.{suits}
use Rattle.binding_specs.specs.Guests.{Guest}
use Rattle.binding_laws.specs.Words.{HasArea}
use Rattle.world_specs.specs.World.{World, Node, Standing, New, Live, Down, Over}
use Rattle.world_specs.specs.Plan.{Plan}
use Rattle.state_laws.specs.Words.{IsAsPlanned, HasClocks, clocks_in}
use Rattle.state_laws.specs.Within.{IsWithin}

-- ---- guests

-- a guest in Step Mode, with the code, description and budget of a fresh one, and a memory and globals that its code may have
pub record IsSuited (fresh g : Guest) : Type 0 where
  pub same : g ≡ record fresh { phase = Step; area = g.area; store = g.store }
  pub store : suits fresh.code (pages g.store) g.store.bytes g.store.globals ≡ true
  pub area : HasArea g
  pub address : g.area < 2 ^ 32

-- what stands at a node whose fresh guest is this one
abbrev pub StandsSuited : Guest → Standing Guest → Type 0
StandsSuited fresh (New g) = g ≡ fresh
StandsSuited fresh (Live g last clocks) = IsSuited fresh g
StandsSuited fresh Down = ⊤
StandsSuited fresh Over = ⊤

-- one fresh guest for each node, in its place
abbrev pub AreSuited : List Guest → List (Node Guest) → Type 0
AreSuited [] [] = ⊤
AreSuited [] (n ∷ ns) = ⊥
AreSuited (g ∷ gs) [] = ⊥
AreSuited (g ∷ gs) (n ∷ ns) = StandsSuited g n.standing × AreSuited gs ns

-- ---- the whole

pub record Fit (p : Plan) (units : List Guest) (w : World Guest) : Type 0 where
  -- within the bounds of the plan, each bus sound, nothing that is still to happen past
  pub within : IsWithin p units w
  -- the buses and the nodes are those of the plan, each with its clocks and its guest
  pub plan : IsAsPlanned p units w
  pub each : length w.nodes ≡ length p.nodes
  pub clocked : All (λ n. HasClocks (clocks_in p n.number) n.standing) w.nodes
  pub suited : AreSuited units w.nodes
