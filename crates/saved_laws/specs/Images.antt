-- The words of the laws of what is saved of a network. Contracts cite this module.
use Rattle.std.specs.Prelude.{◌≡◌, ℕ, List, [], ◌∷◌, length, map, ⊤}
use Rattle.network_images.specs.Images.{NodeImage, New, Live, Down, Over, NetworkImage}
use Rattle.world_specs.specs.World as world
use Rattle.world_specs.specs.World.{Node, Standing}
use Rattle.world_specs.specs.Plan.{Plan}

-- the state of the unit of a new or a live node, and any for one that is down or over
abbrev pub IsOf : {S : Type 0} → S → Standing S → Type 0
IsOf s (world.New t) = s ≡ t
IsOf s (world.Live t last clocks) = s ≡ t
IsOf s world.Down = ⊤
IsOf s world.Over = ⊤

-- one state for each node, in its place
abbrev pub AreOf : {S : Type 0} → List S → List (Node S) → Type 0
AreOf [] [] = ⊤
AreOf [] (n ∷ ns) = ⊥
AreOf (s ∷ ss) [] = ⊥
AreOf (s ∷ ss) (n ∷ ns) = IsOf s n.standing × AreOf ss ns

-- what is saved of the unit of a live node is saved of this state
abbrev pub IsSaved : {S U : Type 0} → (S → U) → S → NodeImage U → Type 0
IsSaved unit s New = ⊤
IsSaved unit s (Live last clocks u) = unit s ≡ u
IsSaved unit s Down = ⊤
IsSaved unit s Over = ⊤

abbrev pub AreSaved : {S U : Type 0} → (S → U) → List S → List (NodeImage U) → Type 0
AreSaved unit [] [] = ⊤
AreSaved unit [] (i ∷ is) = ⊥
AreSaved unit (s ∷ ss) [] = ⊥
AreSaved unit (s ∷ ss) (i ∷ is) = IsSaved unit s i × AreSaved unit ss is

-- as many images as the plan has buses, nodes on each of them, and nodes
pub record IsOfPlan {U : Type 0} (p : Plan) (i : NetworkImage U) : Type 0 where
  pub members : map (λ b. length b.members) i.buses ≡ map (λ b. length b.members) p.buses
  pub nodes : length i.nodes ≡ length p.nodes
