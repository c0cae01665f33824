-- Turns as far as buses see them, and when nodes may have their turns on a bus. No public clause cites this file.
use Rattle.std.specs.Prelude.{◌≡◌, ◌<◌, ◌+◌, ◌*◌, ◌^◌, ℕ, Bool, true, false, All, List, [], ◌∷◌, length, map, ⊤}
use Rattle.log_specs.specs.Line.{Line}
use Rattle.session_specs.specs.Outcome.{Emission, SessionOut}
use Rattle.bus_specs.specs.Bus.{Bus, among, member_is}
use Rattle.bus_specs.specs.Sound.{Sound}
use Rattle.world_specs.specs.World.{Standing, New, Over}
use Rattle.world_specs.specs.Sessions.{Turn, is_new, items_on}
use Rattle.fmi_states.specs.Reply.{AreBytes}
use Rattle.world_core.specs.Asks.{MayAsk, submitted}

-- a turn in which the state of the node's unit has no part
abbrev pub Bare : Type 0
Bare = Turn (Unit {0})

abbrev pub standing_if : Bool → Standing (Unit {0})
standing_if true = New tt
standing_if false = Over

abbrev pub bare : ℕ → List ℕ → Bool → SessionOut → Bare
bare node names is_new out = record { node = record { number = node; buses = names; standing = standing_if is_new }; out = out }

-- what a node emitted on a bus, behind the lines so far
abbrev pub emitted_step : ℕ → Bare → Bus × List Line → Bus × List Line
emitted_step now x so_far = submitted now x.node.number so_far (items_on x so_far.0.setup.number)

-- a node may ask on the buses that it names
abbrev pub IsReadyFor : Bare → Bus → Type 0
IsReadyFor x b = among x.node.buses b.setup.number ≡ true → MayAsk x.node.number b

abbrev pub EmitsBytes : Bare → Type 0
EmitsBytes x = All (λ (e : Emission). AreBytes e.bytes) x.out.emitted

-- turns of different nodes, which emit bytes
abbrev pub AreTurns : List Bare → Type 0
AreTurns [] = ⊤
AreTurns (x ∷ xs) = (among (map (λ y. y.node.number) xs) x.node.number ≡ false) × EmitsBytes x × AreTurns xs

-- before the new nodes enter: the nodes are members of the buses that they name, live ones unless they are new
pub record IsExpected (xs : List Bare) (b : Bus) : Type 0 where
  pub sound : Sound b
  pub room : b.next + 256 * length xs < 2 ^ 63
  pub member : All (λ x. among x.node.buses b.setup.number ≡ true → member_is (λ m. true) b.members x.node.number ≡ true) xs
  pub live : All (λ x. is_new x.node.standing ≡ false → among x.node.buses b.setup.number ≡ true → member_is (λ m. m.live) b.members x.node.number ≡ true) xs

-- behind it: the nodes are live on the buses that they name
pub record IsReady (xs : List Bare) (b : Bus) : Type 0 where
  pub sound : Sound b
  pub room : b.next + 256 * length xs < 2 ^ 63
  pub live : All (λ x. among x.node.buses b.setup.number ≡ true → member_is (λ m. m.live) b.members x.node.number ≡ true) xs
