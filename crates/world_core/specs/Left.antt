-- What the events and the close of a network leave of its units, and what the close leaves of its buses and nodes. Public clauses cite this
-- file.
use Rattle.std.specs.Prelude.{◌≡◌, ℕ, List, [], ◌∷◌, Option, Some, None, fold, if◌then◌else◌, map}
use Rattle.bus_specs.specs.Bus.{Bus}
use Rattle.bus_specs.specs.Inbox.{leave}
use Rattle.world_specs.specs.Fits.{is_live}
use Rattle.world_specs.specs.Network.{close_of, node_closed}
use Rattle.world_specs.specs.Next.{Event, What, Finish, Return, Sessions, Start}
use Rattle.world_specs.specs.Units.{Units}
use Rattle.world_specs.specs.World.{Node, World}
use Rattle.world_specs.specs.Sessions.{session_of}

-- the state behind a session or a close, where there was one
abbrev pub state_behind : {S X : Type 0} → S → Option (X × S) → S
state_behind s None = s
state_behind s (Some r) = r.1

-- the unit of a node that takes part is in the state behind its session, and every other one is as it was
abbrev pub units_after : {S : Type 0} → Units S → List Bus → ℕ → List (Node S) → List S → List S
units_after u buses now (n ∷ ns) (s ∷ ss) = state_behind s (session_of u buses now n) ∷ units_after u buses now ns ss
units_after u buses now ns ss = []

-- only Sessions changes units
abbrev pub units_by : {S : Type 0} → Units S → World S → ℕ → What → List S → List S
units_by u w now (Finish bus) units = units
units_by u w now (Return bus node) units = units
units_by u w now Sessions units = units_after u w.buses now w.nodes units
units_by u w now (Start bus) units = units

abbrev pub units_behind : {S : Type 0} → Units S → World S → Event → List S → List S
units_behind u w e units = units_by u w e.moment e.what units

-- what units share stays as it was, but where sessions are held
abbrev pub KeepsShared : {A : Type 0} → What → (old new : A) → Type 0
KeepsShared Sessions old new = Unit {0}
KeepsShared other old new = new ≡ old

-- ---- the close

-- the unit of a live node is in the state behind its close, and every other one is as it was
abbrev pub units_closed : {S : Type 0} → Units S → List (Node S) → List S → List S
units_closed u (n ∷ ns) (s ∷ ss) = state_behind s (close_of u n) ∷ units_closed u ns ss
units_closed u ns ss = []

-- a node that is closed leaves every bus
abbrev pub with_left : {S : Type 0} → List Bus → Node S → List Bus
with_left buses n = if is_live n.standing then map (λ b. leave b n.number) buses else buses

abbrev pub network_closed : {S : Type 0} → Units S → World S → World S
network_closed u w = record w { buses = fold with_left w.buses w.nodes; nodes = map (node_closed u) w.nodes }
