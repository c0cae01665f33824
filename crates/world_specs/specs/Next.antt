-- What happens next: the foremost of all that is enabled, by moment, then kind, then bus, then node.
use Rattle.std.specs.Prelude.{ℕ, ◌==◌, ◌&&◌, ◌||◌, Bool, true, false, List, [], ◌∷◌, ◌++◌, filter, filter_map, map, flat_map, Option, Some, None, if◌then◌else◌, is_some, nat_lt, nat_le}
use Rattle.run_specs.specs.Order.{foremost}
use Rattle.bus_specs.specs.Bus.{Bus}
use Rattle.bus_specs.specs.Due as due
use Rattle.bus_specs.specs.Due.{Due, dues}
use Rattle.world_specs.specs.World.{World, Node, Standing, New, Live, Down, Over}

-- a frame ends, a node returns from off, nodes have their sessions, a frame starts
pub data What : Type 0 where
  Finish : (bus : ℕ) → What
  Return : (bus node : ℕ) → What
  Sessions : What
  Start : (bus : ℕ) → What

pub record Event : Type 0 where
  pub moment : ℕ
  pub what : What

abbrev pub at : What → ℕ → Event
at what moment = record { moment = moment; what = what }

-- the order of the kinds at one moment, then of the buses, then of the nodes
abbrev pub rank : What → List ℕ
rank (Finish bus) = 0 ∷ bus ∷ []
rank (Return bus node) = 1 ∷ bus ∷ node ∷ []
rank Sessions = 2 ∷ []
rank (Start bus) = 3 ∷ bus ∷ []

-- the first number that differs is lower
abbrev pub comes_before : List ℕ → List ℕ → Bool
comes_before xs [] = false
comes_before [] (y ∷ ys) = true
comes_before (x ∷ xs) (y ∷ ys) = nat_lt x y || ((x == y) && comes_before xs ys)

abbrev pub precedes : Event → Event → Bool
precedes e f = comes_before (e.moment ∷ rank e.what) (f.moment ∷ rank f.what)

-- what is due on a bus; a notice that falls due calls for sessions
abbrev pub what_of : (bus : ℕ) → due.What → What
what_of bus due.Finish = Finish bus
what_of bus (due.Return node) = Return bus node
what_of bus due.Notices = Sessions
what_of bus due.Start = Start bus

abbrev pub event_of : (bus : ℕ) → Due → Event
event_of bus d = at (what_of bus d.what) d.moment

-- mail calls for sessions at the moment of the last event
abbrev pub of_mail : ℕ → Bus → List Event
of_mail now b = map (λ m. at Sessions now) (filter (λ m. is_some m.mail) b.members)

abbrev pub of_bus : ℕ → Bus → List Event
of_bus now b = map (event_of b.setup.number) (dues b now b.running) ++ of_mail now b

-- a new node calls for sessions at once, a countdown clock at its next tick
abbrev pub of_standing : {S : Type 0} → ℕ → Standing S → List Event
of_standing now (New s) = at Sessions now ∷ []
of_standing now (Live s last clocks) = map (at Sessions) (filter_map (λ c. c) clocks)
of_standing now Down = []
of_standing now Over = []

abbrev pub of_node : {S : Type 0} → ℕ → Node S → List Event
of_node now n = of_standing now n.standing

abbrev pub enabled : {S : Type 0} → World S → List Event
enabled w = flat_map (of_bus w.now) w.buses ++ flat_map (of_node w.now) w.nodes

-- an event that isn't after the stop
abbrev pub up_to : ℕ → Option Event → Option Event
up_to stop None = None
up_to stop (Some e) = if nat_le e.moment stop then Some e else None

unfoldable pub next_event : {S : Type 0} → ℕ → World S → Option Event
next_event stop w = up_to stop (foremost precedes (enabled w))
