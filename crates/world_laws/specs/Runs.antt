-- The events of a run, and their order.
use Rattle.std.specs.Prelude.{◌≡◌, ◌≤◌, ℕ, zero, suc, true, All, List, [], ◌∷◌, Option, Some, None, ⊤}
use Rattle.log_specs.specs.Line.{Line, On, Down, Over, End}
use Rattle.world_specs.specs.Units.{Units}
use Rattle.world_specs.specs.World.{World}
use Rattle.world_specs.specs.Next.{Event, precedes, next_event}
use Rattle.world_specs.specs.Step.{world_behind}

-- an event, if there is one, and what comes behind it
abbrev pub then_events : (Event → List Event) → Option Event → List Event
then_events behind None = []
then_events behind (Some e) = e ∷ behind e

-- the events of a run, so many at most
unfoldable pub events_of : {S : Type 0} → Units S → ℕ → ℕ → World S → List Event
events_of u stop zero w = []
events_of u stop (suc k) w = then_events (λ e. events_of u stop k (world_behind u w e)) (next_event stop w)

-- each comes before all those behind it
abbrev pub InOrder : List Event → Type 0
InOrder [] = ⊤
InOrder (e ∷ es) = All (λ f. precedes e f ≡ true) es × InOrder es

-- a line that isn't after this moment
abbrev pub IsUpTo : ℕ → Line → Type 0
IsUpTo t (On moment bus node told) = moment ≤ t
IsUpTo t (Down moment node cause) = moment ≤ t
IsUpTo t (Over moment node) = moment ≤ t
IsUpTo t (End status events) = ⊤
