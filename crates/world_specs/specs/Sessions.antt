-- The sessions of one moment, in three steps: who takes part; each session, from what the nodes and the buses were before the event;
-- and then each node's turn, in the order of the nodes.
use Rattle.std.specs.Prelude.{ℕ, ◌+◌, ◌==◌, ◌||◌, Bool, true, false, List, [], ◌∷◌, ◌++◌, filter, filter_map, flat_map, fold, map, option_map, Option, Some, None, if◌then◌else◌, nat_le, slice_get}
use Rattle.std.specs.List.{list_any}
use Rattle.operation_specs.specs.Reading.{Item}
use Rattle.bus_ops.specs.ItemsIn.{items_in}
use Rattle.log_specs.specs.Line.{Line}
use Rattle.log_specs.specs.Line as log
use Rattle.bus_specs.specs.Bus.{Bus, is}
use Rattle.bus_specs.specs.Submit.{submission_of, submit}
use Rattle.bus_specs.specs.Inbox.{inbox, has_inbox, take_inbox, enter, leave}
use Rattle.session_specs.specs.Outcome.{Emission, DueChange, Keep, Clear, At, End, SessionOut}
use Rattle.session_specs.specs.Outcome as session
use Rattle.world_specs.specs.Units.{Units, Given}
use Rattle.world_specs.specs.World.{Node, Standing, New, Live, Down, Over}

-- ---- 1. Who takes part

-- whether a clock ticks at this moment
abbrev pub ticks : ℕ → Option ℕ → Bool
ticks now None = false
ticks now (Some t) = nat_le t now

-- the places of the clocks that tick, where the first has this place
abbrev pub ticking_from : ℕ → ℕ → List (Option ℕ) → List ℕ
ticking_from place now [] = []
ticking_from place now (c ∷ cs) = if ticks now c then place ∷ ticking_from (place + 1) now cs else ticking_from (place + 1) now cs

-- a new node is called, and a live one that has a clock that ticks, mail or a due notice
abbrev pub is_called : {S : Type 0} → List Bus → ℕ → ℕ → Standing S → Bool
is_called buses now node (New s) = true
is_called buses now node (Live s last clocks) = list_any (ticks now) clocks || list_any (λ b. has_inbox b now node) buses
is_called buses now node Down = false
is_called buses now node Over = false

abbrev pub takes_part : {S : Type 0} → List Bus → ℕ → Node S → Bool
takes_part buses now n = is_called buses now n.number n.standing

-- ---- 2. Each session

-- what waits for a node on a bus
abbrev pub inbox_on : List Bus → ℕ → ℕ → ℕ → List ℕ
inbox_on buses now node bus = flat_map (λ b. inbox b now node) (filter (λ b. b.setup.number == bus) buses)

abbrev pub given_to : {S : Type 0} → List Bus → ℕ → Node S → ℕ → List (Option ℕ) → Given
given_to buses now n last clocks = record {
  moment = now;
  last = last;
  ticked = ticking_from 0 now clocks;
  inbox = map (inbox_on buses now n.number) n.buses;
}

-- what comes of the session of a node that is new or live, and the state behind it
abbrev pub session_from : {S : Type 0} → Units S → List Bus → ℕ → Node S → Standing S → Option (SessionOut × S)
session_from u buses now n (New s) = Some (u.session n.number (given_to buses now n 0 []) s)
session_from u buses now n (Live s last clocks) = Some (u.session n.number (given_to buses now n last clocks) s)
session_from u buses now n Down = None
session_from u buses now n Over = None

-- the session of a node that takes part
abbrev pub session_of : {S : Type 0} → Units S → List Bus → ℕ → Node S → Option (SessionOut × S)
session_of u buses now n = if takes_part buses now n then session_from u buses now n n.standing else None

-- a node that takes part, as it was, and what came of its session
pub record Turn (S : Type 0) : Type 0 where
  pub node : Node S
  pub out : SessionOut

abbrev pub turn_of : {S : Type 0} → Units S → List Bus → ℕ → Node S → Option (Turn S)
turn_of u buses now n = option_map (λ r. record { node = n; out = r.0 }) (session_of u buses now n)

abbrev pub turns : {S : Type 0} → Units S → List Bus → ℕ → List (Node S) → List (Turn S)
turns u buses now nodes = filter_map (turn_of u buses now) nodes

-- ---- 3. Each node's turn

-- the new nodes are live on their buses before the first turn
abbrev pub is_new : {S : Type 0} → Standing S → Bool
is_new (New s) = true
is_new (Live s last clocks) = false
is_new Down = false
is_new Over = false

abbrev pub with_entered : {S : Type 0} → List Bus → Turn S → List Bus
with_entered buses x = if is_new x.node.standing then map (λ b. enter b x.node.number) buses else buses

-- what happens on each bus, rising, behind the lines so far
abbrev pub on_each_bus : (Bus → Bus × List Line) → List Bus × List Line → List Bus × List Line
on_each_bus step so_far = (map (λ b. (step b).0) so_far.0, so_far.1 ++ flat_map (λ b. (step b).1) so_far.0)

-- the items that were emitted on a bus; those of one emission are its bytes read alone
abbrev pub items_at : List ℕ → ℕ → Emission → List Item
items_at buses bus e = if is bus (slice_get buses e.terminal) then items_in e.bytes else []

abbrev pub items_on : {S : Type 0} → Turn S → ℕ → List Item
items_on x bus = flat_map (items_at x.node.buses bus) x.out.emitted

-- they are submitted in order
abbrev pub submission_step : ℕ → ℕ → Bus × List Line → Item → Bus × List Line
submission_step now node so_far item = let r = submit so_far.0 now node (submission_of so_far.0.setup item) in (r.0, so_far.1 ++ r.1 ∷ [])

abbrev pub emission_step : {S : Type 0} → ℕ → Turn S → Bus → Bus × List Line
emission_step now x b = fold (submission_step now x.node.number) (b, []) (items_on x b.setup.number)

-- a node that ends or fails leaves every bus
abbrev pub leaving_step : ℕ → Line → List Bus × List Line → List Bus × List Line
leaving_step node line so_far = (map (λ b. leave b node) so_far.0, so_far.1 ++ line ∷ [])

abbrev pub end_step : ℕ → ℕ → End → List Bus × List Line → List Bus × List Line
end_step now node session.Live so_far = so_far
end_step now node session.Over so_far = leaving_step node (log.Over now node) so_far
end_step now node (session.Down cause) so_far = leaving_step node (log.Down now node cause) so_far

-- its notices and its mail are taken, what it emitted is submitted, and its end takes effect
abbrev pub turn_step : {S : Type 0} → ℕ → List Bus × List Line → Turn S → List Bus × List Line
turn_step now so_far x = end_step now x.node.number x.out.end
    (on_each_bus (emission_step now x) (on_each_bus (λ b. take_inbox b now x.node.number) so_far))

-- the buses behind all turns, and their lines
abbrev pub turns_step : {S : Type 0} → ℕ → List Bus → List (Turn S) → List Bus × List Line
turns_step now buses xs = fold (turn_step now) (fold with_entered buses xs, []) xs

-- the due moment of a clock: that of a clock that ticked is cleared by its tick
abbrev pub clock_after : ℕ → DueChange → Option ℕ → Option ℕ
clock_after now Keep c = if ticks now c then None else c
clock_after now Clear c = None
clock_after now (At due) c = Some due

-- a change for each clock; a new node has none that is set
abbrev pub clocks_after : ℕ → List DueChange → List (Option ℕ) → List (Option ℕ)
clocks_after now [] cs = []
clocks_after now (d ∷ ds) [] = clock_after now d None ∷ clocks_after now ds []
clocks_after now (d ∷ ds) (c ∷ cs) = clock_after now d c ∷ clocks_after now ds cs

abbrev pub clocks_of : {S : Type 0} → Standing S → List (Option ℕ)
clocks_of (New s) = []
clocks_of (Live s last clocks) = clocks
clocks_of Down = []
clocks_of Over = []

-- what a node is behind its session
abbrev pub standing_after : {S : Type 0} → ℕ → SessionOut → S → Standing S → End → Standing S
standing_after now out state before session.Live = Live state now (clocks_after now out.dues (clocks_of before))
standing_after now out state before session.Over = Over
standing_after now out state before (session.Down cause) = Down

abbrev pub node_behind : {S : Type 0} → ℕ → Node S → Option (SessionOut × S) → Node S
node_behind now n None = n
node_behind now n (Some r) = record n { standing = standing_after now r.0 r.1 n.standing (r.0).end }

abbrev pub node_after : {S : Type 0} → Units S → List Bus → ℕ → Node S → Node S
node_after u buses now n = node_behind now n (session_of u buses now n)
