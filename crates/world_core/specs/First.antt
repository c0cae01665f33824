-- Which event is first, by the parts of a network. No public clause cites this file.
use Rattle.std.specs.Prelude.{ℕ, ◌+◌, ◌==◌, ◌&&◌, ◌||◌, nat_lt, Bool, true, false, List, [], ◌∷◌, fold, map, option_map, Option, Some, None, if◌then◌else◌}
use Rattle.std.specs.List.{list_any}
use Rattle.bus_specs.specs.Bus.{Bus}
use Rattle.bus_specs.specs.Due.{next_due}
use Rattle.bus_specs.specs.Inbox.{has_inbox}
use Rattle.clock_queue.specs.Dues.{least_pending}
use Rattle.world_specs.specs.Next.{What, Finish, Return, Sessions, Start, Event, at, event_of, precedes}
use Rattle.world_core.specs.Courses.{Course}
use Rattle.world_core.specs.declared.standing.Standing.{Standing}
use Rattle.world_core.specs.declared.standing.Standing.TheVariants.{New, Live, Down, Over}

-- the kind, the bus and the node of what happens, by which its rank compares
abbrev pub numbers_of : What → ℕ × ℕ × ℕ
numbers_of (Finish bus) = (0, bus, 0)
numbers_of (Return bus node) = (1, bus, node)
numbers_of Sessions = (2, 0, 0)
numbers_of (Start bus) = (3, bus, 0)

abbrev pub are_before : ℕ × ℕ × ℕ → ℕ × ℕ × ℕ → Bool
are_before x y = nat_lt x.0 y.0 || ((x.0 == y.0) && (nat_lt x.1 y.1 || ((x.1 == y.1) && nat_lt x.2 y.2)))

-- the one of two that comes first
abbrev pub earlier : Option Event → Option Event → Option Event
earlier None other = other
earlier (Some e) None = Some e
earlier (Some e) (Some f) = if precedes f e then Some f else Some e

-- the first of what is due on a bus, and on several
abbrev pub first_on : ℕ → Bus → Option Event
first_on now b = option_map (event_of b.setup.number) (next_due b now)

abbrev pub first_due : ℕ → List Bus → Option Event
first_due now buses = fold earlier None (map (first_on now) buses)

-- something waits for the node
abbrev pub waits : List Bus → ℕ → ℕ → Bool
waits buses now node = list_any (λ b. has_inbox b now node) buses

-- a new node calls for sessions at once, and a live one for which something waits
abbrev pub calls_now : List Bus → ℕ → ℕ → Standing → Bool
calls_now buses now node New = true
calls_now buses now node (Live last) = waits buses now node
calls_now buses now node Down = false
calls_now buses now node Over = false

-- one of these does, where the first has this place
abbrev pub any_calls : List Bus → ℕ → ℕ → List Standing → Bool
any_calls buses now place [] = false
any_calls buses now place (t ∷ ts) = calls_now buses now place t || any_calls buses now (place + 1) ts

-- when a clock ticks first
abbrev pub first_tick : List (Option ℕ) → Option ℕ
first_tick clocks = option_map (λ x. x.due) (least_pending (λ moment. moment) clocks)

-- when sessions are called for
abbrev pub first_call : Course → Option ℕ
first_call c = if any_calls c.buses c.now 0 c.standings then Some c.now else first_tick c.clocks

abbrev pub first_event : Course → Option Event
first_event c = earlier (first_due c.now c.buses) (option_map (at Sessions) (first_call c))
