-- A scenario: one bus whose nodes are all live, and what is asked of it at which moment. Its run is a machine.
use Rattle.std.specs.Prelude.{ℕ, ◌+◌, ◌==◌, List, [], ◌∷◌, ◌++◌, filter, fold, map, option_map, Option, Some, None, if◌then◌else◌, nat_le, nat_lt}
use Rattle.operation_specs.specs.Reading.{Item}
use Rattle.log_specs.specs.Line.{Line, End, log_text}
use Rattle.bus_specs.specs.Bus.{Setup, Bus, new_bus}
use Rattle.bus_specs.specs.Start.{start}
use Rattle.bus_specs.specs.Finish.{finish, recover}
use Rattle.bus_specs.specs.Submit.{submission_of, submit}
use Rattle.bus_specs.specs.Inbox.{enter, take_inbox, has_notice}
use Rattle.run_specs.specs.Order.{better_of}
use Rattle.bus_specs.specs.Due.{Due, What, Finish, Return, Notices, Start, at, precedes, next_due}
use Rattle.run_specs.specs.Run.{Machine, behind, log}

-- a node emits an item at a moment
pub record Action : Type 0 where
  pub moment : ℕ
  pub node : ℕ
  pub item : Item

pub record Scenario : Type 0 where
  pub setup : Setup
  pub nodes : List ℕ
  pub stop : ℕ
  -- by moment
  pub actions : List Action

-- the events so far, the moment of the last, what the file still asks
pub record World : Type 0 where
  pub events : ℕ
  pub now : ℕ
  pub ahead : List Action
  pub bus : Bus

abbrev pub opening : Scenario → World
opening p = record { events = 0; now = 0; ahead = p.actions; bus = fold enter (new_bus p.setup p.nodes) p.nodes }

-- what is asked next is due at its moment
abbrev pub or_asked : Option Due → List Action → Option Due
or_asked next [] = next
or_asked next (a ∷ as') = better_of precedes next (at Notices a.moment)

abbrev pub up_to : ℕ → Option Due → Option Due
up_to stop None = None
up_to stop (Some d) = if nat_le d.moment stop then Some d else None

unfoldable pub next_event : ℕ → World → Option Due
next_event stop w = up_to stop (or_asked (next_due w.bus w.now) w.ahead)

-- one step of the bus, behind the lines so far
abbrev pub along : {A : Type 0} → (Bus → A → Bus × List Line) → Bus × List Line → A → Bus × List Line
along step so_far x = let r = step so_far.0 x in (r.0, so_far.1 ++ r.1)

-- the nodes with a due notice take it, in their order; then come what is asked
abbrev pub takers : Bus → ℕ → List ℕ
takers b now = map (λ m. m.node) (filter (has_notice now) b.members)

abbrev pub action_step : Bus → Action → Bus × List Line
action_step b a = let r = submit b a.moment a.node (submission_of b.setup a.item) in (r.0, r.1 ∷ [])

abbrev pub moment_step : World → ℕ → Bus × List Line
moment_step w now = fold (along action_step) (fold (along (λ b node. take_inbox b now node)) (w.bus, []) (takers w.bus now))
    (filter (λ a. a.moment == now) w.ahead)

abbrev pub event_step : World → ℕ → What → Bus × List Line
event_step w now Finish = finish w.bus now
event_step w now (Return node) = recover w.bus now node
event_step w now Notices = moment_step w now
event_step w now Start = start w.bus now

-- what is asked behind this moment, where those at it were carried out
abbrev pub left_ahead : World → ℕ → What → List Action
left_ahead w now Notices = filter (λ a. nat_lt now a.moment) w.ahead
left_ahead w now Finish = w.ahead
left_ahead w now (Return node) = w.ahead
left_ahead w now Start = w.ahead

abbrev pub world_behind : World → Due → World × List Line
world_behind w d = let h = event_step w d.moment d.what in
    (record { events = w.events + 1; now = d.moment; ahead = left_ahead w d.moment d.what; bus = h.0 }, h.1)

-- 8 where an event is left up to the stop
abbrev pub status : Option Due → ℕ
status None = 0
status (Some d) = 8

abbrev pub closing : ℕ → World → List Line
closing stop w = End (status (next_event stop w)) w.events ∷ []

abbrev pub machine : ℕ → Machine World Line
machine stop = record { step = λ w. option_map (world_behind w) (next_event stop w); closing = closing stop }

-- the log of a scenario and its status, with a budget of events
abbrev pub scenario_lines : ℕ → Scenario → List Line
scenario_lines budget p = log (machine p.stop) budget (opening p)

abbrev pub scenario_log : ℕ → Scenario → List ℕ
scenario_log budget p = log_text (scenario_lines budget p)

abbrev pub scenario_status : ℕ → Scenario → ℕ
scenario_status budget p = status (next_event p.stop (behind (machine p.stop) budget (opening p)))
