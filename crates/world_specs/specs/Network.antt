-- The run of a network: event by event up to its stop, and how it is closed.
use Rattle.std.specs.Prelude.{ℕ, List, [], ◌∷◌, ◌++◌, flat_map, option_map, Option, Some, None}
use Rattle.log_specs.specs.Line.{Line, log_text}
use Rattle.log_specs.specs.Line as log
use Rattle.run_specs.specs.Run.{Machine, behind}
use Rattle.run_specs.specs.Run as run
use Rattle.session_specs.specs.Outcome.{End}
use Rattle.session_specs.specs.Outcome as session
use Rattle.world_specs.specs.Units.{Units}
use Rattle.world_specs.specs.World.{World, Node, Standing, New, Live, Down, Over}
use Rattle.world_specs.specs.Next.{Event, next_event}
use Rattle.world_specs.specs.Step.{world_behind, event_lines}

unfoldable pub step : {S : Type 0} → Units S → ℕ → World S → Option (World S × List Line)
step u stop w = option_map (λ e. (world_behind u w e, event_lines u w e)) (next_event stop w)

-- ---- Each live node is closed, in the order of the nodes

-- its end, and the state behind it
abbrev pub close_from : {S : Type 0} → Units S → ℕ → Standing S → Option (End × S)
close_from u node (New s) = None
close_from u node (Live s last clocks) = Some (u.close node s)
close_from u node Down = None
close_from u node Over = None

abbrev pub close_of : {S : Type 0} → Units S → Node S → Option (End × S)
close_of u n = close_from u n.number n.standing

-- a line where it fails
abbrev pub failure_lines : ℕ → ℕ → End → List Line
failure_lines now node session.Live = []
failure_lines now node session.Over = []
failure_lines now node (session.Down cause) = log.Down now node cause ∷ []

abbrev pub lines_of_close : {S : Type 0} → ℕ → ℕ → Option (End × S) → List Line
lines_of_close now node None = []
lines_of_close now node (Some r) = failure_lines now node r.0

abbrev pub close_lines : {S : Type 0} → Units S → World S → List Line
close_lines u w = flat_map (λ n. lines_of_close w.now n.number (close_of u n)) w.nodes

-- and then it is down where it failed, else over
abbrev pub standing_by : {S : Type 0} → End → Standing S
standing_by session.Live = Over
standing_by session.Over = Over
standing_by (session.Down cause) = Down

abbrev pub standing_closed : {S : Type 0} → Standing S → Option (End × S) → Standing S
standing_closed before None = before
standing_closed before (Some r) = standing_by r.0

abbrev pub node_closed : {S : Type 0} → Units S → Node S → Node S
node_closed u n = record n { standing = standing_closed n.standing (close_of u n) }

-- ---- Whole runs

-- 8 where an event is left up to the stop
abbrev pub status_of : Option Event → ℕ
status_of None = 0
status_of (Some e) = 8

abbrev pub status : {S : Type 0} → ℕ → World S → ℕ
status stop w = status_of (next_event stop w)

abbrev pub closing : {S : Type 0} → Units S → ℕ → World S → List Line
closing u stop w = close_lines u w ++ log.End (status stop w) w.events ∷ []

abbrev pub network : {S : Type 0} → Units S → ℕ → Machine (World S) Line
network u stop = record { step = step u stop; closing = closing u stop }

-- the lines of a run from a state on, with so many events at most, its text and its status
abbrev pub run_lines : {S : Type 0} → Units S → ℕ → ℕ → World S → List Line
run_lines u stop budget w = run.log (network u stop) budget w

abbrev pub run_log : {S : Type 0} → Units S → ℕ → ℕ → World S → List ℕ
run_log u stop budget w = log_text (run_lines u stop budget w)

abbrev pub run_status : {S : Type 0} → Units S → ℕ → ℕ → World S → ℕ
run_status u stop budget w = status stop (behind (network u stop) budget w)
