-- Who takes part in the sessions of a moment, and what each session is given. No public clause cites this file.
use Rattle.std.specs.Prelude.{◌||◌, ℕ, true, false, List, [], length, map, Option, Some, None, if◌then◌else◌, take}
use Rattle.std.specs.List.{list_any, slice_index}
use Rattle.session_specs.specs.Outcome.{SessionIn}
use Rattle.bus_specs.specs.Bus.{Bus}
use Rattle.world_specs.specs.Plan.{NodePlan}
use Rattle.world_specs.specs.Sessions.{inbox_on, ticking_from, ticks}
use Rattle.world_core.specs.First.{waits}
use Rattle.world_core.specs.declared.sessions.Call.{Call}
use Rattle.world_core.specs.declared.standing.Standing.{Standing}
use Rattle.world_core.specs.declared.standing.Standing.TheVariants.{New, Live, Down, Over}

abbrev pub input_at : List Bus → (resolution now node : ℕ) → NodePlan → (last : ℕ) → List ℕ → SessionIn
input_at bs resolution now node n last ticked = record { moment = now; last = last; resolution = resolution; ticked = ticked; inbox = map (inbox_on bs now node) n.buses }

-- the value references of the clocks that tick
abbrev pub ticked_of : ℕ → NodePlan → List (Option ℕ) → List ℕ
ticked_of now n clocks = map (slice_index n.description.countdown) (ticking_from 0 now clocks)

-- a node whose entries begin the list
abbrev pub call_of : List Bus → (resolution now node : ℕ) → NodePlan → Standing → List (Option ℕ) → Option Call
call_of bs resolution now node n New cs = Some (record { is_new = true; input = input_at bs resolution now node n 0 [] })
call_of bs resolution now node n (Live last) cs =
    if list_any (ticks now) (take (length n.description.countdown) cs) || waits bs now node
    then Some (record { is_new = false; input = input_at bs resolution now node n last (ticked_of now n (take (length n.description.countdown) cs)) }) else None
call_of bs resolution now node n Down cs = None
call_of bs resolution now node n Over cs = None
