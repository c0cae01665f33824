-- A session of one unit at one moment, over the answers of any unit: what comes of it, and the state that it leaves.
-- It follows the state machine of FMI 3.0 for co-simulation with event mode (sections 2.3 and 4.2):
--
--     new unit (Fresh)                     live unit (Step Mode)
--     Instantiate, EnterInit, ExitInit     DoStep, EnterEvent
--                 |                               |
--                 +--------> Event Mode <---------+
--     inputs: the clocks that tick, the bytes that came
--     at most 16 iterations: the bytes of each output clock that ticks, Update
--                 |                               |
--     the unit asks for the end            no further update
--     Terminate, Free (Gone)               GetInterval of each countdown clock, EnterStep (Step Mode)
use Rattle.std.specs.Prelude.{ℕ, suc, zero, ◌-◌, ◌==◌, Bool, true, false, List, [], ◌∷◌, ◌++◌, length, get_or, replicate, Result, Ok, Err, Option, None, Some, if◌then◌else◌}
use Rattle.fmi_states.specs.declared.phase.Phase.{Phase}
use Rattle.fmi_states.specs.declared.phase.Phase.TheVariants.{Fresh, Event, Step, Gone}
use Rattle.fmi_states.specs.declared.call.Call.{Call}
use Rattle.fmi_states.specs.declared.call.Call.TheVariants as call
use Rattle.fmi_states.specs.declared.reply.Reply.{Reply}
use Rattle.fmi_states.specs.Reply.{bytes_in}
use Rattle.unit_specs.specs.Description.{Description, Terminal}
use Rattle.log_specs.specs.Line.{Cause, Loop, BadInterval}
use Rattle.session_specs.specs.Outcome.{SessionIn, Emission, DueChange, Keep, End, Live, Over, Down, SessionOut}
use Rattle.session_specs.specs.Sequence.{◌>>=◌, in_order}
use Rattle.session_specs.specs.Replies.{fault_of, is_freed_behind, ticks_by, Wish, AnotherUpdate, NoUpdate, TheEnd, wish_of, change_of}

-- no clock's due moment changes
abbrev pub all_kept : List ℕ → List DueChange
all_kept clocks = replicate (length clocks) Keep

-- one change more, or the interval was bad
abbrev pub with_change : Option DueChange → List DueChange → Result (List DueChange) Cause
with_change (Some change) dues = Ok (dues ++ change ∷ [])
with_change None dues = Err BadInterval

-- what was emitted, and whether the unit asked for the end
pub record Transmitted : Type 0 where
  pub emitted : List Emission
  pub ends : Bool

abbrev pub transmitted : List Emission → (ends : Bool) → Transmitted
transmitted emitted ends = record { emitted = emitted; ends = ends }

-- an iteration: what was emitted so far, and what its update asks for
pub record Iteration : Type 0 where
  pub emitted : List Emission
  pub wish : Wish

abbrev pub iteration : List Emission → Wish → Iteration
iteration emitted wish = record { emitted = emitted; wish = wish }

-- the bytes in a reply, of the terminal in place n
abbrev pub emission : ℕ → Reply → Emission
emission n r = record { terminal = n; bytes = bytes_in r }

-- A unit that goes on, and one that ended by its own wish, emitted this.
abbrev pub outcome_live : List Emission → List DueChange → SessionOut
outcome_live emitted dues = record { emitted = emitted; dues = dues; end = Live }

abbrev pub outcome_over : List ℕ → List Emission → SessionOut
outcome_over clocks emitted = record { emitted = emitted; dues = all_kept clocks; end = Over }

-- A unit that is down emitted nothing and changed no clock.
abbrev pub outcome_down : List ℕ → Cause → SessionOut
outcome_down clocks why = record { emitted = []; dues = all_kept clocks; end = Down why }

module _ {S : Type 0} (answer : S → Call → Reply × S) where
  abbrev pub effect_by_fault : Call → Option Cause → Reply → S → Result Reply Cause × S
  effect_by_fault c None r s = (Ok r, s)
  effect_by_fault c (Some why) r s =
      (Err why, if is_freed_behind c why then (answer s call.Free).1 else s)

  -- One call. Behind a fault nothing more is called, but Free where the unit refused and there is an instance.
  abbrev pub effect_of : Call → S → Result Reply Cause × S
  effect_of c s = effect_by_fault c (fault_of (answer s c).0) (answer s c).0 (answer s c).1

  -- ---- to Event Mode

  -- a new unit is initialized
  abbrev pub opening_calls : S → Result Reply Cause × S
  opening_calls s = effect_of call.Instantiate s >>= λ r s. effect_of call.EnterInit s >>= λ r s. effect_of call.ExitInit s

  -- a live unit takes a step to this moment
  abbrev pub step_calls : (from size : ℕ) → S → Result Reply Cause × S
  step_calls from size s = effect_of (call.DoStep from size) s >>= λ r s. effect_of call.EnterEvent s

  abbrev pub entry_calls : (is_new : Bool) → SessionIn → S → Result Reply Cause × S
  entry_calls true input s = opening_calls s
  entry_calls false input s = step_calls input.last (input.moment - input.last) s

  -- ---- the inputs, in the first iteration alone

  -- a countdown clock ticks
  abbrev pub clock_tick : ℕ → (clock : ℕ) → Unit {0} → S → Result (Unit {0}) Cause × S
  clock_tick n clock x s = effect_of (call.SetClock clock) s >>= λ r s. (Ok tt, s)

  -- a terminal's clock ticks and it gets its bytes, where any came
  abbrev pub delivery_of : Terminal → List ℕ → S → Result (Unit {0}) Cause × S
  delivery_of terminal [] s = (Ok tt, s)
  delivery_of terminal (byte ∷ others) s = effect_of (call.SetClock terminal.rx_clock) s >>= λ r s.
      effect_of (call.SetBinary terminal.rx_data (byte ∷ others)) s >>= λ r s. (Ok tt, s)

  -- the same of the terminal in place n
  abbrev pub delivery_from : List (List ℕ) → ℕ → Terminal → Unit {0} → S → Result (Unit {0}) Cause × S
  delivery_from inbox n terminal x s = delivery_of terminal (get_or inbox n []) s

  abbrev pub input_calls : Description → SessionIn → S → Result (Unit {0}) Cause × S
  input_calls d input s = in_order clock_tick 0 input.ticked tt s >>= λ x s.
      in_order (delivery_from input.inbox) 0 d.terminals tt s

  -- ---- the iterations

  -- what was emitted, with what the terminal in place n emits behind it
  abbrev pub emission_of : ℕ → Terminal → List Emission → S → Result (List Emission) Cause × S
  emission_of n terminal emitted s = effect_of (call.GetClock terminal.tx_clock) s >>= λ clock s. if ticks_by clock
      then (effect_of (call.GetBinary terminal.tx_data) s >>= λ r s. (Ok (emitted ++ emission n r ∷ []), s))
      else (Ok emitted, s)

  -- one iteration
  abbrev pub iteration_of : List Terminal → List Emission → S → Result Iteration Cause × S
  iteration_of terminals emitted s = in_order emission_of 0 terminals emitted s >>= λ emitted s.
      effect_of call.Update s >>= λ r s. (Ok (iteration emitted (wish_of r)), s)

  -- another iteration where the unit asks for one, else the end of the iterations
  abbrev pub next_iteration : Wish → List Emission → S → Result Transmitted Cause × S → Result Transmitted Cause × S
  next_iteration AnotherUpdate emitted s another = another
  next_iteration NoUpdate emitted s another = (Ok (transmitted emitted false), s)
  next_iteration TheEnd emitted s another = (Ok (transmitted emitted true), s)

  -- the iterations, of which so many are left
  unfoldable pub iterations : List Terminal → (left : ℕ) → List Emission → S → Result Transmitted Cause × S
  iterations terminals zero emitted s = (Err Loop, s)
  iterations terminals (suc left) emitted s = iteration_of terminals emitted s >>= λ i s.
      next_iteration i.wish i.emitted s (iterations terminals left i.emitted s)

  -- ---- out of Event Mode

  -- a clock's interval; behind a bad one no clock is asked
  abbrev pub interval_call : SessionIn → ℕ → (clock : ℕ) → List DueChange → S → Result (List DueChange) Cause × S
  interval_call input n clock dues s = effect_of (call.GetInterval clock) s >>= λ r s.
      (with_change (change_of input.moment input.resolution r) dues, s)

  -- the reply to Free decides nothing
  abbrev pub termination_calls : S → Result (Unit {0}) Cause × S
  termination_calls s = effect_of call.Terminate s >>= λ r s. (Ok tt, (answer s call.Free).1)

  abbrev pub exit_calls : Description → SessionIn → List Emission → (ends : Bool) → S → Result SessionOut Cause × S
  exit_calls d input emitted true s = termination_calls s >>= λ x s. (Ok (outcome_over d.countdown emitted), s)
  exit_calls d input emitted false s = in_order (interval_call input) 0 d.countdown [] s >>= λ dues s.
      effect_of call.EnterStep s >>= λ r s. (Ok (outcome_live emitted dues), s)

  -- ---- the whole

  -- up to the end, or to what takes the unit down
  abbrev pub all_calls : Description → SessionIn → (is_new : Bool) → S → Result SessionOut Cause × S
  all_calls d input is_new s = entry_calls is_new input s >>= λ r s. input_calls d input s >>= λ x s.
      iterations d.terminals 16 [] s >>= λ t s. exit_calls d input t.emitted t.ends s

abbrev pub outcome_of : List ℕ → Result SessionOut Cause → SessionOut
outcome_of clocks (Ok out) = out
outcome_of clocks (Err why) = outcome_down clocks why

abbrev pub end_of_close : Result (Unit {0}) Cause → End
end_of_close (Ok x) = Over
end_of_close (Err why) = Down why

abbrev pub is_fresh : Phase → Bool
is_fresh Fresh = true
is_fresh other = false

module _ {S : Type 0} (answer : S → Call → Reply × S) (phase_of : S → Phase) where
  -- A session: what comes of it, and the state behind it. It opens the unit exactly where that is Fresh.
  abbrev pub session_of : Description → SessionIn → S → SessionOut × S
  session_of d input s = (
    outcome_of d.countdown (all_calls answer d input (is_fresh (phase_of s)) s).0,
    (all_calls answer d input (is_fresh (phase_of s)) s).1,
  )

-- The close of a unit that is live when the simulation ends: its end, and the state behind it.
abbrev pub close_of : {S : Type 0} → (S → Call → Reply × S) → S → End × S
close_of answer s = (end_of_close (termination_calls answer s).0, (termination_calls answer s).1)

-- ---- words for conditions and for what is left behind

-- a session may begin
abbrev pub can_begin : Phase → Bool
can_begin Fresh = true
can_begin Step = true
can_begin other = false

-- Terminate is permitted
abbrev pub can_terminate : Phase → Bool
can_terminate Event = true
can_terminate Step = true
can_terminate other = false

-- the first list has members of the second in its order, each at most once
abbrev pub is_sublist : List ℕ → List ℕ → Bool
is_sublist [] all = true
is_sublist (first ∷ others) [] = false
is_sublist (first ∷ others) (next ∷ rest) =
    if first == next then is_sublist others rest else is_sublist (first ∷ others) rest

-- The phase in which a session with this end leaves the unit. A fault leaves none that could still be freed;
-- behind Loop and BadInterval no call is made.
abbrev pub phase_behind : End → Phase
phase_behind Live = Step
phase_behind Over = Gone
phase_behind (Down Loop) = Event
phase_behind (Down BadInterval) = Event
phase_behind (Down other) = Gone
