-- A session written out: two terminals, three countdown clocks of which two tick, a byte for the second terminal,
-- and two iterations. Its outcome and its calls with their replies, computed.
use Rattle.std.specs.Prelude.{◌≡◌, ℕ, ◌+◌, true, false, List, [], ◌∷◌, ◌++◌, map, refl}
use Rattle.fmi_states.specs.declared.call.Call.TheVariants.{DoStep, EnterEvent, SetClock, SetBinary, GetClock, GetBinary, Update, GetInterval, EnterStep, Terminate, Free}
use Rattle.fmi_states.specs.declared.reply.Reply.{Reply}
use Rattle.fmi_states.specs.declared.reply.Reply.TheVariants.{Plain, Clock, Data, Updated, Interval}
use Rattle.fmi_states.specs.declared.reply.Qualifier.TheVariants.{Changed, Unchanged, NotYetKnown}
use Rattle.fmi_states.specs.declared.status.FmiStatus.TheVariants as status
use Rattle.fmi_states.specs.declared.phase.Phase.TheVariants.{Step, Event, Gone}
use Rattle.fmi_states.specs.ListEcu.{list_answer, ListState}
use Rattle.unit_specs.specs.Description.{Description, Terminal}
use Rattle.log_specs.specs.Line.{BadInterval, Status3}
use Rattle.session_specs.specs.Outcome.{SessionIn, Keep, Clear, At, Live, Over, Down}
use Rattle.session_specs.specs.Session.{session_of, close_of, iterations}
use Rattle.session_specs.specs.Exchanges.{Exchange, exchange, session_calls}

abbrev terminal_from : ℕ → Terminal
terminal_from n = record { name = []; rx_clock = n; rx_data = n + 1; tx_clock = n + 2; tx_data = n + 3; rx_max = 4096; tx_max = 4096 }

abbrev two_terminals : Description
two_terminals = record { identifier = []; countdown = 100 ∷ 101 ∷ 102 ∷ []; terminals = terminal_from 0 ∷ terminal_from 10 ∷ [] }

abbrev input : SessionIn
input = record { moment = 500; last = 100; resolution = 1000000; ticked = 100 ∷ 102 ∷ []; inbox = [] ∷ (7 ∷ []) ∷ [] }

abbrev fine : Reply
fine = Plain status.Ok

abbrev on : Reply
on = Clock status.Ok true

abbrev off : Reply
off = Clock status.Ok false

-- up to the intervals
abbrev before_intervals : List Exchange
before_intervals = exchange (DoStep 100 400) fine ∷ exchange EnterEvent fine
    ∷ exchange (SetClock 100) fine ∷ exchange (SetClock 102) fine
    ∷ exchange (SetClock 10) fine ∷ exchange (SetBinary 11 (7 ∷ [])) fine
    ∷ exchange (GetClock 2) on ∷ exchange (GetBinary 3) (Data status.Warning (9 ∷ [])) ∷ exchange (GetClock 12) off
    ∷ exchange Update (Updated status.Ok true false)
    ∷ exchange (GetClock 2) off ∷ exchange (GetClock 12) on ∷ exchange (GetBinary 13) (Data status.Ok (11 ∷ 12 ∷ []))
    ∷ exchange Update (Updated status.Ok false false) ∷ []

abbrev changed : Reply
changed = Interval status.Ok 3 1000 Changed

abbrev all_calls : List Exchange
all_calls = before_intervals ++ exchange (GetInterval 100) changed
    ∷ exchange (GetInterval 101) (Interval status.Ok 0 0 Unchanged) ∷ exchange (GetInterval 102) (Interval status.Ok 0 0 NotYetKnown)
    ∷ exchange EnterStep fine ∷ []

-- a unit in Step Mode with these replies
abbrev stepping : List Exchange → ListState
stepping calls = record { phase = Step; replies = map (λ x. x.reply) calls }

written_out-outcome : (session_of list_answer (λ s. s.phase) two_terminals input (stepping all_calls)).0 ≡ record {
  emitted = record { terminal = 0; bytes = 9 ∷ [] } ∷ record { terminal = 1; bytes = 11 ∷ 12 ∷ [] } ∷ [];
  dues = At 3500 ∷ Keep ∷ Clear ∷ [];
  end = Live;
}
unfolding iterations
written_out-outcome = refl

written_out-calls : session_calls list_answer (λ s. s.phase) two_terminals input (stepping all_calls) ≡ all_calls
unfolding iterations
written_out-calls = refl

-- Behind a bad interval no clock is asked. What was emitted is lost, and the instance stays.
abbrev bad_interval : List Exchange
bad_interval = before_intervals ++ exchange (GetInterval 100) (Interval status.Ok 3 0 Changed) ∷ []

bad_interval-outcome : session_of list_answer (λ s. s.phase) two_terminals input (stepping bad_interval)
    ≡ (record { emitted = []; dues = Keep ∷ Keep ∷ Keep ∷ []; end = Down BadInterval }, record { phase = Event; replies = [] })
unfolding iterations
bad_interval-outcome = refl

-- a close, and one in which Terminate is refused
close-outcome : close_of list_answer (stepping (exchange Terminate fine ∷ exchange Free fine ∷ []))
    ≡ (Over, record { phase = Gone; replies = [] })
close-outcome = refl

close-refused : close_of list_answer (stepping (exchange Terminate (Plain status.Error) ∷ exchange Free fine ∷ []))
    ≡ (Down Status3, record { phase = Gone; replies = [] })
close-refused = refl
