-- Which line answers what a node asks.
use Rattle.std.specs.Prelude.{◌≡◌, ℕ, List, Option, Some, None, filter, filter_map, map, nat_le}
use Rattle.bus_specs.specs.Submit.{Submission, Transmit, Keep, Discard, Wakeup, Sleep, Rate, FdRate, Declare, FormatError, Unfit, submission_of}
use Rattle.log_specs.specs.Line.{Line, On, Down, Over, End, Told, Req, Full, Drop}
use Rattle.log_specs.specs.Line as log
use Rattle.play_specs.specs.Scenario.{Action, Scenario}

-- at this moment this node asked that
pub record Asked : Type 0 where
  pub moment : ℕ
  pub node : ℕ
  pub what : Submission

-- a request is accepted, or refused for a full queue or a node that is off
abbrev pub asked_by : Told → Option Submission
asked_by (Req f) = Some (Transmit f)
asked_by (Full f) = Some (Transmit f)
asked_by (Drop f) = Some (Transmit f)
asked_by log.Keep = Some Keep
asked_by log.Discard = Some Discard
asked_by log.Wake = Some Wakeup
asked_by log.Sleep = Some Sleep
asked_by (log.Rate v) = Some (Rate v)
asked_by (log.FdRate v) = Some (FdRate v)
asked_by (log.Status l) = Some (Declare l)
asked_by (log.FormatError bytes) = Some (FormatError bytes)
asked_by (log.Bad bytes) = Some (Unfit bytes)
asked_by other = None

abbrev pub asked_at : ℕ → ℕ → Option Submission → Option Asked
asked_at moment node None = None
asked_at moment node (Some what) = Some (record { moment = moment; node = node; what = what })

abbrev pub asked_in : Line → Option Asked
asked_in (On moment bus node told) = asked_at moment node (asked_by told)
asked_in (Down moment node cause) = None
asked_in (Over moment node) = None
asked_in (End status events) = None

-- what the lines of a log answer, in their order
abbrev pub answered : List Line → List Asked
answered lines = filter_map asked_in lines

abbrev pub asked_of : Scenario → Action → Asked
asked_of p a = record { moment = a.moment; node = a.node; what = submission_of p.setup a.item }

-- what a scenario asks up to its stop
abbrev pub due_actions : Scenario → List Asked
due_actions p = map (asked_of p) (filter (λ a. nat_le a.moment p.stop) p.actions)

-- The lines answer all of it, and nothing else.
abbrev pub AnswersAll : Scenario → List Line → Type 0
AnswersAll p lines = answered lines ≡ due_actions p
