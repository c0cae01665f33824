-- The checks of the clocks (FMI 3.0, section 2.4.7).
use Rattle.std.specs.Prelude.{ℕ, ◌&&◌, not, Bool, true, List, [], length, Option, option_and_then, Result, Ok, nat_lt, codes, filter, map}
use Rattle.std.specs.List.{count_by}
use Rattle.toml.specs.Data.{Members}
use Rattle.document_specs.specs.Checks.{◌>>=◌, needs, each}
use Rattle.document_specs.specs.Documents.{that, text, optional_tables}
use Rattle.description_specs.specs.declared.field.Field.TheVariants.{Clock, ClockName, ClockValueReference, ClockCausality, ClockIntervalVariability}
use Rattle.description_specs.specs.declared.variable.Causality.{Causality}
use Rattle.description_specs.specs.declared.variable.IntervalVariability.{IntervalVariability}
use Rattle.description_specs.specs.declared.variable.IntervalVariability.TheVariants.{Triggered, Countdown}
use Rattle.description_specs.specs.declared.variable.ClockVariable.{ClockVariable}
use Rattle.description_specs.specs.Variables.{Refusal, refusal, is_input, is_countdown, causality, interval_of, reference, has_clock}

-- the value reference of a table, if no clock has it
abbrev pub new_among_clocks : List ClockVariable → Members → Option ℕ
new_among_clocks before t = option_and_then (that (λ r. not (has_clock before r))) (reference (codes "valueReference") t)

-- how many of the clocks are countdown clocks
abbrev pub countdowns : List ClockVariable → ℕ
countdowns clocks = count_by (λ c. is_countdown c.interval) clocks

-- A countdown clock is an input, and there are at most 8.
abbrev pub may_tick : Causality → List ClockVariable → IntervalVariability → Bool
may_tick c before Triggered = true
may_tick c before Countdown = is_input c && nat_lt (countdowns before) 8

-- by what the interval of a clock of this causality is given, behind these clocks
abbrev pub interval : Causality → List ClockVariable → Members → Option IntervalVariability
interval c before t = option_and_then (that (may_tick c before)) (option_and_then interval_of (text (codes "intervalVariability") t))

-- the clock of a table at this place, behind these
unfoldable pub clock_at : ℕ → List ClockVariable → Members → Result ClockVariable Refusal
clock_at place before t = do
  name ← needs (refusal ClockName place) (text (codes "name") t)
  r ← needs (refusal ClockValueReference place) (new_among_clocks before t)
  c ← needs (refusal ClockCausality place) (causality t)
  i ← needs (refusal ClockIntervalVariability place) (interval c before t)
  Ok (record { reference = r; causality = c; interval = i })

abbrev pub clock_of : List ClockVariable → Members → Result ClockVariable Refusal
clock_of before t = clock_at (length before) before t

-- the clocks of a description
unfoldable pub clocks_of : Members → Result (List ClockVariable) Refusal
clocks_of t = needs (refusal Clock 0) (optional_tables 64 (codes "Clock") t) >>= each clock_of []

-- the value references of the countdown clocks
abbrev pub countdown_references : List ClockVariable → List ℕ
countdown_references clocks = map (λ c. c.reference) (filter (λ c. is_countdown c.interval) clocks)
