-- The checks of the binary variables.
use Rattle.std.specs.Prelude.{ℕ, ◌-◌, ◌^◌, ◌==◌, ◌&&◌, ◌||◌, not, Bool, List, [], length, Option, option_and_then, Result, Ok, codes}
use Rattle.std.specs.List.{list_any}
use Rattle.toml.specs.Data.{Items, Members, as_array, get_member}
use Rattle.document_specs.specs.Checks.{◌>>=◌, needs, each}
use Rattle.document_specs.specs.Documents.{that, text, number, number_of, optional_tables, only}
use Rattle.description_specs.specs.declared.field.Field.TheVariants.{Binary, BinaryName, BinaryValueReference, BinaryCausality, BinaryClocks, BinaryMaxSize}
use Rattle.description_specs.specs.declared.variable.Causality.{Causality}
use Rattle.description_specs.specs.declared.variable.ClockVariable.{ClockVariable}
use Rattle.description_specs.specs.declared.variable.BinaryVariable.{BinaryVariable}
use Rattle.description_specs.specs.Variables.{Refusal, refusal, same_causality, is_countdown, causality, reference, has_clock, has_binary}

-- the value reference of a table, if no clock and no binary has it
abbrev pub new_reference : List ClockVariable → List BinaryVariable → Members → Option ℕ
new_reference clocks before t = option_and_then (that (λ r. not (has_clock clocks r || has_binary before r))) (reference (codes "valueReference") t)

-- the triggered clock with this value reference, of this causality
abbrev pub ticks_with : Causality → ℕ → ClockVariable → Bool
ticks_with c r clock = (clock.reference == r) && (not (is_countdown clock.interval) && same_causality c clock.causality)

-- the one value reference of an array, of a triggered clock of this causality
abbrev pub clock_in : List ClockVariable → Causality → Items → Option ℕ
clock_in clocks c ds = option_and_then (that (λ r. list_any (ticks_with c r) clocks)) (option_and_then (number_of 0 (2 ^ 32 - 1)) (only ds))

-- the clock of a binary of this causality
abbrev pub trigger : List ClockVariable → Causality → Members → Option ℕ
trigger clocks c t = option_and_then (λ d. option_and_then (clock_in clocks c) (as_array d)) (get_member (codes "clocks") t)

-- the binary of a table at this place, behind these
unfoldable pub binary_at : ℕ → List ClockVariable → List BinaryVariable → Members → Result BinaryVariable Refusal
binary_at place clocks before t = do
  name ← needs (refusal BinaryName place) (text (codes "name") t)
  r ← needs (refusal BinaryValueReference place) (new_reference clocks before t)
  c ← needs (refusal BinaryCausality place) (causality t)
  clock ← needs (refusal BinaryClocks place) (trigger clocks c t)
  most ← needs (refusal BinaryMaxSize place) (number 256 65536 (codes "maxSize") t)
  Ok (record { reference = r; causality = c; clock = clock; max_size = most })

abbrev pub binary_of : List ClockVariable → List BinaryVariable → Members → Result BinaryVariable Refusal
binary_of clocks before t = binary_at (length before) clocks before t

-- the binaries of a description with these clocks
unfoldable pub binaries_of : List ClockVariable → Members → Result (List BinaryVariable) Refusal
binaries_of clocks t = needs (refusal Binary 0) (optional_tables 64 (codes "Binary") t) >>= each (binary_of clocks) []
