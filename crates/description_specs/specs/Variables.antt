-- The words of a variable (FMI 3.0, section 2.4.7), and a refusal.
use Rattle.std.specs.Prelude.{ℕ, ◌-◌, ◌^◌, ◌==◌, Bool, true, false, List, [], ◌∷◌, Option, option_and_then, codes}
use Rattle.std.specs.List.{list_any}
use Rattle.toml.specs.Data.{Members}
use Rattle.document_specs.specs.Documents.{text, number, one_of}
use Rattle.description_specs.specs.declared.field.Field.{Field}
use Rattle.description_specs.specs.declared.variable.Causality.{Causality}
use Rattle.description_specs.specs.declared.variable.Causality.TheVariants.{Input, Output}
use Rattle.description_specs.specs.declared.variable.IntervalVariability.{IntervalVariability}
use Rattle.description_specs.specs.declared.variable.IntervalVariability.TheVariants.{Triggered, Countdown}
use Rattle.description_specs.specs.declared.variable.ClockVariable.{ClockVariable}
use Rattle.description_specs.specs.declared.variable.BinaryVariable.{BinaryVariable}

-- a refusal: the field whose check fails, and the place, which is the position of its table in its array, else 0
pub record Refusal : Type 0 where
  pub field : Field
  pub place : ℕ

abbrev pub refusal : Field → ℕ → Refusal
refusal f p = record { field = f; place = p }

abbrev pub is_input : Causality → Bool
is_input Input = true
is_input Output = false

abbrev pub same_causality : Causality → Causality → Bool
same_causality Input Input = true
same_causality Output Output = true
same_causality Input Output = false
same_causality Output Input = false

abbrev pub is_countdown : IntervalVariability → Bool
is_countdown Countdown = true
is_countdown Triggered = false

abbrev pub causality_of : List ℕ → Option Causality
causality_of = one_of ((codes "input", Input) ∷ (codes "output", Output) ∷ [])

-- the causality of a variable's table
abbrev pub causality : Members → Option Causality
causality t = option_and_then causality_of (text (codes "causality") t)

abbrev pub interval_of : List ℕ → Option IntervalVariability
interval_of = one_of ((codes "triggered", Triggered) ∷ (codes "countdown", Countdown) ∷ [])

-- the value reference at a key
abbrev pub reference : List ℕ → Members → Option ℕ
reference key t = number 0 (2 ^ 32 - 1) key t

-- a clock, or a binary, has this value reference
abbrev pub has_clock : List ClockVariable → ℕ → Bool
has_clock clocks r = list_any (λ c. c.reference == r) clocks

abbrev pub has_binary : List BinaryVariable → ℕ → Bool
has_binary binaries r = list_any (λ b. b.reference == r) binaries
