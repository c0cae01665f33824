-- The checks of the buses.
use Rattle.std.specs.Prelude.{ℕ, ◌-◌, ◌^◌, ◌%◌, ◌/◌, ◌==◌, ◌&&◌, ◌||◌, not, Bool, List, [], length, Option, Some, None, option_and_then, option_map, Result, Ok, codes, bytes_eq}
use Rattle.std.specs.List.{list_any, list_all}
use Rattle.toml.specs.Data.{Data, Members, get_member}
use Rattle.document_specs.specs.Checks.{◌>>=◌, needs, each}
use Rattle.document_specs.specs.Documents.{that, text, number_of, tables, absent_or, is_within}
use Rattle.network_specs.specs.declared.field.NetworkField.TheVariants as field
use Rattle.network_specs.specs.Settings.{Refusal, refusal}

-- a small letter, a digit or an underscore, in ASCII
abbrev pub is_name_byte : ℕ → Bool
is_name_byte b = (is_within 97 122 b || is_within 48 57 b) || (b == 95)

-- the name of a bus or a node: 1 to 32 of these
abbrev pub is_name : List ℕ → Bool
is_name s = is_within 1 32 (length s) && list_all is_name_byte s

-- the name of a table
abbrev pub name : Members → Option (List ℕ)
name t = option_and_then (that is_name) (text (codes "name") t)

-- a bit rate, in bits a second, and the ticks of a bit at it
pub record Rate : Type 0 where
  pub bits : ℕ
  pub ticks : ℕ

-- a bit lasts a whole number of ticks
abbrev pub divides : ℕ → ℕ → Bool
divides resolution bits = (resolution % bits) == 0

abbrev pub rate_of_bits : ℕ → ℕ → Rate
rate_of_bits resolution bits = record { bits = bits; ticks = resolution / bits }

-- the rate that an integer of 32 bits is, if it has a bit time
abbrev pub rate_of : ℕ → Data → Option Rate
rate_of resolution d = option_map (rate_of_bits resolution) (option_and_then (that (divides resolution)) (number_of 1 (2 ^ 32 - 1) d))

abbrev pub rate : ℕ → List ℕ → Members → Option Rate
rate resolution key t = option_and_then (rate_of resolution) (get_member key t)

-- a rate that may be left out
abbrev pub optional_rate : ℕ → List ℕ → Members → Option (Option Rate)
optional_rate resolution key t = absent_or None (λ d. option_map Some (rate_of resolution d)) (get_member key t)

-- a bus: its name, its nominal rate, and where it has FD that of the data phase
pub record Bus : Type 0 where
  pub name : List ℕ
  pub rate : Rate
  pub fd_rate : Option Rate

abbrev pub is_bus : List ℕ → Bus → Bool
is_bus name b = bytes_eq b.name name

-- one of the buses has this name
abbrev pub has_bus : List Bus → List ℕ → Bool
has_bus buses name = list_any (is_bus name) buses

-- the name of a table, if no bus before has it
abbrev pub new_bus_name : List Bus → Members → Option (List ℕ)
new_bus_name before t = option_and_then (that (λ s. not (has_bus before s))) (name t)

-- the bus of a table at this place, behind these
unfoldable pub bus_at : ℕ → ℕ → List Bus → Members → Result Bus Refusal
bus_at resolution place before t = do
  name ← needs (refusal field.BusName place) (new_bus_name before t)
  nominal ← needs (refusal field.BusRate place) (rate resolution (codes "rate") t)
  fd ← needs (refusal field.BusFdRate place) (optional_rate resolution (codes "fd_rate") t)
  Ok (record { name = name; rate = nominal; fd_rate = fd })

abbrev pub bus_of : ℕ → List Bus → Members → Result Bus Refusal
bus_of resolution before t = bus_at resolution (length before) before t

unfoldable pub buses_of : ℕ → Members → Result (List Bus) Refusal
buses_of resolution t = needs (refusal field.Bus 0) (tables 1 4 (codes "bus") t) >>= each (bus_of resolution) []
