-- A refusal of the network file, and the checks of the numbers at its top.
use Rattle.std.specs.Prelude.{ℕ, ◌^◌, List, Option, Result, Ok, codes}
use Rattle.toml.specs.Data.{Members, get_member}
use Rattle.document_specs.specs.Checks.{◌>>=◌, needs}
use Rattle.document_specs.specs.Documents.{number, number_of, absent_or}
use Rattle.network_specs.specs.declared.field.NetworkField.{NetworkField}
use Rattle.network_specs.specs.declared.field.NetworkField.TheVariants as field

-- a refusal: the field whose check fails, and the place, which is the position of its table in its array, else 0
pub record Refusal : Type 0 where
  pub field : NetworkField
  pub place : ℕ

abbrev pub refusal : NetworkField → ℕ → Refusal
refusal f p = record { field = f; place = p }

-- the integer from low to high at a key, or this number where nothing stands there
abbrev pub number_or : ℕ → ℕ → ℕ → List ℕ → Members → Option ℕ
number_or otherwise low high key t = absent_or otherwise (number_of low high) (get_member key t)

-- ticks a second, the last moment, the greatest number of events, and the most instructions of a call of a unit
pub record Settings : Type 0 where
  pub resolution : ℕ
  pub stop : ℕ
  pub events : ℕ
  pub fuel : ℕ

unfoldable pub settings_of : Members → Result Settings Refusal
settings_of t = do
  resolution ← needs (refusal field.Resolution 0) (number 1 (10 ^ 12) (codes "resolution") t)
  stop ← needs (refusal field.Stop 0) (number 0 (2 ^ 62) (codes "stop") t)
  events ← needs (refusal field.Events 0) (number_or 1000000 1 (10 ^ 8) (codes "events") t)
  fuel ← needs (refusal field.Fuel 0) (number_or 1000000 1 (10 ^ 9) (codes "fuel") t)
  Ok (record { resolution = resolution; stop = stop; events = events; fuel = fuel })
