-- A guest: a unit whose calls are functions of a WebAssembly module. Contracts cite this module.
use Rattle.std.specs.Prelude.{ℕ, ◌+◌, ◌==◌, max, List, [], ◌∷◌, if◌then◌else◌}
use Rattle.fmi_states.specs.declared.phase.Phase.{Phase}
use Rattle.unit_specs.specs.Description.{Description, Terminal}
use Rattle.wasm_types.specs.Modules.{NestedModule}
use Rattle.code_specs.specs.Stores.{Store}

-- Its module, description and budget, which no call changes, and its phase, memory and globals, and the address of the
-- area by which the bench and the guest exchange what is no number.
pub record Guest : Type 0 where
  pub code : NestedModule
  pub description : Description
  pub budget : ℕ
  pub phase : Phase
  pub area : ℕ
  pub store : Store

-- the greatest length of the binary variables of terminals, in bytes, 0 where there are none
abbrev pub greatest_size : List Terminal → ℕ
greatest_size [] = 0
greatest_size (t ∷ ts) = max (max t.rx_max t.tx_max) (greatest_size ts)

-- the greatest length of a variable, by its value reference; of one that stands in no terminal it is 0
abbrev pub most_bytes : List Terminal → (reference : ℕ) → ℕ
most_bytes [] reference = 0
most_bytes (t ∷ ts) reference =
    if t.rx_data == reference then t.rx_max
    else if t.tx_data == reference then t.tx_max
    else most_bytes ts reference

-- where in the area the bytes of a binary variable stand, behind the numbers
abbrev pub bytes_place : ℕ
bytes_place = 64

-- how long the area is, in bytes: it has room for the bytes of each variable of a terminal
abbrev pub area_size : Description → ℕ
area_size d = bytes_place + greatest_size d.terminals
