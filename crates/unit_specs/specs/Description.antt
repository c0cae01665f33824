-- What a bench knows of a unit (FMI 3.0, section 2.4: variables, clocks and terminals). Contracts cite this module.
use Rattle.std.specs.Prelude.{ℕ, List}

-- A terminal: its name, the value references of its two binary variables and of their clocks,
-- and the greatest length of each binary, in bytes. Rx is what the unit receives, Tx what it transmits.
pub record Terminal : Type 0 where
  pub name : List ℕ
  pub rx_data : ℕ
  pub tx_data : ℕ
  pub rx_clock : ℕ
  pub tx_clock : ℕ
  pub rx_max : ℕ
  pub tx_max : ℕ

-- A description: the name of the unit's module, the value references of its countdown clocks, and its terminals,
-- each in the order of the file.
pub record Description : Type 0 where
  pub identifier : List ℕ
  pub countdown : List ℕ
  pub terminals : List Terminal
