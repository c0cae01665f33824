-- The numbers and names of an accepted description, in their ranges.
use Rattle.std.specs.Prelude.{◌≡◌, ℕ, ◌^◌, ◌<◌, ◌≤◌, true, length}
use Rattle.std.specs.List.{AllByRecursion}
use Rattle.document_specs.specs.Documents.{is_identifier}
use Rattle.unit_specs.specs.Description.{Terminal, Description}

-- a value reference is a number of 32 bits
abbrev pub IsReference : ℕ → Type 0
IsReference r = r < 2 ^ 32

-- the greatest length of a binary, in bytes
pub record IsMaxSize (n : ℕ) : Type 0 where
  pub least : 256 ≤ n
  pub most : n ≤ 65536

pub record IsTerminalInRange (t : Terminal) : Type 0 where
  pub name : is_identifier t.name ≡ true
  pub rx_data : IsReference t.rx_data
  pub tx_data : IsReference t.tx_data
  pub rx_clock : IsReference t.rx_clock
  pub tx_clock : IsReference t.tx_clock
  pub rx_max : IsMaxSize t.rx_max
  pub tx_max : IsMaxSize t.tx_max

pub record IsInRange (d : Description) : Type 0 where
  pub identifier : is_identifier d.identifier ≡ true
  pub few : length d.countdown ≤ 8
  pub countdown : AllByRecursion IsReference d.countdown
  pub some : 1 ≤ length d.terminals
  pub at_most : length d.terminals ≤ 4
  pub terminals : AllByRecursion IsTerminalInRange d.terminals
