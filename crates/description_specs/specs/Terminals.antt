-- The checks of the terminals (FMI 3.0, section 2.4.9).
use Rattle.std.specs.Prelude.{ℕ, ◌==◌, ◌&&◌, ◌||◌, not, Bool, List, [], length, Option, None, option_and_then, Result, Ok, if◌then◌else◌, codes, bytes_eq}
use Rattle.std.specs.List.{list_any, find}
use Rattle.toml.specs.Data.{Members}
use Rattle.document_specs.specs.Checks.{◌>>=◌, needs, each}
use Rattle.document_specs.specs.Documents.{that, identifier, tables}
use Rattle.unit_specs.specs.Description.{Terminal}
use Rattle.description_specs.specs.declared.field.Field.TheVariants as field
use Rattle.description_specs.specs.declared.variable.Causality.{Causality}
use Rattle.description_specs.specs.declared.variable.Causality.TheVariants.{Input, Output}
use Rattle.description_specs.specs.declared.variable.BinaryVariable.{BinaryVariable}
use Rattle.description_specs.specs.Variables.{Refusal, refusal, same_causality, reference}

abbrev pub is_named : List ℕ → Terminal → Bool
is_named name t = bytes_eq t.name name

-- one of the terminals has this name
abbrev pub has_name : List Terminal → List ℕ → Bool
has_name before name = list_any (is_named name) before

-- the name of a table, an identifier that no earlier terminal has
abbrev pub new_name : List Terminal → Members → Option (List ℕ)
new_name before t = option_and_then (that (λ name. not (has_name before name))) (identifier (codes "name") t)

-- the variable stands in a terminal
abbrev pub stands_in : ℕ → Terminal → Bool
stands_in r t = ((r == t.rx_data) || (r == t.tx_data)) || ((r == t.rx_clock) || (r == t.tx_clock))

-- the variable stands in no earlier terminal
abbrev pub is_free : List Terminal → ℕ → Bool
is_free before r = not (list_any (stands_in r) before)

abbrev pub is_binary : Causality → ℕ → BinaryVariable → Bool
is_binary c r b = (b.reference == r) && same_causality c b.causality

-- the binary of this causality that has this value reference, if it stands in no earlier terminal
abbrev pub binary_named : Causality → List BinaryVariable → List Terminal → ℕ → Option BinaryVariable
binary_named c binaries before r = if is_free before r then find (is_binary c r) binaries else None

abbrev pub data_at : Causality → List BinaryVariable → List Terminal → List ℕ → Members → Option BinaryVariable
data_at c binaries before key t = option_and_then (binary_named c binaries before) (reference key t)

-- the clock of this binary, if it stands in no earlier terminal
abbrev pub its_clock : BinaryVariable → List Terminal → List ℕ → Members → Option ℕ
its_clock b before key t = option_and_then (that (λ r. (r == b.clock) && is_free before r)) (reference key t)

-- the terminal of a table at this place, behind these
unfoldable pub terminal_at : ℕ → List BinaryVariable → List Terminal → Members → Result Terminal Refusal
terminal_at place binaries before t = do
  name ← needs (refusal field.TerminalName place) (new_name before t)
  rx ← needs (refusal field.TerminalRxData place) (data_at Input binaries before (codes "Rx_Data") t)
  rx_clock ← needs (refusal field.TerminalRxClock place) (its_clock rx before (codes "Rx_Clock") t)
  tx ← needs (refusal field.TerminalTxData place) (data_at Output binaries before (codes "Tx_Data") t)
  tx_clock ← needs (refusal field.TerminalTxClock place) (its_clock tx before (codes "Tx_Clock") t)
  Ok (record {
    name = name;
    rx_data = rx.reference;
    tx_data = tx.reference;
    rx_clock = rx_clock;
    tx_clock = tx_clock;
    rx_max = rx.max_size;
    tx_max = tx.max_size;
  })

abbrev pub terminal_of : List BinaryVariable → List Terminal → Members → Result Terminal Refusal
terminal_of binaries before t = terminal_at (length before) binaries before t

-- the terminals of a description with these binaries
unfoldable pub terminals_of : List BinaryVariable → Members → Result (List Terminal) Refusal
terminals_of binaries t = needs (refusal field.Terminal 0) (tables 1 4 (codes "Terminal") t) >>= each (terminal_of binaries) []
