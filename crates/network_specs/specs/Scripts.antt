-- The checks of the errors that are to happen.
use Rattle.std.specs.Prelude.{ℕ, ◌^◌, ◌&&◌, Bool, List, [], length, position, Option, Some, None, option_and_then, option_map, Result, Ok, if◌then◌else◌, codes}
use Rattle.toml.specs.Data.{Members, get_member}
use Rattle.document_specs.specs.Checks.{◌>>=◌, needs, each}
use Rattle.document_specs.specs.Documents.{text, number, optional_tables}
use Rattle.bus_specs.specs.Bus.{ErrorEntry}
use Rattle.network_specs.specs.declared.field.NetworkField.TheVariants as field
use Rattle.network_specs.specs.Settings.{Refusal, refusal, number_or}
use Rattle.network_specs.specs.Buses.{Bus}
use Rattle.network_specs.specs.Nodes.{Node, bus_named, stands_on, is_node, is_sender}

-- an entry of the script of the bus at a place
pub record ScriptEntry : Type 0 where
  pub bus : ℕ
  pub entry : ErrorEntry

-- the node of this name, if it stands on the bus
abbrev pub is_node_on : ℕ → List ℕ → Node → Bool
is_node_on bus name n = is_node name n && stands_on n.attachments bus

-- who detects the error: the sender, or the node of this name at its place
abbrev pub detector_of : List Node → ℕ → List ℕ → Option (Option ℕ)
detector_of nodes bus name = if is_sender name then Some None else option_map Some (position (is_node_on bus name) nodes)

abbrev pub detector : List Node → ℕ → Members → Option (Option ℕ)
detector nodes bus t = option_and_then (detector_of nodes bus) (text (codes "by") t)

-- the entry of a table at this place
unfoldable pub entry_at : ℕ → List Bus → List Node → Members → Result ScriptEntry Refusal
entry_at place buses nodes t = do
  bus ← needs (refusal field.ErrorBus place) (option_and_then (bus_named buses) (get_member (codes "bus") t))
  first ← needs (refusal field.ErrorAttempt place) (number 1 (2 ^ 32) (codes "attempt") t)
  count ← needs (refusal field.ErrorCount place) (number_or 1 1 (2 ^ 32) (codes "count") t)
  kind ← needs (refusal field.ErrorKind place) (number 1 4 (codes "kind") t)
  by ← needs (refusal field.ErrorBy place) (detector nodes bus t)
  bit ← needs (refusal field.ErrorBit place) (number 0 1023 (codes "bit") t)
  Ok (record { bus = bus; entry = record { first = first; count = count; kind = kind; by = by; bit = bit } })

abbrev pub entry_of : List Bus → List Node → List ScriptEntry → Members → Result ScriptEntry Refusal
entry_of buses nodes before t = entry_at (length before) buses nodes t

unfoldable pub script_of : List Bus → List Node → Members → Result (List ScriptEntry) Refusal
script_of buses nodes t = needs (refusal field.Error 0) (optional_tables 1024 (codes "error") t) >>= each (entry_of buses nodes) []
