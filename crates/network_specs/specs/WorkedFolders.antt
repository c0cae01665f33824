-- Worked folders of two nodes of one unit, computed from their bytes on: which refusal comes first, and the plan.
use Rattle.std.specs.Prelude.{◌≡◌, ℕ, Bool, false, List, [], ◌∷◌, ◌++◌, Option, Some, None, Result, Ok, Err, if◌then◌else◌, bytes_eq, codes, refl}
use Rattle.std.specs.Str.{is_utf8, chars}
use Rattle.toml.proofs.OnLiterals.{toml_on_literals}
use Rattle.unit_specs.specs.Description.{Description}
use Rattle.document_specs.specs.Documents.{document}
use Rattle.description_specs.specs.declared.field.Field.TheVariants.{HasEventMode}
use Rattle.description_specs.specs.Variables.{refusal as description_refused}
use Rattle.description_specs.specs.Clocks.{clock_at, clocks_of}
use Rattle.description_specs.specs.Binaries.{binary_at, binaries_of}
use Rattle.description_specs.specs.Terminals.{terminal_at, terminals_of}
use Rattle.description_specs.specs.Descriptions.{description_of, description_in, head_of}
use Rattle.description_specs.specs.Worked.{line, head, clocks, binaries, terminals, engine_description}
use Rattle.world_specs.specs.Plan.{Plan}
use Rattle.network_specs.specs.declared.field.NetworkField.TheVariants.{Stop as stop_field, NodeBus}
use Rattle.network_specs.specs.Settings.{refusal, settings_of}
use Rattle.network_specs.specs.Buses.{bus_at, buses_of}
use Rattle.network_specs.specs.Nodes.{attachment_at, attachments_of, node_at, nodes_of}
use Rattle.network_specs.specs.Scripts.{entry_at, script_of}
use Rattle.network_specs.specs.NetworkFiles.{network_file_of, network_file_in}
use Rattle.network_specs.specs.Networks.{File, DescriptionOf, Stop, InNetworkFile, InDescription, InModule, Unread, Folder, Network, is_same_file, node_parts_at, network_of}

-- stands for the judgement of a module: it isn't empty
abbrev pub some_bytes : Description → List ℕ → Result (List ℕ) ℕ
some_bytes d [] = Err 7
some_bytes d (b ∷ bs) = Ok (b ∷ bs)

-- a network of a stop, whose second node has this key
abbrev pub net_text : List ℕ → List ℕ → List ℕ
net_text stop terminal = line (codes "resolution = 1000") ++ line stop ++ line (codes "[[bus]]") ++ line (codes "name = \"a\"") ++ line (codes "rate = 500")
    ++ line (codes "[[node]]") ++ line (codes "name = \"x\"") ++ line (codes "fmu = \"e\"") ++ line (codes "bus = { CAN = \"a\" }")
    ++ line (codes "[[node]]") ++ line (codes "name = \"y\"") ++ line (codes "fmu = \"e\"") ++ line (codes "bus = { " ++ terminal ++ codes " = \"a\" }")

abbrev pub unit_text : List ℕ → List ℕ
unit_text event_mode = head event_mode ++ clocks ++ binaries (codes "maxSize = 4096") ++ terminals

abbrev pub with_events : List ℕ
with_events = line (codes "hasEventMode = true")

-- the folder n
abbrev pub files : List ℕ → List ℕ → List ℕ → List ℕ → List ℕ
files net unit code name =
    if bytes_eq name (codes "n/net.toml") then net
    else if bytes_eq name (codes "n/e/modelDescription.toml") then unit
    else if bytes_eq name (codes "n/e/binaries/engine.wasm") then code
    else []

abbrev pub none_fails : File → Bool
none_fails file = false

abbrev pub whole : List ℕ → List ℕ → List ℕ → Folder
whole net unit code = record { held = files net unit code; fails = none_fails }

abbrev pub five : List ℕ
five = codes "stop = 5"

-- the network file is checked whole before a description is read
pub file_first : network_of some_bytes (whole (net_text [] (codes "CAN")) [] []) (codes "n") ≡ Err (InNetworkFile (refusal stop_field 0))
unfolding toml_on_literals is_utf8 chars document network_file_of network_file_in settings_of network_of
file_first = refl

-- a description before its node's keys
pub description_first : network_of some_bytes (whole (net_text five (codes "LIN")) (unit_text []) []) (codes "n") ≡ Err (InDescription 0 (description_refused HasEventMode 0))
unfolding toml_on_literals is_utf8 chars document description_of description_in head_of network_file_of network_file_in settings_of buses_of bus_at nodes_of node_at attachments_of attachment_at script_of entry_at network_of node_parts_at
description_first = refl

-- the first node's module before the second node's keys
pub module_first : network_of some_bytes (whole (net_text five (codes "LIN")) (unit_text with_events) []) (codes "n") ≡ Err (InModule 0 7)
unfolding toml_on_literals is_utf8 chars document description_of description_in head_of clock_at binary_at terminal_at clocks_of binaries_of terminals_of network_file_of network_file_in settings_of buses_of bus_at nodes_of node_at attachments_of attachment_at script_of entry_at network_of node_parts_at
module_first = refl

-- keys that aren't exactly the terminals, at the place of the node
pub keys_second : network_of some_bytes (whole (net_text five (codes "LIN")) (unit_text with_events) (1 ∷ [])) (codes "n") ≡ Err (InNetworkFile (refusal NodeBus 1))
unfolding toml_on_literals is_utf8 chars document description_of description_in head_of clock_at binary_at terminal_at clocks_of binaries_of terminals_of network_file_of network_file_in settings_of buses_of bus_at nodes_of node_at attachments_of attachment_at script_of entry_at network_of node_parts_at
keys_second = refl

-- a key more than there are terminals
abbrev pub two_keys : List ℕ
two_keys = line (codes "resolution = 1000") ++ line five ++ line (codes "bus = [{ name = \"a\", rate = 500 }, { name = \"b\", rate = 500 }]")
    ++ line (codes "node = [{ name = \"x\", fmu = \"e\", bus = { CAN = \"a\", LIN = \"b\" } }]")

pub key_too_many : network_of some_bytes (whole two_keys (unit_text with_events) (1 ∷ [])) (codes "n") ≡ Err (InNetworkFile (refusal NodeBus 0))
unfolding toml_on_literals is_utf8 chars document description_of description_in head_of clock_at binary_at terminal_at clocks_of binaries_of terminals_of network_file_of network_file_in settings_of buses_of bus_at nodes_of node_at attachments_of attachment_at script_of entry_at network_of node_parts_at
key_too_many = refl

-- a failed read before every rule on its bytes
pub unread : network_of some_bytes (record { held = files (net_text five (codes "LIN")) (unit_text with_events) (1 ∷ []); fails = is_same_file (DescriptionOf 1) }) (codes "n") ≡ Err (Unread (DescriptionOf 1))
unfolding toml_on_literals is_utf8 chars document description_of description_in head_of clock_at binary_at terminal_at clocks_of binaries_of terminals_of network_file_of network_file_in settings_of buses_of bus_at nodes_of node_at attachments_of attachment_at script_of entry_at network_of node_parts_at
unread = refl

-- an accepted folder
abbrev pub plan_in : Result (Network (List ℕ)) (Stop ℕ) → Option Plan
plan_in (Ok n) = Some n.plan
plan_in (Err e) = None

pub accepted_plan : plan_in (network_of some_bytes (whole (net_text five (codes "CAN")) (unit_text with_events) (1 ∷ [])) (codes "n")) ≡ Some (record {
  resolution = 1000;
  stop = 5;
  events = 1000000;
  fuel = 1000000;
  buses = record { setup = record { number = 0; rate = 500; fd_rate = None; nominal = 2; data_bit_time = None; errors = [] }; members = 0 ∷ 1 ∷ [] } ∷ [];
  nodes = record { description = engine_description; buses = 0 ∷ [] } ∷ record { description = engine_description; buses = 0 ∷ [] } ∷ [];
})
unfolding toml_on_literals is_utf8 chars document description_of description_in head_of clock_at binary_at terminal_at clocks_of binaries_of terminals_of network_file_of network_file_in settings_of buses_of bus_at nodes_of node_at attachments_of attachment_at script_of entry_at network_of node_parts_at
accepted_plan = refl
