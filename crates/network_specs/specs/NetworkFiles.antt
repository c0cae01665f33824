-- The network file by itself, or its first refusal: the list of checks in the format's order.
use Rattle.std.specs.Prelude.{ℕ, List, length, Result, Ok, nat_le}
use Rattle.toml.specs.Data.{Members}
use Rattle.document_specs.specs.Checks.{◌>>=◌, needs, needs_that}
use Rattle.document_specs.specs.Documents.{document}
use Rattle.network_specs.specs.declared.field.NetworkField.TheVariants.{Size, Toml}
use Rattle.network_specs.specs.Settings.{Refusal, refusal, Settings, settings_of}
use Rattle.network_specs.specs.Buses.{Bus, buses_of}
use Rattle.network_specs.specs.Nodes.{Node, nodes_of}
use Rattle.network_specs.specs.Scripts.{ScriptEntry, script_of}

-- what the file says: a network without what is known of its units
pub record NetworkFile : Type 0 where
  pub settings : Settings
  pub buses : List Bus
  pub nodes : List Node
  pub script : List ScriptEntry

-- what a document says
unfoldable pub network_file_in : Members → Result NetworkFile Refusal
network_file_in t = do
  settings ← settings_of t
  buses ← buses_of settings.resolution t
  nodes ← nodes_of buses t
  script ← script_of buses nodes t
  Ok (record { settings = settings; buses = buses; nodes = nodes; script = script })

-- how long the file may be, in bytes: 1 MiB
abbrev pub most_bytes : ℕ
most_bytes = 1048576

-- what these bytes say, or their first refusal
unfoldable pub network_file_of : List ℕ → Result NetworkFile Refusal
network_file_of bytes = do
  size ← needs_that (refusal Size most_bytes) (nat_le (length bytes) most_bytes)
  t ← needs (refusal Toml 0) (document bytes)
  network_file_in t
