-- What holds of an accepted network file.
use Rattle.std.specs.Prelude.{◌≡◌, ℕ, ◌^◌, ◌<◌, ◌≤◌, true, List, length, map, Some, slice_get, IfSome}
use Rattle.std.specs.List.{AllByRecursion}
use Rattle.world_specs.specs.World.{AreDistinct}
use Rattle.world_specs.specs.Plan.{Between, IsBitTime}
use Rattle.network_specs.specs.Buses.{Rate, Bus}
use Rattle.network_specs.specs.Nodes.{Attachment, Node, stands_on}
use Rattle.network_specs.specs.Scripts.{ScriptEntry}
use Rattle.network_specs.specs.NetworkFiles.{NetworkFile}

-- at a rate of 32 bits a bit lasts a whole number of ticks
abbrev pub IsRate : ℕ → Rate → Type 0
IsRate resolution r = IsBitTime resolution r.bits r.ticks

pub record IsBus (resolution : ℕ) (b : Bus) : Type 0 where
  pub rate : IsRate resolution b.rate
  pub fd_rate : IfSome b.fd_rate (IsRate resolution)

abbrev pub buses_of_node : Node → List ℕ
buses_of_node n = map (λ (a : Attachment). a.bus) n.attachments

-- its terminals stand on buses that are there, no two on one
pub record IsNode (buses : ℕ) (n : Node) : Type 0 where
  pub there : AllByRecursion (λ bus. bus < buses) (buses_of_node n)
  pub distinct : AreDistinct (buses_of_node n)

-- the node at this place is there and stands on the bus
pub record IsOn (nodes : List Node) (bus place : ℕ) : Type 0 where
  pub node : Node
  pub there : slice_get nodes place ≡ Some node
  pub stands : stands_on node.attachments bus ≡ true

pub record IsScriptEntry (buses : ℕ) (nodes : List Node) (e : ScriptEntry) : Type 0 where
  pub bus : e.bus < buses
  pub first : Between 1 (2 ^ 32) e.entry.first
  pub count : Between 1 (2 ^ 32) e.entry.count
  pub kind : Between 1 4 e.entry.kind
  pub by : IfSome e.entry.by (IsOn nodes e.bus)
  pub bit : e.entry.bit ≤ 1023

pub record IsInRange (f : NetworkFile) : Type 0 where
  pub resolution : Between 1 (10 ^ 12) f.settings.resolution
  pub stop : f.settings.stop ≤ 2 ^ 62
  pub events : Between 1 (10 ^ 8) f.settings.events
  pub fuel : Between 1 (10 ^ 9) f.settings.fuel
  pub some_buses : Between 1 4 (length f.buses)
  pub buses : AllByRecursion (IsBus f.settings.resolution) f.buses
  pub some_nodes : Between 1 32 (length f.nodes)
  pub nodes : AllByRecursion (IsNode (length f.buses)) f.nodes
  pub few_errors : length f.script ≤ 1024
  pub errors : AllByRecursion (IsScriptEntry (length f.buses) f.nodes) f.script
