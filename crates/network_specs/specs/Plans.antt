-- The plan of a network, by its file and what is known of its units.
use Rattle.std.specs.Prelude.{ℕ, ◌+◌, ◌==◌, Bool, List, [], ◌∷◌, length, map, filter, Option, Some, None, option_and_then, option_map, if◌then◌else◌, bytes_eq}
use Rattle.std.specs.List.{find}
use Rattle.unit_specs.specs.Description.{Terminal}
use Rattle.bus_specs.specs.Bus.{ErrorEntry, Setup}
use Rattle.world_specs.specs.Plan.{BusPlan, NodePlan, Plan, naming_from}
use Rattle.network_specs.specs.Buses.{Bus, Rate}
use Rattle.network_specs.specs.Nodes.{Attachment}
use Rattle.network_specs.specs.Scripts.{ScriptEntry}
use Rattle.network_specs.specs.NetworkFiles.{NetworkFile}

abbrev pub is_attached : List ℕ → Attachment → Bool
is_attached name a = bytes_eq a.terminal name

-- the bus of the terminal of this name
abbrev pub bus_of_terminal : List Attachment → List ℕ → Option ℕ
bus_of_terminal attachments name = option_map (λ a. a.bus) (find (is_attached name) attachments)

-- the bus of each terminal, if each has one
abbrev pub buses_of_terminals : List Attachment → List Terminal → Option (List ℕ)
buses_of_terminals attachments [] = Some []
buses_of_terminals attachments (t ∷ ts) =
    option_and_then (λ bus. option_map (λ buses. bus ∷ buses) (buses_of_terminals attachments ts)) (bus_of_terminal attachments t.name)

-- The bus of each terminal, where the keys are exactly the names of the terminals: as many, and each terminal has one.
-- The keys of a table differ, and so do the names of terminals.
abbrev pub attached_buses : List Attachment → List Terminal → Option (List ℕ)
attached_buses attachments terminals =
    if length attachments == length terminals then buses_of_terminals attachments terminals else None

-- the entries of the script of the bus at a place, in their order
abbrev pub entries_on : ℕ → List ScriptEntry → List ErrorEntry
entries_on bus script = map (λ e. e.entry) (filter (λ e. e.bus == bus) script)

abbrev pub setup_of : List ScriptEntry → ℕ → Bus → Setup
setup_of script place b = record {
  number = place;
  rate = b.rate.bits;
  fd_rate = option_map (λ (r : Rate). r.bits) b.fd_rate;
  nominal = b.rate.ticks;
  data_bit_time = option_map (λ (r : Rate). r.ticks) b.fd_rate;
  errors = entries_on place script;
}

-- the buses, each with its place as its number, where the first has this place
abbrev pub bus_plans_from : ℕ → List ScriptEntry → List NodePlan → List Bus → List BusPlan
bus_plans_from place script nodes [] = []
bus_plans_from place script nodes (b ∷ bs) =
    record { setup = setup_of script place b; members = naming_from 0 nodes place } ∷ bus_plans_from (place + 1) script nodes bs

abbrev pub plan_of : NetworkFile → List NodePlan → Plan
plan_of file nodes = record {
  resolution = file.settings.resolution;
  stop = file.settings.stop;
  events = file.settings.events;
  fuel = file.settings.fuel;
  buses = bus_plans_from 0 file.script nodes file.buses;
  nodes = nodes;
}
