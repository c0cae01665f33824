-- Worked network files: a good one from its bytes on, and for each field documents that are wrong there.
use Rattle.std.specs.Prelude.{◌≡◌, ℕ, pos, negsuc, true, List, [], ◌∷◌, ◌++◌, map, replicate, Option, Some, None, Result, Ok, Err, if◌then◌else◌, codes, bytes_eq, refl}
use Rattle.std.specs.Str.{is_utf8, chars}
use Rattle.toml.specs.Data.{Data, string, integer, boolean, array, table, Items, no_items, item, Members, no_members, member}
use Rattle.toml.proofs.OnLiterals.{toml_on_literals}
use Rattle.document_specs.specs.Documents.{document}
use Rattle.network_specs.specs.declared.field.NetworkField.TheVariants as field
use Rattle.network_specs.specs.Settings.{Refusal, refusal, settings_of}
use Rattle.network_specs.specs.Buses.{bus_at, buses_of}
use Rattle.network_specs.specs.Nodes.{attachment_at, attachments_of, node_at, nodes_of}
use Rattle.network_specs.specs.Scripts.{entry_at, script_of}
use Rattle.network_specs.specs.NetworkFiles.{NetworkFile, network_file_in, network_file_of}

-- ---- documents by their entries

abbrev pub Entries : Type 0
Entries = List (List ℕ × Data)

abbrev pub members : Entries → Members
members [] = no_members
members (e ∷ es) = member e.0 e.1 (members es)

abbrev pub number : ℕ → Data
number n = integer (pos n)

abbrev pub rows : List Entries → Items
rows [] = no_items
rows (e ∷ es) = item (table (members e)) (rows es)

-- another value at a key, one more key in front, and a key left out
abbrev pub changed : List ℕ → Data → Entries → Entries
changed key d es = map (λ (e : List ℕ × Data). if bytes_eq e.0 key then (key, d) else e) es

abbrev pub without : List ℕ → Entries → Entries
without key [] = []
without key (e ∷ es) = if bytes_eq e.0 key then without key es else e ∷ without key es

-- ---- a network of two buses and two nodes

abbrev pub slow : Entries
slow = (codes "name", string (codes "a")) ∷ (codes "rate", number 500) ∷ []

abbrev pub fast : Entries
fast = (codes "name", string (codes "b_1")) ∷ (codes "rate", number 250) ∷ (codes "fd_rate", number 1000) ∷ []

abbrev pub door : Entries
door = (codes "name", string (codes "door")) ∷ (codes "fmu", string (codes "Door_2")) ∷ (codes "bus", table (members ((codes "CAN", string (codes "a")) ∷ []))) ∷ []

abbrev pub gate : Entries
gate = (codes "name", string (codes "gate")) ∷ (codes "fmu", string (codes "gate")) ∷ (codes "bus", table (members ((codes "IN", string (codes "a")) ∷ (codes "OUT", string (codes "b_1")) ∷ []))) ∷ []

abbrev pub seen : Entries
seen = (codes "bus", string (codes "b_1")) ∷ (codes "attempt", number 3) ∷ (codes "kind", number 2) ∷ (codes "by", string (codes "gate")) ∷ (codes "bit", number 7) ∷ []

abbrev pub sent : Entries
sent = (codes "bus", string (codes "a")) ∷ (codes "attempt", number 1) ∷ (codes "count", number 32) ∷ (codes "kind", number 1) ∷ (codes "by", string (codes "sender")) ∷ (codes "bit", number 1023) ∷ []

abbrev pub good : Entries
good = (codes "resolution", number 1000) ∷ (codes "stop", number 5) ∷ (codes "bus", array (rows (slow ∷ fast ∷ [])))
    ∷ (codes "node", array (rows (door ∷ gate ∷ []))) ∷ (codes "error", array (rows (seen ∷ sent ∷ []))) ∷ []

abbrev pub good_file : NetworkFile
good_file = record {
  settings = record { resolution = 1000; stop = 5; events = 1000000; fuel = 1000000 };
  buses = record { name = codes "a"; rate = record { bits = 500; ticks = 2 }; fd_rate = None }
      ∷ record { name = codes "b_1"; rate = record { bits = 250; ticks = 4 }; fd_rate = Some (record { bits = 1000; ticks = 1 }) } ∷ [];
  nodes = record { name = codes "door"; fmu = codes "Door_2"; attachments = record { terminal = codes "CAN"; bus = 0 } ∷ [] }
      ∷ record { name = codes "gate"; fmu = codes "gate"; attachments = record { terminal = codes "IN"; bus = 0 } ∷ record { terminal = codes "OUT"; bus = 1 } ∷ [] } ∷ [];
  script = record { bus = 1; entry = record { first = 3; count = 1; kind = 2; by = Some 1; bit = 7 } }
      ∷ record { bus = 0; entry = record { first = 1; count = 32; kind = 1; by = None; bit = 1023 } } ∷ [];
}

pub accepted : network_file_in (members good) ≡ Ok good_file
unfolding network_file_in settings_of bus_at buses_of attachment_at attachments_of node_at nodes_of entry_at script_of
accepted = refl

-- the same from its text
abbrev pub line : List ℕ → List ℕ
line text = text ++ 10 ∷ []

abbrev pub good_text : List ℕ
good_text = line (codes "resolution = 1000") ++ line (codes "stop = 5")
    ++ line (codes "[[bus]]") ++ line (codes "name = \"a\"") ++ line (codes "rate = 500")
    ++ line (codes "[[bus]]") ++ line (codes "name = \"b_1\"") ++ line (codes "rate = 250") ++ line (codes "fd_rate = 1000")
    ++ line (codes "[[node]]") ++ line (codes "name = \"door\"") ++ line (codes "fmu = \"Door_2\"") ++ line (codes "bus.CAN = \"a\"")
    ++ line (codes "[[node]]") ++ line (codes "name = \"gate\"") ++ line (codes "fmu = \"gate\"") ++ line (codes "bus = { OUT = \"b_1\", IN = \"a\" }")
    ++ line (codes "[[error]]") ++ line (codes "bus = \"b_1\"") ++ line (codes "attempt = 3") ++ line (codes "kind = 2") ++ line (codes "by = \"gate\"") ++ line (codes "bit = 7")
    ++ line (codes "[[error]]") ++ line (codes "bus = \"a\"") ++ line (codes "attempt = 1") ++ line (codes "count = 32") ++ line (codes "kind = 1") ++ line (codes "by = \"sender\"") ++ line (codes "bit = 1023")

pub read : network_file_of good_text ≡ Ok good_file
unfolding toml_on_literals is_utf8 chars document network_file_of network_file_in settings_of bus_at buses_of attachment_at attachments_of node_at nodes_of entry_at script_of
read = refl

pub key_twice : network_file_of (codes "stop = 1\nstop = 1\n") ≡ Err (refusal field.Toml 0)
unfolding toml_on_literals is_utf8 chars document network_file_of
key_twice = refl

pub no_text : network_file_of (35 ∷ 255 ∷ 10 ∷ []) ≡ Err (refusal field.Toml 0)
unfolding toml_on_literals is_utf8 chars document network_file_of
no_text = refl

pub empty : network_file_of [] ≡ Err (refusal field.Resolution 0)
unfolding toml_on_literals is_utf8 chars document network_file_of network_file_in settings_of
empty = refl

-- ---- documents that are wrong in one place

abbrev pub first_refusal : Result NetworkFile Refusal → Option Refusal
first_refusal (Ok file) = None
first_refusal (Err e) = Some e

abbrev pub refusals : List Entries → List (Option Refusal)
refusals documents = map (λ es. first_refusal (network_file_in (members es))) documents

abbrev pub all_refused : ℕ → Refusal → List (Option Refusal)
all_refused n e = replicate n (Some e)

pub resolutions : refusals (without (codes "resolution") good ∷ changed (codes "resolution") (number 0) good ∷ changed (codes "resolution") (number 1000000000001) good
    ∷ changed (codes "resolution") (integer (negsuc 999)) good ∷ changed (codes "resolution") (string (codes "1000")) good ∷ without (codes "resolution") (without (codes "stop") good) ∷ [])
    ≡ all_refused 6 (refusal field.Resolution 0)
unfolding network_file_in settings_of
resolutions = refl

pub stops : refusals (without (codes "stop") good ∷ changed (codes "stop") (number 4611686018427387905) good ∷ changed (codes "stop") (integer (negsuc 0)) good ∷ changed (codes "stop") (boolean true) good ∷ [])
    ≡ all_refused 4 (refusal field.Stop 0)
unfolding network_file_in settings_of
stops = refl

pub budgets : refusals (((codes "events", number 0) ∷ good) ∷ ((codes "events", number 100000001) ∷ good) ∷ ((codes "events", string []) ∷ good) ∷ [])
    ≡ all_refused 3 (refusal field.Events 0)
unfolding network_file_in settings_of
budgets = refl

pub fuels : refusals (((codes "fuel", number 0) ∷ good) ∷ ((codes "fuel", number 1000000001) ∷ good) ∷ ((codes "fuel", string []) ∷ good) ∷ [])
    ≡ all_refused 3 (refusal field.Fuel 0)
unfolding network_file_in settings_of
fuels = refl

abbrev pub with_buses : List Entries → Entries
with_buses buses = changed (codes "bus") (array (rows buses)) good

pub bus_arrays : refusals (without (codes "bus") good ∷ with_buses [] ∷ with_buses (slow ∷ slow ∷ slow ∷ slow ∷ slow ∷ []) ∷ changed (codes "bus") (table (members slow)) good
    ∷ changed (codes "bus") (array (item (number 1) no_items)) good ∷ [])
    ≡ all_refused 5 (refusal field.Bus 0)
unfolding network_file_in settings_of buses_of
bus_arrays = refl

pub bus_names : refusals (with_buses (slow ∷ without (codes "name") fast ∷ []) ∷ with_buses (slow ∷ changed (codes "name") (string (codes "a")) fast ∷ []) ∷ with_buses (slow ∷ changed (codes "name") (string []) fast ∷ [])
    ∷ with_buses (slow ∷ changed (codes "name") (string (codes "B")) fast ∷ []) ∷ with_buses (slow ∷ changed (codes "name") (string (replicate 33 97)) fast ∷ []) ∷ with_buses (slow ∷ changed (codes "name") (number 1) fast ∷ []) ∷ [])
    ≡ all_refused 6 (refusal field.BusName 1)
unfolding network_file_in settings_of buses_of bus_at
bus_names = refl

pub bus_rates : refusals (with_buses (slow ∷ without (codes "rate") fast ∷ []) ∷ with_buses (slow ∷ changed (codes "rate") (number 0) fast ∷ []) ∷ with_buses (slow ∷ changed (codes "rate") (number 300) fast ∷ [])
    ∷ with_buses (slow ∷ changed (codes "rate") (number 2000) fast ∷ []) ∷ with_buses (slow ∷ changed (codes "rate") (string (codes "250")) fast ∷ []) ∷ [])
    ≡ all_refused 5 (refusal field.BusRate 1)
unfolding network_file_in settings_of buses_of bus_at
bus_rates = refl

-- of more than 32 bits, though it divides the resolution
pub long_rate : first_refusal (network_file_in (members (changed (codes "resolution") (number 8589934592) (with_buses (changed (codes "rate") (number 4294967296) slow ∷ []))))) ≡ Some (refusal field.BusRate 0)
unfolding network_file_in settings_of buses_of bus_at
long_rate = refl

pub fd_rates : refusals (with_buses (slow ∷ changed (codes "fd_rate") (number 0) fast ∷ []) ∷ with_buses (slow ∷ changed (codes "fd_rate") (number 3) fast ∷ []) ∷ with_buses (slow ∷ changed (codes "fd_rate") (boolean true) fast ∷ []) ∷ [])
    ≡ all_refused 3 (refusal field.BusFdRate 1)
unfolding network_file_in settings_of buses_of bus_at
fd_rates = refl

abbrev pub with_nodes : List Entries → Entries
with_nodes nodes = changed (codes "node") (array (rows nodes)) good

pub node_arrays : refusals (without (codes "node") good ∷ with_nodes [] ∷ with_nodes (replicate 33 door) ∷ changed (codes "node") (table (members door)) good ∷ [])
    ≡ all_refused 4 (refusal field.Node 0)
unfolding network_file_in settings_of buses_of bus_at nodes_of
node_arrays = refl

pub node_names : refusals (with_nodes (door ∷ without (codes "name") gate ∷ []) ∷ with_nodes (door ∷ changed (codes "name") (string (codes "door")) gate ∷ []) ∷ with_nodes (door ∷ changed (codes "name") (string (codes "sender")) gate ∷ [])
    ∷ with_nodes (door ∷ changed (codes "name") (string (codes "g-1")) gate ∷ []) ∷ [])
    ≡ all_refused 4 (refusal field.NodeName 1)
unfolding network_file_in settings_of buses_of bus_at nodes_of node_at attachments_of attachment_at
node_names = refl

pub node_units : refusals (with_nodes (door ∷ without (codes "fmu") gate ∷ []) ∷ with_nodes (door ∷ changed (codes "fmu") (string []) gate ∷ []) ∷ with_nodes (door ∷ changed (codes "fmu") (string (codes "../gate")) gate ∷ [])
    ∷ with_nodes (door ∷ changed (codes "fmu") (string (replicate 65 97)) gate ∷ []) ∷ [])
    ≡ all_refused 4 (refusal field.NodeFmu 1)
unfolding network_file_in settings_of buses_of bus_at nodes_of node_at attachments_of attachment_at
node_units = refl

abbrev pub attached : Entries → Entries
attached terminals = with_nodes (door ∷ changed (codes "bus") (table (members terminals)) gate ∷ [])

pub node_buses : refusals (with_nodes (door ∷ without (codes "bus") gate ∷ []) ∷ with_nodes (door ∷ changed (codes "bus") (string (codes "a")) gate ∷ []) ∷ attached [] ∷ attached ((codes "IN", string (codes "c")) ∷ [])
    ∷ attached ((codes "IN", number 0) ∷ []) ∷ attached ((codes "IN", string (codes "a")) ∷ (codes "OUT", string (codes "a")) ∷ []) ∷ [])
    ≡ all_refused 6 (refusal field.NodeBus 1)
unfolding network_file_in settings_of buses_of bus_at nodes_of node_at attachments_of attachment_at
node_buses = refl

abbrev pub with_errors : List Entries → Entries
with_errors errors = changed (codes "error") (array (rows errors)) good

pub error_arrays : refusals (changed (codes "error") (table (members seen)) good ∷ changed (codes "error") (array (item (number 1) no_items)) good ∷ [])
    ≡ all_refused 2 (refusal field.Error 0)
unfolding network_file_in settings_of buses_of bus_at nodes_of node_at attachments_of attachment_at script_of
error_arrays = refl

abbrev pub with_error : Entries → Entries
with_error e = with_errors (sent ∷ e ∷ [])

pub errors_refused : refusals (with_error (without (codes "bus") seen) ∷ with_error (changed (codes "bus") (string (codes "c")) seen)
    ∷ with_error (without (codes "attempt") seen) ∷ with_error (changed (codes "attempt") (number 0) seen) ∷ with_error (changed (codes "attempt") (number 4294967297) seen)
    ∷ with_error ((codes "count", number 0) ∷ seen) ∷ with_error ((codes "count", number 4294967297) ∷ seen)
    ∷ with_error (without (codes "kind") seen) ∷ with_error (changed (codes "kind") (number 0) seen) ∷ with_error (changed (codes "kind") (number 5) seen)
    ∷ with_error (without (codes "by") seen) ∷ with_error (changed (codes "by") (string (codes "lamp")) seen) ∷ with_error (changed (codes "by") (string (codes "door")) seen) ∷ with_error (changed (codes "by") (number 1) seen)
    ∷ with_error (without (codes "bit") seen) ∷ with_error (changed (codes "bit") (number 1024) seen) ∷ [])
    ≡ all_refused 2 (refusal field.ErrorBus 1) ++ all_refused 3 (refusal field.ErrorAttempt 1) ++ all_refused 2 (refusal field.ErrorCount 1) ++ all_refused 3 (refusal field.ErrorKind 1)
    ++ all_refused 4 (refusal field.ErrorBy 1) ++ all_refused 2 (refusal field.ErrorBit 1)
unfolding network_file_in settings_of buses_of bus_at nodes_of node_at attachments_of attachment_at script_of entry_at
errors_refused = refl

-- keys that aren't read, and a script that is left out
pub unread_keys : first_refusal (network_file_in (members ((codes "author", string (codes "n")) ∷ with_buses (((codes "colour", number 7) ∷ slow) ∷ fast ∷ [])))) ≡ None
unfolding network_file_in settings_of buses_of bus_at nodes_of node_at attachments_of attachment_at script_of entry_at
unread_keys = refl

pub no_script : first_refusal (network_file_in (members (without (codes "error") good))) ≡ None
unfolding network_file_in settings_of buses_of bus_at nodes_of node_at attachments_of attachment_at script_of entry_at
no_script = refl
