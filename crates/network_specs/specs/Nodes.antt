-- The checks of the nodes.
use Rattle.std.specs.Prelude.{ℕ, ◌==◌, ◌||◌, not, Bool, List, [], ◌∷◌, length, position, Option, option_and_then, Result, Ok, codes, bytes_eq, nat_lt}
use Rattle.std.specs.List.{list_any}
use Rattle.toml.specs.Data.{Data, Members, no_members, member, as_str}
use Rattle.document_specs.specs.Checks.{◌>>=◌, needs, needs_that, each}
use Rattle.document_specs.specs.Documents.{that, tables, table_at, identifier}
use Rattle.network_specs.specs.declared.field.NetworkField.TheVariants as field
use Rattle.network_specs.specs.Settings.{Refusal, refusal}
use Rattle.network_specs.specs.Buses.{Bus, is_bus, name}

-- a terminal, as a key names it, and the place of the bus that it stands on
pub record Attachment : Type 0 where
  pub terminal : List ℕ
  pub bus : ℕ

-- the keys of a table and what stands at them
abbrev pub entries_of : Members → List (List ℕ × Data)
entries_of no_members = []
entries_of (member key d ms) = (key, d) ∷ entries_of ms

-- where the bus of this name stands
abbrev pub place_of_bus : List Bus → List ℕ → Option ℕ
place_of_bus buses name = position (is_bus name) buses

-- where the bus stands that a value names
abbrev pub bus_named : List Bus → Data → Option ℕ
bus_named buses d = option_and_then (place_of_bus buses) (as_str d)

-- one of the terminals stands on the bus at this place
abbrev pub stands_on : List Attachment → ℕ → Bool
stands_on attachments bus = list_any (λ a. a.bus == bus) attachments

-- where the bus stands that a value names, if none of these terminals stands on it
abbrev pub new_bus : List Bus → List Attachment → Data → Option ℕ
new_bus buses before d = option_and_then (that (λ bus. not (stands_on before bus))) (bus_named buses d)

-- an entry in the table of the node at this place, behind these
unfoldable pub attachment_at : ℕ → List Bus → List Attachment → List ℕ × Data → Result Attachment Refusal
attachment_at place buses before entry = do
  bus ← needs (refusal field.NodeBus place) (new_bus buses before entry.1)
  Ok (record { terminal = entry.0; bus = bus })

-- the bus of each terminal: one entry at least, and no bus twice
unfoldable pub attachments_of : ℕ → List Bus → Members → Result (List Attachment) Refusal
attachments_of place buses t = do
  ms ← needs (refusal field.NodeBus place) (table_at (codes "bus") t)
  some ← needs_that (refusal field.NodeBus place) (nat_lt 0 (length (entries_of ms)))
  each (attachment_at place buses) [] (entries_of ms)

-- a node: its name, the folder of its unit, and its terminals with their buses
pub record Node : Type 0 where
  pub name : List ℕ
  pub fmu : List ℕ
  pub attachments : List Attachment

abbrev pub is_node : List ℕ → Node → Bool
is_node name n = bytes_eq n.name name

-- the word that stands for the sender of an attempt
abbrev pub is_sender : List ℕ → Bool
is_sender s = bytes_eq s (codes "sender")

abbrev pub has_node : List Node → List ℕ → Bool
has_node nodes name = list_any (is_node name) nodes

-- the name of a table, if no node before has it and it isn't the sender's word
abbrev pub new_node_name : List Node → Members → Option (List ℕ)
new_node_name before t = option_and_then (that (λ s. not (has_node before s || is_sender s))) (name t)

-- the node of a table at this place, behind these
unfoldable pub node_at : ℕ → List Bus → List Node → Members → Result Node Refusal
node_at place buses before t = do
  name ← needs (refusal field.NodeName place) (new_node_name before t)
  fmu ← needs (refusal field.NodeFmu place) (identifier (codes "fmu") t)
  attachments ← attachments_of place buses t
  Ok (record { name = name; fmu = fmu; attachments = attachments })

abbrev pub node_of : List Bus → List Node → Members → Result Node Refusal
node_of buses before t = node_at (length before) buses before t

unfoldable pub nodes_of : List Bus → Members → Result (List Node) Refusal
nodes_of buses t = needs (refusal field.Node 0) (tables 1 32 (codes "node") t) >>= each (node_of buses) []
