-- A folder is a network, or its first refusal, in the order in which its files are read: the network file, then for
-- each node its description and its module. Each file is checked whole before the next is read.
use Rattle.std.specs.Prelude.{ℕ, ◌==◌, Bool, true, false, List, [], ◌++◌, length, map, flat_map, Result, Ok, Err, if◌then◌else◌, codes}
use Rattle.std.specs.Int.{to_le_bytes, w64}
use Rattle.sha2.specs.Sha256.{sha256}
use Rattle.bench_outside.specs.Shelf.{Contents}
use Rattle.unit_specs.specs.Description.{Description}
use Rattle.document_specs.specs.Checks.{◌>>=◌, needs, each}
use Rattle.description_specs.specs.Variables.{Refusal as description_refusal}
use Rattle.description_specs.specs.Descriptions.{description_of}
use Rattle.world_specs.specs.Plan.{NodePlan, Plan}
use Rattle.network_specs.specs.declared.field.NetworkField.TheVariants.{NodeBus}
use Rattle.network_specs.specs.Settings.{Refusal, refusal}
use Rattle.network_specs.specs.Nodes.{Node}
use Rattle.network_specs.specs.NetworkFiles.{NetworkFile, network_file_of}
use Rattle.network_specs.specs.Plans.{attached_buses, plan_of}
use Rattle.network_specs.specs.Judging.{refused_as}

-- a file of a network: the network file, and of the node at a place its description and its module
pub data File : Type 0 where
  Main : File
  DescriptionOf : (node : ℕ) → File
  ModuleOf : (node : ℕ) → File

abbrev pub is_same_file : File → File → Bool
is_same_file Main Main = true
is_same_file Main (DescriptionOf j) = false
is_same_file Main (ModuleOf j) = false
is_same_file (DescriptionOf i) Main = false
is_same_file (DescriptionOf i) (DescriptionOf j) = i == j
is_same_file (DescriptionOf i) (ModuleOf j) = false
is_same_file (ModuleOf i) Main = false
is_same_file (ModuleOf i) (DescriptionOf j) = false
is_same_file (ModuleOf i) (ModuleOf j) = i == j

-- Why there is no network: a file breaks a rule, or the read of a file failed.
pub data Stop (Why : Type 0) : Type 0 where
  InNetworkFile : Refusal → Stop Why
  InDescription : (node : ℕ) → description_refusal → Stop Why
  InModule : (node : ℕ) → Why → Stop Why
  Unread : File → Stop Why

-- what a shelf holds, and which reads fail
pub record Folder : Type 0 where
  pub held : Contents
  pub fails : File → Bool

abbrev pub read : {Why : Type 0} → Folder → File → List ℕ → Result (List ℕ) (Stop Why)
read folder file name = if folder.fails file then Err (Unread file) else Ok (folder.held name)

-- NET/net.toml, NET/FMU/modelDescription.toml, NET/FMU/binaries/IDENTIFIER.wasm
abbrev pub network_file_name : List ℕ → List ℕ
network_file_name net = net ++ codes "/net.toml"

abbrev pub description_name : List ℕ → List ℕ → List ℕ
description_name net fmu = net ++ codes "/" ++ fmu ++ codes "/modelDescription.toml"

abbrev pub module_name : List ℕ → List ℕ → List ℕ → List ℕ
module_name net fmu identifier = net ++ codes "/" ++ fmu ++ codes "/binaries/" ++ identifier ++ codes ".wasm"

-- a node whose files are accepted: what is known of its unit, the bus of each terminal, its code, and the bytes read
pub record NodeParts (Code : Type 0) : Type 0 where
  pub description : Description
  pub buses : List ℕ
  pub code : Code
  pub description_bytes : List ℕ
  pub code_bytes : List ℕ

-- bytes behind their length, which is a number of 64 bits in little-endian order
abbrev pub framed : List ℕ → List ℕ
framed bytes = to_le_bytes w64 (length bytes) ++ bytes

-- all bytes that were read, in the order of their reading
abbrev pub framed_files : {Code : Type 0} → List ℕ → List (NodeParts Code) → List ℕ
framed_files text nodes = framed text ++ flat_map (λ n. framed n.description_bytes ++ framed n.code_bytes) nodes

abbrev pub node_plan_of : {Code : Type 0} → NodeParts Code → NodePlan
node_plan_of n = record { description = n.description; buses = n.buses }

-- a plan, the code of each node, and the digest of the files (FIPS 180-4, SHA-256)
pub record Network (Code : Type 0) : Type 0 where
  pub plan : Plan
  pub codes : List Code
  pub digest : List ℕ

abbrev pub network_of_parts : {Code : Type 0} → NetworkFile → List ℕ → List (NodeParts Code) → Network Code
network_of_parts file text nodes = record {
  plan = plan_of file (map node_plan_of nodes);
  codes = map (λ n. n.code) nodes;
  digest = sha256 (framed_files text nodes);
}

-- How a module is judged beside its description is a parameter: the code that it is, or why it is refused.
module _ {Code Why : Type 0} (judge : Description → List ℕ → Result Code Why) where
  -- the files of the node at a place
  unfoldable pub node_parts_at : Folder → List ℕ → ℕ → Node → Result (NodeParts Code) (Stop Why)
  node_parts_at folder net place node = do
    text ← read folder (DescriptionOf place) (description_name net node.fmu)
    d ← refused_as (InDescription place) (description_of text)
    buses ← needs (InNetworkFile (refusal NodeBus place)) (attached_buses node.attachments d.terminals)
    bytes ← read folder (ModuleOf place) (module_name net node.fmu d.identifier)
    code ← refused_as (InModule place) (judge d bytes)
    Ok (record { description = d; buses = buses; code = code; description_bytes = text; code_bytes = bytes })

  abbrev pub node_parts_of : Folder → List ℕ → List (NodeParts Code) → Node → Result (NodeParts Code) (Stop Why)
  node_parts_of folder net before node = node_parts_at folder net (length before) node

  -- the network of a folder, or where it stops
  unfoldable pub network_of : Folder → List ℕ → Result (Network Code) (Stop Why)
  network_of folder net = do
    text ← read folder Main (network_file_name net)
    file ← refused_as InNetworkFile (network_file_of text)
    nodes ← each (node_parts_of folder net) [] file.nodes
    Ok (network_of_parts file text nodes)
