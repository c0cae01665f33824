-- The files of a folder, one by one: words of this crate's own readers. No public clause cites this file.
use Rattle.std.specs.Prelude.{◌≡◌, ℕ, Bool, true, false, List, [], ◌∷◌, ◌++◌, length, map, flat_map, Option, Some, None, option_and_then, Result, Ok, Err, IfOk, nat_lt, slice_get, if◌then◌else◌}
use Rattle.sha2.specs.Hashers.{Holds256}
use Rattle.sha2.specs.declared.Sha256.{Sha256}
use Rattle.unit_specs.specs.Description.{Description}
use Rattle.document_specs.specs.Checks.{each}
use Rattle.description_specs.specs.Descriptions.{description_of}
use Rattle.wasm_types.specs.declared.module.Module.{Module}
use Rattle.wasm_types.specs.Modules.{NestedModule}
use Rattle.world_specs.specs.Plan.{NodePlan}
use Rattle.wasm_types.specs.Back.{nested_module}
use Rattle.bench_outside.specs.Shelf.{Contents}
use Rattle.bench_outside.specs.declared.shelf.Shelf.{Ghosts as shelf_ghosts}
use Rattle.bench_outside.specs.declared.refusal.FileId.{FileId}
use Rattle.bench_outside.specs.declared.refusal.FileId.TheVariants as id
use Rattle.bench_outside.specs.declared.refusal.Refusal.{Refusal}
use Rattle.bench_outside.specs.declared.refusal.Why.TheVariants.{Size}
use Rattle.refusal_names.specs.Modules.{refusal}
use Rattle.network_specs.specs.Nodes.{Node}
use Rattle.network_specs.specs.NetworkFiles.{NetworkFile, network_file_of}
use Rattle.network_specs.specs.Plans.{attached_buses}
use Rattle.network_specs.specs.Judging.{refused_as}
use Rattle.network_specs.specs.Networks.{File, Main, DescriptionOf, ModuleOf, InNetworkFile, InDescription, InModule, Unread, NodeParts, is_same_file, module_name, framed, node_plan_of, node_parts_at, node_parts_of}
use Rattle.network_folder.specs.declared.error.NetError.{NetError}
use Rattle.network_folder.specs.declared.error.NetError.TheVariants as answer
use Rattle.network_folder.specs.declared.units.NodeUnit.{NodeUnit}
use Rattle.network_folder.specs.declared.units.Units.{Units}
use Rattle.network_folder.specs.Outcomes.{judged_unit, whole, lacking, description_at, module_at, file_id, answer_of, outcome_of}
use Rattle.network_folder.specs.Shelves.{Reads}

-- ---- what the bytes of a file say

abbrev pub file_said : List ℕ → Result NetworkFile NetError
file_said bytes = refused_as (λ e. answer_of (InNetworkFile e)) (network_file_of bytes)

abbrev pub description_said : ℕ → List ℕ → Result Description NetError
description_said place bytes = refused_as (λ e. answer_of (InDescription place e)) (description_of bytes)

abbrev pub module_said : ℕ → Description → List ℕ → Result NestedModule NetError
module_said place d bytes = refused_as (λ e. answer_of (InModule place e)) (judged_unit d bytes)

-- a file within its limit
abbrev pub limited : FileId → ℕ → List ℕ → Result (List ℕ) NetError
limited file limit bytes = if nat_lt limit (length bytes) then Err (answer.Refused (refusal file Size limit)) else Ok bytes

-- that is the answer, unless memory ran out
abbrev pub Answers : {X Y : Type 0} → (X → Y) → Result X NetError → Result Y NetError → Type 0
Answers view (Ok x) said = said ≡ Ok (view x)
Answers view (Err answer.Memory) said = Unit {0}
Answers view (Err (answer.Refused r)) said = said ≡ Err (answer.Refused r)
Answers view (Err (answer.Unread file)) said = ⊥

-- ---- one file

-- bytes are those that the shelf holds, where it tells that
abbrev pub AreHeld : Option Contents → List ℕ → List ℕ → Type 0
AreHeld holds name bytes = (held : Contents) → holds ≡ Some held → bytes ≡ held name

-- these bytes are added to the message of a digest
abbrev pub Adds : Sha256 → Sha256 → List ℕ → Type 0
Adds old new bytes = (m : List ℕ) → Holds256 old m → Holds256 new (m ++ bytes)

module _ {H : Type 0} (shelf : shelf_ghosts H) where
  -- the reading of a file: what its bytes say, or why it stops
  pub record ReadsFile {X Y : Type 0} (before now : H) (old new : Sha256) (file : FileId) (name : List ℕ) (view : X → Y) (said : List ℕ → Result Y NetError) (result : Result X NetError) : Type 0 where
    pub reads : Reads shelf before now result
    pub found : IfOk result (λ x. (bytes : List ℕ) × (said bytes ≡ Ok (view x)) × AreHeld (shelf.holds before) name bytes × Adds old new (framed bytes))
    pub refused : (r : Refusal) (held : Contents) → result ≡ Err (answer.Refused r) → shelf.holds before ≡ Some held → said (held name) ≡ Err (answer.Refused r)
    pub unread : (id : FileId) → result ≡ Err (answer.Unread id) → (id ≡ file) × ((shelf.read_faults now).last ≡ name)

-- ---- one node

-- no read of a file of this node fails, nor of any node before this one
abbrev pub SparesNode : ℕ → (File → Bool) → Type 0
SparesNode place fails = (fails (DescriptionOf place) ≡ false) × (fails (ModuleOf place) ≡ false)

abbrev pub IsFileOfNode : ℕ → File → Type 0
IsFileOfNode place Main = ⊥
IsFileOfNode place (DescriptionOf node) = node ≡ place
IsFileOfNode place (ModuleOf node) = node ≡ place

-- the name of a file of a node, where the files before it are accepted
abbrev pub name_in_node : Contents → List ℕ → Node → File → Option (List ℕ)
name_in_node held net node Main = None
name_in_node held net node (DescriptionOf place) = Some (description_at net node)
name_in_node held net node (ModuleOf place) = module_at held net node

-- what is known of a node by the bytes of its files
pub record IsRead (holds : Option Contents) (net : List ℕ) (node : Node) (p : NodeParts NestedModule) : Type 0 where
  pub described : description_of p.description_bytes ≡ Ok p.description
  pub attached : attached_buses node.attachments p.description.terminals ≡ Some p.buses
  pub judged : judged_unit p.description p.code_bytes ≡ Ok p.code
  pub description_held : AreHeld holds (description_at net node) p.description_bytes
  pub code_held : AreHeld holds (module_name net node.fmu p.description.identifier) p.code_bytes

abbrev pub framed_node : NodeParts NestedModule → List ℕ
framed_node p = framed p.description_bytes ++ framed p.code_bytes

module _ {H : Type 0} (shelf : shelf_ghosts H) where
  pub record ReadsNode (before now : H) (old new : Sha256) (net : List ℕ) (place : ℕ) (node : Node) (result : Result NodeUnit NetError) : Type 0 where
    pub reads : Reads shelf before now result
    pub found : IfOk result (λ x. (p : NodeParts NestedModule) × (node_plan_of p ≡ x.plan) × (p.code ≡ nested_module x.code) × IsRead (shelf.holds before) net node p × Adds old new (framed_node p))
    pub refused : (r : Refusal) (held : Contents) → result ≡ Err (answer.Refused r) → shelf.holds before ≡ Some held
        → (fails : File → Bool) → SparesNode place fails → outcome_of (node_parts_at judged_unit (record { held = held; fails = fails }) net place node) ≡ Err (answer.Refused r)
    pub unread : (id : FileId) (held : Contents) → result ≡ Err (answer.Unread id) → shelf.holds before ≡ Some held
        → (file : File) × (id ≡ file_id file) × IsFileOfNode place file
        × (node_parts_at judged_unit (lacking held file) net place node ≡ Err (Unread file)) × (name_in_node held net node file ≡ Some (shelf.read_faults now).last)
    pub elsewhere : result ≡ Err (answer.Unread id.Main) → ⊥

-- ---- all nodes

abbrev pub AreRead : Option Contents → List ℕ → List Node → List (NodeParts NestedModule) → Type 0
AreRead holds net [] [] = Unit {0}
AreRead holds net [] (p ∷ ps) = ⊥
AreRead holds net (n ∷ ns) [] = ⊥
AreRead holds net (n ∷ ns) (p ∷ ps) = IsRead holds net n p × AreRead holds net ns ps

-- the name of a file of the node at its place
abbrev pub name_among : Contents → List ℕ → List Node → File → Option (List ℕ)
name_among held net nodes Main = None
name_among held net nodes (DescriptionOf place) = option_and_then (λ n. name_in_node held net n (DescriptionOf place)) (slice_get nodes place)
name_among held net nodes (ModuleOf place) = option_and_then (λ n. name_in_node held net n (ModuleOf place)) (slice_get nodes place)

-- the nodes that were read, each with its parts
pub record AreUnits (holds : Option Contents) (old new : Sha256) (net : List ℕ) (nodes : List Node) (plans : List NodePlan) (codes : List Module) : Type 0 where
  pub parts : List (NodeParts NestedModule)
  pub are_plans : map node_plan_of parts ≡ plans
  pub are_codes : map (λ (p : NodeParts NestedModule). p.code) parts ≡ map nested_module codes
  pub read : AreRead holds net nodes parts
  pub added : Adds old new (flat_map framed_node parts)

module _ {H : Type 0} (shelf : shelf_ghosts H) where
  pub record ReadsNodes (before now : H) (old new : Sha256) (net : List ℕ) (nodes : List Node) (result : Result Units NetError) : Type 0 where
    pub reads : Reads shelf before now result
    pub found : IfOk result (λ units. AreUnits (shelf.holds before) old new net nodes units.plans.items units.codes.items)
    pub refused : (r : Refusal) (held : Contents) → result ≡ Err (answer.Refused r) → shelf.holds before ≡ Some held
        → outcome_of (each (node_parts_of judged_unit (whole held) net) [] nodes) ≡ Err (answer.Refused r)
    pub unread : (id : FileId) (held : Contents) → result ≡ Err (answer.Unread id) → shelf.holds before ≡ Some held
        → (file : File) × (id ≡ file_id file)
        × (is_same_file file Main ≡ false) × (each (node_parts_of judged_unit (lacking held file) net) [] nodes ≡ Err (Unread file)) × (name_among held net nodes file ≡ Some (shelf.read_faults now).last)
    pub elsewhere : result ≡ Err (answer.Unread id.Main) → ⊥
