-- What a folder on a shelf is read as: a network or its first refusal, by the names of a report.
use Rattle.std.specs.Prelude.{◌≡◌, ℕ, Bool, false, All, List, length, map, Option, Some, None, option_map, option_and_then, Result, slice_get}
use Rattle.std.specs.Result.{result_ok}
use Rattle.unit_specs.specs.Description.{Description}
use Rattle.description_specs.specs.Descriptions.{description_of}
use Rattle.wasm_types.specs.Modules.{NestedModule}
use Rattle.wasm_types.specs.Back.{nested_module}
use Rattle.code_specs.specs.Instances.{first_misfit}
use Rattle.binding_specs.specs.declared.error.BindError.{BindError}
use Rattle.binding_specs.specs.Exports.{binding_fault}
use Rattle.bench_outside.specs.Shelf.{Contents}
use Rattle.bench_outside.specs.declared.refusal.FileId.{FileId}
use Rattle.bench_outside.specs.declared.refusal.FileId.TheVariants as id
use Rattle.bench_outside.specs.declared.refusal.Refusal.{Refusal}
use Rattle.refusal_names.specs.Fields.{why_of_network, why_of_description}
use Rattle.refusal_names.specs.Modules.{refusal, refusal_of_fault, refusal_of_invalid, refusal_of_misfit, refusal_of_unbound}
use Rattle.world_specs.specs.Plan.{IsPlan}
use Rattle.network_specs.specs.Nodes.{Node}
use Rattle.network_specs.specs.NetworkFiles.{network_file_of}
use Rattle.network_specs.specs.Judging.{ModuleRefusal, Unreadable, Broken, Unfit, Unexported, refused_as, judged}
use Rattle.network_specs.specs.Networks.{File, Main, DescriptionOf, ModuleOf, Stop, InNetworkFile, InDescription, InModule, Unread, Folder, Network, is_same_file, network_file_name, description_name, module_name, network_of}
use Rattle.network_folder.specs.declared.network.Network.{Network as network}
use Rattle.network_folder.specs.declared.error.NetError.{NetError}
use Rattle.network_folder.specs.declared.error.NetError.TheVariants as answer

-- the module of a unit: what it has to export is the same for each description
abbrev pub judged_unit : Description → List ℕ → Result NestedModule (ModuleRefusal BindError)
judged_unit = judged (λ m d. binding_fault m)

abbrev pub network_in : Folder → List ℕ → Result (Network NestedModule) (Stop (ModuleRefusal BindError))
network_in = network_of judged_unit

-- ---- the folder of a shelf

-- what a shelf holds, where no read fails
abbrev pub whole : Contents → Folder
whole held = record { held = held; fails = λ file. false }

-- and where the read of this file alone fails
abbrev pub lacking : Contents → File → Folder
lacking held file = record { held = held; fails = is_same_file file }

-- the node at a place, where the network file is accepted
abbrev pub node_in : Contents → List ℕ → ℕ → Option Node
node_in held net place = option_and_then (λ f. slice_get f.nodes place) (result_ok (network_file_of (held (network_file_name net))))

-- the name of the description's file, and that of the module, where the description is accepted
abbrev pub description_at : List ℕ → Node → List ℕ
description_at net node = description_name net node.fmu

abbrev pub module_at : Contents → List ℕ → Node → Option (List ℕ)
module_at held net node = option_map (λ d. module_name net node.fmu d.identifier) (result_ok (description_of (held (description_at net node))))

-- the name of a file, where the files before it are accepted
abbrev pub name_in : Contents → List ℕ → File → Option (List ℕ)
name_in held net Main = Some (network_file_name net)
name_in held net (DescriptionOf place) = option_map (description_at net) (node_in held net place)
name_in held net (ModuleOf place) = option_and_then (module_at held net) (node_in held net place)

-- ---- the names of a report

abbrev pub file_id : File → FileId
file_id Main = id.Main
file_id (DescriptionOf node) = id.Description node
file_id (ModuleOf node) = id.Module node

abbrev pub refused_if : Option Refusal → NetError
refused_if (Some r) = answer.Refused r
refused_if None = answer.Memory

abbrev pub module_answer : FileId → ModuleRefusal BindError → NetError
module_answer file (Unreadable fault) = refused_if (refusal_of_fault file fault)
module_answer file (Broken invalid) = answer.Refused (refusal_of_invalid file invalid)
module_answer file (Unfit misfit) = answer.Refused (refusal_of_misfit file misfit)
module_answer file (Unexported fault) = answer.Refused (refusal_of_unbound file fault)

-- why there is no network. No file has the fault that memory ran out.
abbrev pub answer_of : Stop (ModuleRefusal BindError) → NetError
answer_of (InNetworkFile r) = answer.Refused (refusal id.Main (why_of_network r.field) r.place)
answer_of (InDescription node r) = answer.Refused (refusal (id.Description node) (why_of_description r.field) r.place)
answer_of (InModule node why) = module_answer (id.Module node) why
answer_of (Unread file) = answer.Unread (file_id file)

abbrev pub outcome_of : {X : Type 0} → Result X (Stop (ModuleRefusal BindError)) → Result X NetError
outcome_of = refused_as answer_of

-- ---- every network

-- what a network of the code is in the words of the definitions
abbrev pub seen : network → Network NestedModule
seen n = record { plan = n.plan; codes = map nested_module n.codes.items; digest = n.digest }

-- the module of a unit: its segments fit, and it exports what a unit has to
pub record IsUnit (m : NestedModule) : Type 0 where
  pub fits : first_misfit m ≡ None
  pub bound : binding_fault m ≡ None

-- the plan is well formed, and each node has a code, which is that of a unit
pub record IsSound (n : Network NestedModule) : Type 0 where
  pub plan : IsPlan n.plan
  pub one_each : length n.codes ≡ length n.plan.nodes
  pub units : All IsUnit n.codes
