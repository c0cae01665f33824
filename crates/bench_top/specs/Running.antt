-- run NET: the log of the network of a folder.
use Rattle.std.specs.Prelude.{ℕ, ◌+◌, zero, suc, Bool, false, List, [], ◌∷◌, ◌++◌, length, map, Option, Some, None, Result, Ok, Err, if◌then◌else◌}
use Rattle.log_specs.specs.Line.{line_text}
use Rattle.wasm_types.specs.Modules.{NestedModule}
use Rattle.network_specs.specs.NetworkFiles.{NetworkFile, network_file_of}
use Rattle.network_specs.specs.Settings.{Refusal}
use Rattle.network_specs.specs.Networks.{File, Main, DescriptionOf, ModuleOf, Stop, Unread, Network, is_same_file, network_file_name}
use Rattle.network_folder.specs.declared.error.NetError.{NetError}
use Rattle.network_folder.specs.declared.error.NetError.TheVariants as answer
use Rattle.network_folder.specs.Outcomes.{file_id, lacking, name_in, network_in, outcome_of, whole}
use Rattle.ideal_specs.specs.Ideal.{ideal_lines, ideal_status}
use Rattle.bench_outside.specs.Shelf.{Contents}
use Rattle.bench_outside.specs.declared.refusal.FileId.{FileId}
use Rattle.bench_top.specs.declared.status.Status.{Status}
use Rattle.bench_top.specs.declared.status.Status.TheVariants as status
use Rattle.bench_top.specs.Playing.{ended}
use Rattle.bench_top.specs.Deed.{Deed}

-- ---- the files that are read

-- whether it is the read of this file that fails
abbrev pub stops_at : {X Why : Type 0} → File → Result X (Stop Why) → Bool
stops_at file (Ok x) = false
stops_at file (Err (Unread other)) = is_same_file file other
stops_at file (Err other) = false

abbrev pub named : File → Option (List ℕ) → List (FileId × List ℕ)
named file (Some name) = (file_id file, name) ∷ []
named file None = []

-- a file is read where its read could stop the reading of the folder; behind its name
abbrev pub asked_at : Contents → List ℕ → File → List (FileId × List ℕ)
asked_at held net file = if stops_at file (network_in (lacking held file) net) then named file (name_in held net file) else []

-- those of the nodes from this place on, of which so many are left
abbrev pub asked_from : Contents → List ℕ → (place left : ℕ) → List (FileId × List ℕ)
asked_from held net place zero = []
asked_from held net place (suc left) = asked_at held net (DescriptionOf place) ++ asked_at held net (ModuleOf place) ++ asked_from held net
    (place + 1) left

-- how many nodes the network file has
abbrev pub nodes_of : Result NetworkFile Refusal → ℕ
nodes_of (Ok file) = length file.nodes
nodes_of (Err refusal) = 0

abbrev pub asked_of : Contents → List ℕ → List (FileId × List ℕ)
asked_of held net = asked_at held net Main ++ asked_from held net 0 (nodes_of (network_file_of (held (network_file_name net))))

-- ---- the deed

abbrev pub network_status : Result (Network NestedModule) NetError → Status
network_status (Ok n) = ended (ideal_status n)
network_status (Err (answer.Refused refusal)) = status.Refused refusal
network_status (Err (answer.Unread file)) = status.Unread file
network_status (Err answer.Memory) = status.Memory

abbrev pub network_lines : Result (Network NestedModule) NetError → List (List ℕ)
network_lines (Ok n) = map line_text (ideal_lines n)
network_lines (Err e) = []

-- What is to be done where files hold this: the log of the ideal run of the folder's network, each line by one write, or
-- the first refusal. Where no read fails, and memory is there, no other answer comes.
abbrev pub run_deed : List ℕ → Contents → Deed
run_deed net held = record {
  asked = asked_of held net;
  status = network_status (outcome_of (network_in (whole held) net));
  lines = network_lines (outcome_of (network_in (whole held) net));
}
