-- Folders that are compared.
use Rattle.std.specs.Prelude.{◌≡◌, ◌<◌, ◌^◌, ℕ, List, [], ◌∷◌, ◌++◌, length, Result, Ok, Err}
use Rattle.description_specs.specs.Descriptions.{description_of}
use Rattle.world_specs.specs.Plan.{Plan}
use Rattle.network_specs.specs.NetworkFiles.{network_file_of}
use Rattle.network_specs.specs.Networks.{File, Stop, Folder, NodeParts, Network, network_file_name, description_name, module_name}

-- The network file and each description say the same in both, or are refused alike; the modules are the same bytes.
pub record TellAlike (net : List ℕ) (one other : Folder) : Type 0 where
  pub fails : (file : File) → one.fails file ≡ other.fails file
  pub network : network_file_of (one.held (network_file_name net)) ≡ network_file_of (other.held (network_file_name net))
  pub descriptions : (fmu : List ℕ) → description_of (one.held (description_name net fmu)) ≡ description_of (other.held (description_name net fmu))
  pub modules : (fmu identifier : List ℕ) → one.held (module_name net fmu identifier) ≡ other.held (module_name net fmu identifier)

-- a plan and the code of each node, or where it stops: what a network is apart from its digest
abbrev pub without_digest : {Code Why : Type 0} → Result (Network Code) (Stop Why) → Result (Plan × List Code) (Stop Why)
without_digest (Ok n) = Ok (n.plan, n.codes)
without_digest (Err e) = Err e

-- the files of two folders, which may have different names, are the same
pub record HoldTheSame (net name : List ℕ) (one other : Folder) : Type 0 where
  pub fails : (file : File) → one.fails file ≡ other.fails file
  pub held : (file : List ℕ) → one.held (net ++ file) ≡ other.held (name ++ file)

-- a length that a number of 64 bits holds
abbrev pub IsShort : List ℕ → Type 0
IsShort bytes = length bytes < 2 ^ 64

abbrev pub AreShort : {Code : Type 0} → List (NodeParts Code) → Type 0
AreShort [] = Unit {0}
AreShort (n ∷ ns) = (IsShort n.description_bytes × IsShort n.code_bytes) × AreShort ns

-- as many nodes, and of each the same bytes were read
abbrev pub AreSameBytes : {Code : Type 0} → List (NodeParts Code) → List (NodeParts Code) → Type 0
AreSameBytes [] [] = Unit {0}
AreSameBytes [] (m ∷ ms) = ⊥
AreSameBytes (n ∷ ns) [] = ⊥
AreSameBytes (n ∷ ns) (m ∷ ms) = ((n.description_bytes ≡ m.description_bytes) × (n.code_bytes ≡ m.code_bytes)) × AreSameBytes ns ms
