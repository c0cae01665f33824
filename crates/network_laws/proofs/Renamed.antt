-- A folder under another name is the same network.
use Rattle.std.proofs.Common.{◌≡◌, ℕ, List, [], ◌∷◌, ◌++◌, length, Result, Ok, refl, sym, ap, ◌∙◌, codes, append_assoc}
use Rattle.unit_specs.specs.Description.{Description}
use Rattle.document_specs.specs.Checks.{◌>>=◌, needs, each}
use Rattle.description_specs.specs.Descriptions.{description_of}
use Rattle.network_specs.specs.declared.field.NetworkField.TheVariants.{NodeBus}
use Rattle.network_specs.specs.Settings.{refusal}
use Rattle.network_specs.specs.Nodes.{Node}
use Rattle.network_specs.specs.NetworkFiles.{network_file_of}
use Rattle.network_specs.specs.Plans.{attached_buses}
use Rattle.network_specs.specs.Judging.{refused_as}
use Rattle.network_specs.specs.Networks.{File, Main, DescriptionOf, ModuleOf, InNetworkFile, InDescription, Folder, read, network_file_name, description_name, module_name, network_of_parts, node_parts_at, node_parts_of, network_of}
use Rattle.network_laws.specs.Folders.{HoldTheSame}
use Rattle.description_laws.proofs.Rows.{bind_same}

read_same : {Why : Type 0} (net name one_file other_file : List ℕ) (one other : Folder) (file : File) → HoldTheSame net name one other
    → one.held one_file ≡ other.held other_file
    → read {Why = Why} one file one_file ≡ read other file other_file
read_same net name one_file other_file one other file h same = rw (h.fails file, same) refl

description_path : (net fmu : List ℕ) → description_name net fmu ≡ net ++ (codes "/" ++ (fmu ++ codes "/modelDescription.toml"))
description_path net fmu = append_assoc (net ++ codes "/") fmu (codes "/modelDescription.toml")
    ∙ append_assoc net (codes "/") (fmu ++ codes "/modelDescription.toml")

module_path : (net fmu identifier : List ℕ) → module_name net fmu identifier ≡ net
    ++ (codes "/" ++ (fmu ++ (codes "/binaries/" ++ (identifier ++ codes ".wasm"))))
module_path net fmu identifier =
    append_assoc (net ++ codes "/" ++ fmu ++ codes "/binaries/") identifier (codes ".wasm")
    ∙ (append_assoc (net ++ codes "/" ++ fmu) (codes "/binaries/") (identifier ++ codes ".wasm")
    ∙ (append_assoc (net ++ codes "/") fmu (codes "/binaries/" ++ (identifier ++ codes ".wasm"))
    ∙ append_assoc net (codes "/") (fmu ++ (codes "/binaries/" ++ (identifier ++ codes ".wasm")))))

description_held : (net name fmu : List ℕ) (one other : Folder) → HoldTheSame net name one other
    → one.held (description_name net fmu) ≡ other.held (description_name name fmu)
description_held net name fmu one other h =
    ap one.held (description_path net fmu) ∙ (h.held (codes "/" ++ (fmu ++ codes "/modelDescription.toml")) ∙ sym
    (ap other.held (description_path name fmu)))

module_held : (net name fmu identifier : List ℕ) (one other : Folder) → HoldTheSame net name one other
    → one.held (module_name net fmu identifier) ≡ other.held (module_name name fmu identifier)
module_held net name fmu identifier one other h =
    ap one.held (module_path net fmu identifier) ∙ (h.held (codes "/" ++ (fmu ++ (codes "/binaries/" ++ (identifier ++ codes ".wasm"))))
    ∙ sym (ap other.held (module_path name fmu identifier)))

pub each_alike : {E T A : Type 0} (f g : List A → T → Result A E) → ((before : List A) (t : T) → f before t ≡ g before t)
    → (before : List A) (ts : List T) → each f before ts ≡ each g before ts
each_alike f g same before [] = refl
each_alike f g same before (t ∷ ts) =
    ap (λ r. r >>= λ x. each f (before ++ x ∷ []) ts) (same before t)
    ∙ bind_same (g before t) (λ x. each f (before ++ x ∷ []) ts) (λ x. each g (before ++ x ∷ []) ts)
    (λ x. each_alike f g same (before ++ x ∷ []) ts)

module _ {Code Why : Type 0} (judge : Description → List ℕ → Result Code Why) where
  node_same : (net name : List ℕ) (one other : Folder) (place : ℕ) (node : Node) → HoldTheSame net name one other
      → node_parts_at judge one net place node ≡ node_parts_at judge other name place node
  unfolding node_parts_at
  node_same net name one other place node h =
      rw (read_same {Why = Why} net name (description_name net node.fmu) (description_name name node.fmu) one other (DescriptionOf place) h
      (description_held net name node.fmu one other h))
      (bind_same (read other (DescriptionOf place) (description_name name node.fmu)) _ _ (λ text.
      bind_same (refused_as (InDescription place) (description_of text)) _ _ (λ d.
      bind_same (needs (InNetworkFile (refusal NodeBus place)) (attached_buses node.attachments d.terminals)) _ _ (λ buses.
      rw (read_same {Why = Why} net name (module_name net node.fmu d.identifier) (module_name name node.fmu d.identifier) one other
      (ModuleOf place) h (module_held net name node.fmu d.identifier one other h)) refl))))

  pub renamed : (net name : List ℕ) (one other : Folder) → HoldTheSame net name one other
      → network_of judge one net ≡ network_of judge other name
  unfolding network_of
  renamed net name one other h =
      rw (read_same {Why = Why} net name (network_file_name net) (network_file_name name) one other Main h (h.held (codes "/net.toml")))
      (bind_same (read other Main (network_file_name name)) _ _ (λ text.
      bind_same (refused_as InNetworkFile (network_file_of text)) _ _ (λ file.
      ap (λ r. r >>= λ nodes. Ok (network_of_parts file text nodes))
      (each_alike (node_parts_of judge one net) (node_parts_of judge other name)
      (λ before node. node_same net name one other (length before) node h) [] file.nodes))))
