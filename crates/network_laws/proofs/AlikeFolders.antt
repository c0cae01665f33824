-- Folders that tell alike are the same plan and codes, or stop alike.
use Rattle.std.proofs.Common.{◌≡◌, ℕ, Bool, true, false, List, [], ◌∷◌, ◌++◌, length, Option, Some, None, Result, Ok, Err, refl, sym, ap, ◌∙◌}
use Rattle.std.specs.Prelude.{map, if◌then◌else◌}
use Rattle.std.proofs.lemmas.List.{length-map}
use Rattle.unit_specs.specs.Description.{Description}
use Rattle.document_specs.specs.Checks.{◌>>=◌, needs, each}
use Rattle.description_specs.specs.Variables.{Refusal as description_refusal}
use Rattle.description_specs.specs.Descriptions.{description_of}
use Rattle.world_specs.specs.Plan.{NodePlan}
use Rattle.network_specs.specs.declared.field.NetworkField.TheVariants.{NodeBus}
use Rattle.network_specs.specs.Settings.{Refusal, refusal}
use Rattle.network_specs.specs.Nodes.{Node}
use Rattle.network_specs.specs.NetworkFiles.{NetworkFile, network_file_of}
use Rattle.network_specs.specs.Plans.{attached_buses}
use Rattle.network_specs.specs.Judging.{refused_as}
use Rattle.network_specs.specs.Networks.{Main, DescriptionOf, ModuleOf, Stop, InNetworkFile, InDescription, InModule, Unread, Folder, NodeParts, Network, read, network_file_name, description_name, module_name, node_plan_of, network_of_parts, node_parts_at, node_parts_of, network_of}
use Rattle.network_laws.specs.Folders.{TellAlike, without_digest}

abbrev mapped : {A B E : Type 0} → (A → B) → Result A E → Result B E
mapped f (Ok x) = Ok (f x)
mapped f (Err e) = Err e

module _ {Code Why : Type 0} (judge : Description → List ℕ → Result Code Why) where
  -- what the plan and the codes take of a node
  abbrev known : NodeParts Code → NodePlan × Code
  known n = (node_plan_of n, n.code)

  abbrev with_code : Folder → List ℕ → ℕ → Node → List ℕ → Description → List ℕ → List ℕ → Result (NodeParts Code) (Stop Why)
  with_code folder net place node text d buses bytes =
      refused_as (InModule place) (judge d bytes) >>= λ code. Ok (record { description = d; buses = buses; code = code; description_bytes = text; code_bytes = bytes })

  abbrev with_buses : Folder → List ℕ → ℕ → Node → List ℕ → Description → List ℕ → Result (NodeParts Code) (Stop Why)
  with_buses folder net place node text d buses = read folder (ModuleOf place) (module_name net node.fmu d.identifier) >>= with_code folder net place node text d buses

  abbrev with_description : Folder → List ℕ → ℕ → Node → List ℕ → Description → Result (NodeParts Code) (Stop Why)
  with_description folder net place node text d = needs (InNetworkFile (refusal NodeBus place)) (attached_buses node.attachments d.terminals) >>= with_buses folder net place node text d

  code_same : (one other : Folder) (net : List ℕ) (place : ℕ) (node : Node) (text text' : List ℕ) (d : Description) (buses bytes : List ℕ)
      → mapped known (with_code one net place node text d buses bytes) ≡ mapped known (with_code other net place node text' d buses bytes)
  code_same one other net place node text text' d buses bytes = by_answer (judge d bytes)
    where
      by_answer : (r : Result Code Why) → mapped known (refused_as (InModule place) r >>= λ code. Ok (record { description = d; buses = buses; code = code; description_bytes = text; code_bytes = bytes }))
          ≡ mapped known (refused_as (InModule place) r >>= λ code. Ok (record { description = d; buses = buses; code = code; description_bytes = text'; code_bytes = bytes }))
      by_answer (Ok code) = refl
      by_answer (Err e) = refl

  read_by : (one other : Folder) (net : List ℕ) (place : ℕ) (node : Node) (text text' : List ℕ) (d : Description) (buses bytes : List ℕ) (fails : Bool)
      → mapped known ((if fails then Err (Unread (ModuleOf place)) else Ok bytes) >>= with_code one net place node text d buses) ≡ mapped known ((if fails then Err (Unread (ModuleOf place)) else Ok bytes) >>= with_code other net place node text' d buses)
  read_by one other net place node text text' d buses bytes true = refl
  read_by one other net place node text text' d buses bytes false = code_same one other net place node text text' d buses bytes

  module_same : (one other : Folder) (net : List ℕ) (place : ℕ) (node : Node) (text text' : List ℕ) (d : Description) (buses : List ℕ) → TellAlike net one other
      → mapped known (with_buses one net place node text d buses) ≡ mapped known (with_buses other net place node text' d buses)
  module_same one other net place node text text' d buses h =
      rw (h.fails (ModuleOf place), h.modules node.fmu d.identifier)
      (read_by one other net place node text text' d buses (other.held (module_name net node.fmu d.identifier)) (other.fails (ModuleOf place)))

  buses_same : (one other : Folder) (net : List ℕ) (place : ℕ) (node : Node) (text text' : List ℕ) (d : Description) (o : Option (List ℕ)) → TellAlike net one other
      → mapped known (needs (InNetworkFile (refusal NodeBus place)) o >>= with_buses one net place node text d) ≡ mapped known (needs (InNetworkFile (refusal NodeBus place)) o >>= with_buses other net place node text' d)
  buses_same one other net place node text text' d None h = refl
  buses_same one other net place node text text' d (Some buses) h = module_same one other net place node text text' d buses h

  description_same : (one other : Folder) (net : List ℕ) (place : ℕ) (node : Node) (text text' : List ℕ) (r : Result Description description_refusal) → TellAlike net one other
      → mapped known (refused_as (InDescription place) r >>= with_description one net place node text) ≡ mapped known (refused_as (InDescription place) r >>= with_description other net place node text')
  description_same one other net place node text text' (Err e) h = refl
  description_same one other net place node text text' (Ok d) h = buses_same one other net place node text text' d (attached_buses node.attachments d.terminals) h

  abbrev from_text : Folder → List ℕ → ℕ → Node → List ℕ → Result (NodeParts Code) (Stop Why)
  from_text folder net place node text = refused_as (InDescription place) (description_of text) >>= with_description folder net place node text

  text_by : (one other : Folder) (net : List ℕ) (place : ℕ) (node : Node) (text text' : List ℕ) (fails : Bool) → TellAlike net one other → description_of text ≡ description_of text'
      → mapped known ((if fails then Err (Unread (DescriptionOf place)) else Ok text) >>= from_text one net place node) ≡ mapped known ((if fails then Err (Unread (DescriptionOf place)) else Ok text') >>= from_text other net place node)
  text_by one other net place node text text' true h same = refl
  text_by one other net place node text text' false h same =
      rw same (description_same one other net place node text text' (description_of text') h)

  node_same : (one other : Folder) (net : List ℕ) (place : ℕ) (node : Node) → TellAlike net one other
      → mapped known (node_parts_at judge one net place node) ≡ mapped known (node_parts_at judge other net place node)
  unfolding node_parts_at
  node_same one other net place node h =
      rw (h.fails (DescriptionOf place))
      (text_by one other net place node (one.held (description_name net node.fmu)) (other.held (description_name net node.fmu)) (other.fails (DescriptionOf place)) h (h.descriptions node.fmu))

  known_more : (xs : List (NodeParts Code)) (x : NodeParts Code) → map known (xs ++ x ∷ []) ≡ map known xs ++ known x ∷ []
  known_more [] x = refl
  known_more (y ∷ ys) x = ap (λ ks. known y ∷ ks) (known_more ys x)

  as_many : (xs ys : List (NodeParts Code)) → map known xs ≡ map known ys → length xs ≡ length ys
  as_many xs ys h = sym (length-map xs known) ∙ (ap length h ∙ length-map ys known)

  nodes_same : (one other : Folder) (net : List ℕ) → TellAlike net one other → (ns : List Node) (xs ys : List (NodeParts Code)) → map known xs ≡ map known ys
      → mapped (map known) (each (node_parts_of judge one net) xs ns) ≡ mapped (map known) (each (node_parts_of judge other net) ys ns)
  nodes_same one other net h [] xs ys same = ap Ok same
  nodes_same one other net h (n ∷ ns) xs ys same =
      by_answers (node_parts_at judge one net (length xs) n) (node_parts_at judge other net (length ys) n)
      (node_same one other net (length xs) n h ∙ ap (λ k. mapped known (node_parts_at judge other net k n)) (as_many xs ys same))
      (λ x y more. nodes_same one other net h ns (xs ++ x ∷ []) (ys ++ y ∷ []) more)
    where
      by_answers : (r s : Result (NodeParts Code) (Stop Why)) → mapped known r ≡ mapped known s
          → ((x y : NodeParts Code) → map known (xs ++ x ∷ []) ≡ map known (ys ++ y ∷ [])
          → mapped (map known) (each (node_parts_of judge one net) (xs ++ x ∷ []) ns) ≡ mapped (map known) (each (node_parts_of judge other net) (ys ++ y ∷ []) ns))
          → mapped (map known) (r >>= λ x. each (node_parts_of judge one net) (xs ++ x ∷ []) ns) ≡ mapped (map known) (s >>= λ x. each (node_parts_of judge other net) (ys ++ x ∷ []) ns)
      by_answers (Ok x) (Ok y) k more =
          more x y (known_more xs x ∙ (ap (λ ks. ks ++ known x ∷ []) same ∙ (ap (λ p. map known ys ++ p ∷ []) (cc k) ∙ sym (known_more ys y))))
      by_answers (Ok x) (Err e) k more = absurd (cc k)
      by_answers (Err e) (Ok y) k more = absurd (cc k)
      by_answers (Err e) (Err f) k more = ap Err (cc k)

  plans_known : (xs : List (NodeParts Code)) → map node_plan_of xs ≡ map (λ (k : NodePlan × Code). k.0) (map known xs)
  plans_known [] = refl
  plans_known (x ∷ xs) = ap (λ ps. node_plan_of x ∷ ps) (plans_known xs)

  codes_known : (xs : List (NodeParts Code)) → map (λ (n : NodeParts Code). n.code) xs ≡ map (λ (k : NodePlan × Code). k.1) (map known xs)
  codes_known [] = refl
  codes_known (x ∷ xs) = ap (λ ps. x.code ∷ ps) (codes_known xs)

  parts_by : (file : NetworkFile) (text text' : List ℕ) (r s : Result (List (NodeParts Code)) (Stop Why)) → mapped (map known) r ≡ mapped (map known) s
      → without_digest (r >>= λ nodes. Ok (network_of_parts file text nodes)) ≡ without_digest (s >>= λ nodes. Ok (network_of_parts file text' nodes))
  parts_by file text text' (Ok xs) (Ok ys) k =
      let same : map known xs ≡ map known ys = cc k in
      let plans = plans_known xs ∙ (ap (map (λ (p : NodePlan × Code). p.0)) same ∙ sym (plans_known ys)) in
      let codes' = codes_known xs ∙ (ap (map (λ (p : NodePlan × Code). p.1)) same ∙ sym (codes_known ys)) in
      rw (plans, codes') refl
  parts_by file text text' (Ok xs) (Err e) k = absurd (cc k)
  parts_by file text text' (Err e) (Ok ys) k = absurd (cc k)
  parts_by file text text' (Err e) (Err f) k = ap Err (cc k)

  abbrev from_file : Folder → List ℕ → List ℕ → NetworkFile → Result (Network Code) (Stop Why)
  from_file folder net text file = each (node_parts_of judge folder net) [] file.nodes >>= λ nodes. Ok (network_of_parts file text nodes)

  file_by : (one other : Folder) (net text text' : List ℕ) (r : Result NetworkFile Refusal) → TellAlike net one other
      → without_digest (refused_as InNetworkFile r >>= from_file one net text) ≡ without_digest (refused_as InNetworkFile r >>= from_file other net text')
  file_by one other net text text' (Err e) h = refl
  file_by one other net text text' (Ok file) h =
      parts_by file text text' (each (node_parts_of judge one net) [] file.nodes) (each (node_parts_of judge other net) [] file.nodes) (nodes_same one other net h file.nodes [] [] refl)

  whole_by : (one other : Folder) (net text text' : List ℕ) (fails : Bool) → TellAlike net one other → network_file_of text ≡ network_file_of text'
      → without_digest ((if fails then Err (Unread Main) else Ok text) >>= λ t. refused_as InNetworkFile (network_file_of t) >>= from_file one net t)
      ≡ without_digest ((if fails then Err (Unread Main) else Ok text') >>= λ t. refused_as InNetworkFile (network_file_of t) >>= from_file other net t)
  whole_by one other net text text' true h same = refl
  whole_by one other net text text' false h same = rw same (file_by one other net text text' (network_file_of text') h)

  pub alike : (one other : Folder) (net : List ℕ) → TellAlike net one other → without_digest (network_of judge one net) ≡ without_digest (network_of judge other net)
  unfolding network_of
  alike one other net h =
      rw (h.fails Main) (whole_by one other net (one.held (network_file_name net)) (other.held (network_file_name net)) (other.fails Main) h h.network)
