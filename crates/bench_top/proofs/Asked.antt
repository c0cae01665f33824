-- A file of a network whose read stops its reading is one of those that are read.
use Rattle.std.proofs.Common.{◌≡◌, ◌≤◌, ◌<◌, ◌⊎◌, ℕ, zero, suc, ◌+◌, true, List, [], ◌∷◌, ◌++◌, Option, Some, None, slice_get, refl, sym, ap, ◌∙◌, subst, arith, inl, inr, eq-eqb}
use Rattle.std.specs.Prelude.{Result, Ok, Err, Contains, option_map, option_and_then}
use Rattle.std.specs.Result.{result_ok}
use Rattle.std.proofs.lemmas.Option.{slice_get_within}
use Rattle.std.proofs.lemmas.List.Elements.{Contains-append_left, Contains-append_right}
use Rattle.bench_outside.specs.Shelf.{Contents}
use Rattle.bench_outside.specs.declared.refusal.FileId.{FileId}
use Rattle.network_specs.specs.Nodes.{Node}
use Rattle.network_specs.specs.Settings.{Refusal}
use Rattle.network_specs.specs.NetworkFiles.{NetworkFile, network_file_of}
use Rattle.network_specs.specs.Networks.{File, Main, DescriptionOf, ModuleOf, Unread, is_same_file, network_file_name}
use Rattle.network_folder.specs.Outcomes.{description_at, file_id, lacking, module_at, name_in, network_in, node_in}
use Rattle.bench_top.specs.Running.{asked_at, asked_from, asked_of, nodes_of, stops_at}

same-file : (f : File) → is_same_file f f ≡ true
same-file Main = refl
same-file (DescriptionOf node) = eq-eqb node node refl
same-file (ModuleOf node) = eq-eqb node node refl

first : {X : Type 0} (x : X) (xs : List X) → Contains (x ∷ xs) x
first x xs = (0, omega arith, refl)

-- it stands in its own place
at-place : (held : Contents) (net : List ℕ) (f : File) (name : List ℕ) → network_in (lacking held f) net ≡ Err (Unread f)
    → name_in held net f ≡ Some name
    → Contains (asked_at held net f) (file_id f, name)
at-place held net f name stops is =
    let answer : stops_at f (network_in (lacking held f) net) ≡ true = ap (stops_at f) stops ∙ same-file f in
    let asked : asked_at held net f ≡ (file_id f, name) ∷ [] = rw (answer, is) refl in
    subst (λ xs. Contains xs (file_id f, name)) (sym asked) (first (file_id f, name) [])

same-or-later : (a b : ℕ) → a ≤ b → (b ≡ a) ⊎ (a + 1 ≤ b)
same-or-later zero zero le = inl refl
same-or-later zero (suc b) le = inr (omega arith)
same-or-later (suc a) zero le = absurd (omega (arith, le))
same-or-later (suc a) (suc b) le = elim (same-or-later a b (omega (arith, le))) [ inl e ↦ inl (ap suc e) | inr h ↦ inr (omega (arith, h)) ]

module _ (held : Contents) (net : List ℕ) (x : FileId × List ℕ) where
  -- it is asked for the description of the node at a place, or for its module
  abbrev IsOfNode : ℕ → Type 0
  IsOfNode place = Contains (asked_at held net (DescriptionOf place)) x ⊎ Contains (asked_at held net (ModuleOf place)) x

  of-first : (start left : ℕ) → IsOfNode start → Contains (asked_from held net start (suc left)) x
  of-first start left (inl h) = Contains-append_left (asked_at held net (DescriptionOf start) ++ asked_at held net (ModuleOf start)) _ x
      (Contains-append_left (asked_at held net (DescriptionOf start)) _ x h)
  of-first start left (inr h) = Contains-append_left (asked_at held net (DescriptionOf start) ++ asked_at held net (ModuleOf start)) _ x
      (Contains-append_right (asked_at held net (DescriptionOf start)) _ x h)

  of-later : (start left : ℕ) → Contains (asked_from held net (start + 1) left) x → Contains (asked_from held net start (suc left)) x
  of-later start left h = Contains-append_right (asked_at held net (DescriptionOf start) ++ asked_at held net (ModuleOf start)) _ x h

  in-nodes : (left start place : ℕ) → start ≤ place → place < start + left → IsOfNode place → Contains (asked_from held net start left) x
  in-nodes zero start place low high h = absurd (omega (arith, low, high))
  in-nodes (suc left) start place low high h = go (in-nodes left (start + 1) place) (same-or-later start place low)
    where
      go : (start + 1 ≤ place → place < start + 1 + left → IsOfNode place → Contains (asked_from held net (start + 1) left) x)
          → (place ≡ start) ⊎ (start + 1 ≤ place) → Contains (asked_from held net start (suc left)) x
      go later (inl e) = of-first start left (subst IsOfNode e h)
      go later (inr more) = of-later start left (later more (omega (arith, high)) h)

-- a node that is there is one of the file
within : (r : Result NetworkFile Refusal) (place : ℕ) (n : Node)
    → option_and_then (λ (f : NetworkFile). slice_get f.nodes place) (result_ok r) ≡ Some n → place < nodes_of r
within (Ok file) place n h = slice_get_within file.nodes place n h
within (Err e) place n h = absurd (let wrong : None ≡ Some n = h in cc)

there : {X Y : Type 0} (o : Option X) (f : X → Option Y) (y : Y) → option_and_then f o ≡ Some y → (x : X) × (o ≡ Some x)
there None f y h = absurd (let wrong : None ≡ Some y = h in cc)
there (Some x) f y h = (x, refl)

there-mapped : {X Y : Type 0} (o : Option X) (f : X → Y) (y : Y) → option_map f o ≡ Some y → (x : X) × (o ≡ Some x)
there-mapped None f y h = absurd (let wrong : None ≡ Some y = h in cc)
there-mapped (Some x) f y h = (x, refl)

pub is-asked : (held : Contents) (net : List ℕ) (f : File) (name : List ℕ) → network_in (lacking held f) net ≡ Err (Unread f)
    → name_in held net f ≡ Some name
    → Contains (asked_of held net) (file_id f, name)
is-asked held net Main name stops is = Contains-append_left _ _ _ (at-place held net Main name stops is)
is-asked held net (DescriptionOf place) name stops is =
    let node = there-mapped (node_in held net place) (description_at net) name is in
    let low = within (network_file_of (held (network_file_name net))) place node.0 node.1 in
    Contains-append_right (asked_at held net Main) _ _
    (in-nodes held net _ (nodes_of (network_file_of (held (network_file_name net)))) 0 place (omega arith) (omega (arith, low))
    (inl (at-place held net (DescriptionOf place) name stops is)))
is-asked held net (ModuleOf place) name stops is =
    let node = there (node_in held net place) (module_at held net) name is in
    let low = within (network_file_of (held (network_file_name net))) place node.0 node.1 in
    Contains-append_right (asked_at held net Main) _ _
    (in-nodes held net _ (nodes_of (network_file_of (held (network_file_name net)))) 0 place (omega arith) (omega (arith, low))
    (inr (at-place held net (ModuleOf place) name stops is)))
