-- The files of one node, and what they say of it.
use Rattle.std.proofs.Common.{◌≡◌, ℕ, ◌==◌, Bool, true, false, List, ◌++◌, append_assoc, refl, sym, ap, subst, ◌∙◌, arith}
use Rattle.std.specs.Prelude.{Option, Some, None, Result, Ok, Err}
use Rattle.std.specs.Result.{result_ok}
use Rattle.std.proofs.lemmas.Bool.Decides.{nat_tests}
use Rattle.sha2.specs.Hashers.{Holds256}
use Rattle.sha2.specs.declared.Sha256.{Sha256}
use Rattle.unit_specs.specs.Description.{Description}
use Rattle.description_specs.specs.Variables.{Refusal as description_refusal}
use Rattle.description_specs.specs.Descriptions.{description_of}
use Rattle.wasm_types.specs.declared.module.Module.{Module}
use Rattle.wasm_types.specs.Modules.{NestedModule}
use Rattle.wasm_types.specs.Back.{nested_module}
use Rattle.binding_specs.specs.declared.error.BindError.{BindError}
use Rattle.bench_outside.specs.Shelf.{Contents}
use Rattle.bench_outside.specs.declared.shelf.Shelf.{Ghosts as shelf_ghosts}
use Rattle.bench_outside.specs.declared.refusal.FileId.TheVariants as id
use Rattle.bench_outside.specs.declared.refusal.Why.TheVariants as why
use Rattle.refusal_names.specs.Modules.{refusal}
use Rattle.network_specs.specs.Nodes.{Node}
use Rattle.network_specs.specs.Plans.{attached_buses}
use Rattle.network_specs.specs.Judging.{ModuleRefusal, refused_as}
use Rattle.network_specs.specs.Networks.{File, Main, DescriptionOf, ModuleOf, InDescription, InModule, Unread, Folder, NodeParts, is_same_file, module_name, framed, node_parts_at}
use Rattle.network_folder.specs.declared.error.NetError.{NetError}
use Rattle.network_folder.specs.declared.error.NetError.TheVariants as answer
use Rattle.network_folder.specs.declared.units.NodeUnit.{NodeUnit}
use Rattle.network_folder.specs.Outcomes.{judged_unit, lacking, description_at, module_at, answer_of, outcome_of}
use Rattle.network_folder.specs.Parts.{SparesNode, IsRead, AreHeld, Adds, ReadsFile, ReadsNode, description_said, module_said}
use Rattle.network_folder.proofs.Shelves.{failed, reads_on, reads_as, reads_error}

abbrev pub folder : Contents → (File → Bool) → Folder
folder held fails = record { held = held; fails = fails }

-- ---- what isn't refused

pub said_ok : {E A : Type 0} (f : E → NetError) (r : Result A E) (x : A) → refused_as f r ≡ Ok x → r ≡ Ok x
said_ok f (Ok y) x h = let e : y ≡ x = cc h in ap (λ z. Ok z) e
said_ok f (Err e) x h = absurd (cc h)

-- the first refusal of two
said_err : {E A : Type 0} (f : E → NetError) (r : Result A E) (e : NetError) → refused_as f r ≡ Err e → (x : E) × (r ≡ Err x) × (f x ≡ e)
said_err f (Ok y) e h = absurd (cc h)
said_err f (Err x) e h = (x, refl, cc h)

-- ---- the node by what is known

pub node_read : (holds : Option Contents) (held : Contents) (fails : File → Bool) (net : List ℕ) (place : ℕ) (node : Node) (p : NodeParts NestedModule) → holds ≡ Some held → SparesNode place fails → IsRead holds net node p
    → node_parts_at judged_unit (folder held fails) net place node ≡ Ok p
unfolding node_parts_at
node_read holds held fails net place node p is spared r =
    rw (spared.0, sym (r.description_held held is), r.described, r.attached, spared.1, sym (r.code_held held is), r.judged) refl

pub description_refused : (held : Contents) (fails : File → Bool) (net : List ℕ) (place : ℕ) (node : Node) (e : NetError) → SparesNode place fails → description_said place (held (description_at net node)) ≡ Err e
    → outcome_of (node_parts_at judged_unit (folder held fails) net place node) ≡ Err e
unfolding node_parts_at
description_refused held fails net place node e spared h =
    let k = said_err (λ x. answer_of (InDescription place x)) (description_of (held (description_at net node))) e h in
    rw (spared.0, k.1) (ap (λ x. Err x) k.2)

pub terminals_refused : (held : Contents) (fails : File → Bool) (net : List ℕ) (place : ℕ) (node : Node) (d : Description) → SparesNode place fails → description_of (held (description_at net node)) ≡ Ok d
    → attached_buses node.attachments d.terminals ≡ None
    → outcome_of (node_parts_at judged_unit (folder held fails) net place node) ≡ Err (answer.Refused (refusal id.Main why.NodeBus place))
unfolding node_parts_at
terminals_refused held fails net place node d spared described attached = rw (spared.0, described, attached) refl

pub module_refused : (held : Contents) (fails : File → Bool) (net : List ℕ) (place : ℕ) (node : Node) (d : Description) (buses : List ℕ) (e : NetError) → SparesNode place fails → description_of (held (description_at net node)) ≡ Ok d
    → attached_buses node.attachments d.terminals ≡ Some buses → module_said place d (held (module_name net node.fmu d.identifier)) ≡ Err e
    → outcome_of (node_parts_at judged_unit (folder held fails) net place node) ≡ Err e
unfolding node_parts_at
module_refused held fails net place node d buses e spared described attached h =
    let k = said_err (λ x. answer_of (InModule place x)) (judged_unit d (held (module_name net node.fmu d.identifier))) e h in
    rw (spared.0, described, attached, spared.1, k.1) (ap (λ x. Err x) k.2)

itself : (n : ℕ) → (n == n) ≡ true
itself n = grind (arith, nat_tests)

pub description_unread : (held : Contents) (net : List ℕ) (place : ℕ) (node : Node) → node_parts_at judged_unit (lacking held (DescriptionOf place)) net place node ≡ Err (Unread (DescriptionOf place))
unfolding node_parts_at
description_unread held net place node = rw (itself place) refl

pub module_unread : (held : Contents) (net : List ℕ) (place : ℕ) (node : Node) (d : Description) (buses : List ℕ) → description_of (held (description_at net node)) ≡ Ok d → attached_buses node.attachments d.terminals ≡ Some buses
    → node_parts_at judged_unit (lacking held (ModuleOf place)) net place node ≡ Err (Unread (ModuleOf place))
unfolding node_parts_at
module_unread held net place node d buses described attached = rw (described, attached, itself place) refl

-- the name of the module's file
pub module_named : (held : Contents) (net : List ℕ) (node : Node) (d : Description) → description_of (held (description_at net node)) ≡ Ok d → module_at held net node ≡ Some (module_name net node.fmu d.identifier)
module_named held net node d described = rw described refl

-- ---- the node that a reader answers

-- what is added to a digest, one after the other
pub adds_on : (old mid new : Sha256) (a b : List ℕ) → Adds old mid a → Adds mid new b → Adds old new (a ++ b)
adds_on old mid new a b first next m h = subst (Holds256 new) (append_assoc m a b) (next (m ++ a) (first m h))

module _ {H : Type 0} (shelf : shelf_ghosts H) where
  -- the description is refused or unread
  pub no_description : (before now : H) (old new : Sha256) (net : List ℕ) (place : ℕ) (node : Node) (e : NetError)
      → ReadsFile shelf before now old new (id.Description place) (description_at net node) (λ d. d) (description_said place) (failed Description e) → ReadsNode shelf before now old new net place node (Err e)
  no_description before now old new net place node e h = record {
    reads = reads_error shelf before now e h.reads;
    found = tt;
    refused = λ r held is held_is fails spared. description_refused held fails net place node (answer.Refused r) spared (h.refused r held (again (answer.Refused r) is) held_is);
    unread = λ f held is held_is.
        let k = h.unread f (again (answer.Unread f) is) in
        (DescriptionOf place, k.0, refl, description_unread held net place node, ap (λ n. Some n) (sym k.1));
    elsewhere = λ is. let k = h.unread id.Main (again (answer.Unread id.Main) is) in absurd (cc k.0);
  }
    where
      again : (w : NetError) → failed NodeUnit e ≡ Err w → failed Description e ≡ Err w
      again w is = let same : e ≡ w = cc is in ap (λ x. Err x) same

  -- memory ran out behind the description
  pub no_room : (before now : H) (old new : Sha256) (net : List ℕ) (place : ℕ) (node : Node) (d : Description)
      → ReadsFile shelf before now old new (id.Description place) (description_at net node) (λ x. x) (description_said place) (Ok d) → ReadsNode shelf before now old new net place node (Err answer.Memory)
  no_room before now old new net place node d h = record {
    reads = reads_as shelf before now (Ok d) (Err answer.Memory) (λ f e. absurd (cc e)) (λ f e. absurd (cc e)) h.reads;
    found = tt;
    refused = λ r held is held_is fails spared. absurd (cc is);
    unread = λ f held is held_is. absurd (cc is);
    elsewhere = λ is. absurd (cc is);
  }

  described : (before now : H) (old new : Sha256) (net : List ℕ) (place : ℕ) (node : Node) (d : Description) (held : Contents)
      → ReadsFile shelf before now old new (id.Description place) (description_at net node) (λ x. x) (description_said place) (Ok d) → shelf.holds before ≡ Some held → description_of (held (description_at net node)) ≡ Ok d
  described before now old new net place node d held h is =
      ap description_of (sym (h.found.2 held is)) ∙ said_ok (λ e. answer_of (InDescription place e)) (description_of h.found.0) d h.found.1

  -- the keys aren't the terminals
  pub no_bus : (before now : H) (old new : Sha256) (net : List ℕ) (place : ℕ) (node : Node) (d : Description)
      → ReadsFile shelf before now old new (id.Description place) (description_at net node) (λ x. x) (description_said place) (Ok d) → attached_buses node.attachments d.terminals ≡ None
      → ReadsNode shelf before now old new net place node (Err (answer.Refused (refusal id.Main why.NodeBus place)))
  no_bus before now old new net place node d h none = record {
    reads = reads_as shelf before now (Ok d) (Err (answer.Refused (refusal id.Main why.NodeBus place))) (λ f e. absurd (cc e)) (λ f e. absurd (cc e)) h.reads;
    found = tt;
    refused = λ r held is held_is fails spared.
        let same : refusal id.Main why.NodeBus place ≡ r = cc is in
        terminals_refused held fails net place node d spared (described before now old new net place node d held h held_is) none ∙ ap (λ x. Err (answer.Refused x)) same;
    unread = λ f held is held_is. absurd (cc is);
    elsewhere = λ is. absurd (cc is);
  }

  -- the module is refused or unread
  pub no_code : (before mid now : H) (old half new : Sha256) (net : List ℕ) (place : ℕ) (node : Node) (d : Description) (buses : List ℕ) (e : NetError)
      → ReadsFile shelf before mid old half (id.Description place) (description_at net node) (λ x. x) (description_said place) (Ok d) → attached_buses node.attachments d.terminals ≡ Some buses
      → ReadsFile shelf mid now half new (id.Module place) (module_name net node.fmu d.identifier) nested_module (module_said place d) (failed Module e) → ReadsNode shelf before now old new net place node (Err e)
  no_code before mid now old half new net place node d buses e h some k = record {
    reads = reads_on shelf before mid now d (Err e) h.reads (reads_error shelf mid now e k.reads);
    found = tt;
    refused = λ r held is held_is fails spared.
        module_refused held fails net place node d buses (answer.Refused r) spared (described before mid old half net place node d held h held_is) some (k.refused r held (again (answer.Refused r) is) (h.reads.holds ∙ held_is));
    unread = λ f held is held_is.
        let u = k.unread f (again (answer.Unread f) is) in
        let known = described before mid old half net place node d held h held_is in
        (ModuleOf place, u.0, refl, module_unread held net place node d buses known some, module_named held net node d known ∙ ap (λ n. Some n) (sym u.1));
    elsewhere = λ is. let u = k.unread id.Main (again (answer.Unread id.Main) is) in absurd (cc u.0);
  }
    where
      again : (w : NetError) → failed NodeUnit e ≡ Err w → failed Module e ≡ Err w
      again w is = let same : e ≡ w = cc is in ap (λ x. Err x) same

  -- the node is there
  pub node_there : (before mid now : H) (old half new : Sha256) (net : List ℕ) (place : ℕ) (node : Node) (d : Description) (buses : List ℕ) (code : Module)
      → ReadsFile shelf before mid old half (id.Description place) (description_at net node) (λ x. x) (description_said place) (Ok d) → attached_buses node.attachments d.terminals ≡ Some buses
      → ReadsFile shelf mid now half new (id.Module place) (module_name net node.fmu d.identifier) nested_module (module_said place d) (Ok code)
      → ReadsNode shelf before now old new net place node (Ok (record { plan = record { description = d; buses = buses }; code = code }))
  node_there before mid now old half new net place node d buses code h some k = record {
    reads = reads_on shelf before mid now d (Ok unit) h.reads (reads_as shelf mid now (Ok code) (Ok unit) (λ f e. absurd (cc e)) (λ f e. absurd (cc e)) k.reads);
    found = (
      record { description = d; buses = buses; code = nested_module code; description_bytes = h.found.0; code_bytes = k.found.0 },
      refl,
      refl,
      record {
        described = said_ok (λ e. answer_of (InDescription place e)) (description_of h.found.0) d h.found.1;
        attached = some;
        judged = said_ok (λ e. answer_of (InModule place e)) (judged_unit d k.found.0) (nested_module code) k.found.1;
        description_held = h.found.2;
        code_held = λ held is. k.found.2 held (h.reads.holds ∙ is);
      },
      adds_on old half new (framed h.found.0) (framed k.found.0) h.found.3 k.found.3,
    );
    refused = λ r held is held_is fails spared. absurd (cc is);
    unread = λ f held is held_is. absurd (cc is);
    elsewhere = λ is. absurd (cc is);
  }
    where
      unit : NodeUnit
      unit = record { plan = record { description = d; buses = buses }; code = code }
