-- All nodes of a folder: each is read behind those before it.
use Rattle.std.proofs.Common.{◌≡◌, ℕ, zero, suc, ◌+◌, ◌<◌, ◌==◌, Bool, true, false, List, [], ◌∷◌, ◌++◌, length, length-append, take, drop, get_or, map, refl, sym, ap, subst, ◌∙◌, append-nil, append_assoc, arith}
use Rattle.std.specs.Prelude.{Option, Some, None, Result, Ok, Err, slice_get, flat_map}
use Rattle.std.proofs.lemmas.List.{drop_more, take-append-drop, take_all, length-map, map-append}
use Rattle.std.proofs.lemmas.Grind.{flat_map-append}
use Rattle.sha2.specs.Hashers.{Holds256}
use Rattle.sha2.specs.declared.Sha256.{Sha256}
use Rattle.wasm_types.specs.declared.module.Module.{Module}
use Rattle.wasm_types.specs.Back.{nested_module}
use Rattle.bench_outside.specs.declared.refusal.FileId.TheVariants as id
use Rattle.bench_outside.specs.declared.shelf.Shelf.{Ghosts as shelf_ghosts}
use Rattle.world_specs.specs.Plan.{NodePlan}
use Rattle.std.proofs.lemmas.Bool.Decides.{nat_tests}
use Rattle.wasm_types.specs.Modules.{NestedModule}
use Rattle.binding_specs.specs.declared.error.BindError.{BindError}
use Rattle.bench_outside.specs.Shelf.{Contents}
use Rattle.document_specs.specs.Checks.{◌>>=◌, each}
use Rattle.network_specs.specs.Nodes.{Node}
use Rattle.network_specs.specs.Judging.{ModuleRefusal, refused_as}
use Rattle.network_specs.specs.Networks.{File, Main, DescriptionOf, ModuleOf, Stop, Unread, Folder, NodeParts, is_same_file, node_plan_of, node_parts_at, node_parts_of}
use Rattle.network_folder.specs.declared.error.NetError.{NetError}
use Rattle.network_folder.specs.declared.error.NetError.TheVariants as answer
use Rattle.network_folder.specs.declared.units.NodeUnit.{NodeUnit}
use Rattle.network_folder.specs.declared.units.Units.{Units}
use Rattle.network_folder.specs.Outcomes.{judged_unit, whole, lacking, answer_of, outcome_of}
use Rattle.network_folder.specs.Parts.{SparesNode, IsFileOfNode, IsRead, AreRead, AreUnits, Adds, ReadsNode, ReadsNodes, name_in_node, name_among, framed_node}
use Rattle.network_folder.specs.Shelves.{Reads}
use Rattle.network_folder.proofs.Shelves.{failed, done, reads_on, reads_as, reads_error}
use Rattle.network_folder.proofs.OneNode.{folder, node_read, adds_on}

-- no read of a file of these nodes fails
abbrev pub SparesBelow : ℕ → (File → Bool) → Type 0
SparesBelow n fails = (i : ℕ) → i < n → SparesNode i fails

pub as_many : (holds : Option Contents) (net : List ℕ) (ns : List Node) (ps : List (NodeParts NestedModule)) → AreRead holds net ns ps → length ps ≡ length ns
as_many holds net [] [] r = refl
as_many holds net [] (p ∷ ps) r = absurd r
as_many holds net (n ∷ ns) [] r = absurd r
as_many holds net (n ∷ ns) (p ∷ ps) r = ap suc (as_many holds net ns ps r.1)

-- one more
pub one_more : (holds : Option Contents) (net : List ℕ) (ns : List Node) (ps : List (NodeParts NestedModule)) (n : Node) (p : NodeParts NestedModule) → AreRead holds net ns ps → IsRead holds net n p → AreRead holds net (ns ++ n ∷ []) (ps ++ p ∷ [])
one_more holds net [] [] n p r k = (k, tt)
one_more holds net [] (q ∷ ps) n p r k = absurd r
one_more holds net (m ∷ ns) [] n p r k = absurd r
one_more holds net (m ∷ ns) (q ∷ ps) n p r k = (r.0, one_more holds net ns ps n p r.1 k)

-- what was read stands before what is left
pub behind : (holds : Option Contents) (held : Contents) (fails : File → Bool) (net : List ℕ) (before : List (NodeParts NestedModule)) (ns rest : List Node) (ps : List (NodeParts NestedModule)) → holds ≡ Some held
    → SparesBelow (length before + length ns) fails → AreRead holds net ns ps
    → each (node_parts_of judged_unit (folder held fails) net) before (ns ++ rest) ≡ each (node_parts_of judged_unit (folder held fails) net) (before ++ ps) rest
behind holds held fails net before [] rest [] is spared r = ap (λ b. each (node_parts_of judged_unit (folder held fails) net) b rest) (sym (append-nil before))
behind holds held fails net before [] rest (p ∷ ps) is spared r = absurd r
behind holds held fails net before (n ∷ ns) rest [] is spared r = absurd r
behind holds held fails net before (n ∷ ns) rest (p ∷ ps) is spared r =
    let count = length-append before (p ∷ []) in
    let here = node_read holds held fails net (length before) n p is (spared (length before) (omega arith)) r.0 in
    let more = behind holds held fails net (before ++ p ∷ []) ns rest ps is (λ i h. spared i (omega (arith, h, count))) r.1 in
    ap (λ x. x >>= λ q. each (node_parts_of judged_unit (folder held fails) net) (before ++ q ∷ []) (ns ++ rest)) here
    ∙ (more ∙ ap (λ b. each (node_parts_of judged_unit (folder held fails) net) b rest) (append_assoc before (p ∷ []) ps))

none_below : (i : ℕ) → i < 0 → ⊥
none_below i h = omega (arith, h)

pub first_nodes : (nodes : List Node) (i : ℕ) (n : Node) → i < length nodes → n ≡ get_or nodes i n → take (i + 1) nodes ≡ take i nodes ++ n ∷ []
first_nodes [] i n below is = absurd (none_below i below)
first_nodes (m ∷ ms) zero n below is = let e : n ≡ m = is in ap (λ x. x ∷ []) (sym e)
first_nodes (m ∷ ms) (suc i) n below is =
    let count : suc (i + 1) ≡ suc i + 1 = omega arith in
    subst (λ k. take k (m ∷ ms) ≡ take (suc i) (m ∷ ms) ++ n ∷ []) count (ap (λ t. m ∷ t) (first_nodes ms i n (omega (arith, below)) is))

-- so far: the nodes before this one were read
pub from_here : (holds : Option Contents) (held : Contents) (fails : File → Bool) (net : List ℕ) (nodes : List Node) (i : ℕ) (ps : List (NodeParts NestedModule)) → holds ≡ Some held
    → SparesBelow (length (take i nodes)) fails → AreRead holds net (take i nodes) ps
    → each (node_parts_of judged_unit (folder held fails) net) [] nodes ≡ each (node_parts_of judged_unit (folder held fails) net) ps (drop i nodes)
from_here holds held fails net nodes i ps is spared r =
    ap (λ ns. each (node_parts_of judged_unit (folder held fails) net) [] ns) (sym (take-append-drop i nodes))
    ∙ behind holds held fails net [] (take i nodes) (drop i nodes) ps is (λ k h. spared k (omega (arith, h))) r

-- the next node, and those behind it
pub next_is : {E : Type 0} (read : List (NodeParts NestedModule) → Node → Result (NodeParts NestedModule) E) (before : List (NodeParts NestedModule)) (nodes : List Node) (i : ℕ) (n : Node) → i < length nodes → n ≡ get_or nodes i n
    → each read before (drop i nodes) ≡ (read before n >>= λ q. each read (before ++ q ∷ []) (drop (i + 1) nodes))
next_is read before nodes i n below is = ap (each read before) (drop_more nodes i n below ∙ ap (λ y. y ∷ drop (i + 1) nodes) (sym is))

outcome_stops : {A B : Type 0} (r : Result A (Stop (ModuleRefusal BindError))) (f : A → Result B (Stop (ModuleRefusal BindError))) (e : NetError) → outcome_of r ≡ Err e → outcome_of (r >>= f) ≡ Err e
outcome_stops (Ok x) f e h = absurd (cc h)
outcome_stops (Err s) f e h = let same : answer_of s ≡ e = cc h in ap (λ x. Err x) same

-- where a node is refused, all are
pub nodes_refused : (holds : Option Contents) (held : Contents) (net : List ℕ) (nodes : List Node) (i : ℕ) (n : Node) (ps : List (NodeParts NestedModule)) (e : NetError) → holds ≡ Some held → i < length nodes → n ≡ get_or nodes i n
    → AreRead holds net (take i nodes) ps → outcome_of (node_parts_at judged_unit (whole held) net (length ps) n) ≡ Err e
    → outcome_of (each (node_parts_of judged_unit (whole held) net) [] nodes) ≡ Err e
nodes_refused holds held net nodes i n ps e is below here r h =
    let fails = λ (file : File). false in
    ap outcome_of (from_here holds held fails net nodes i ps is (λ k _. (refl, refl)) r ∙ next_is (node_parts_of judged_unit (whole held) net) ps nodes i n below here)
    ∙ outcome_stops (node_parts_at judged_unit (whole held) net (length ps) n) _ e h

other : (j k i : ℕ) → j ≡ i → k < i → (j == k) ≡ false
other j k i same below = grind (arith, nat_tests)

-- that a read of a file of this node fails spares those before it
others_spared : (i : ℕ) (file : File) → IsFileOfNode i file → SparesBelow i (is_same_file file)
others_spared i Main h k below = absurd h
others_spared i (DescriptionOf j) h k below = (other j k i h below, refl)
others_spared i (ModuleOf j) h k below = (refl, other j k i h below)

-- where a file of a node can't be read, there it stops
pub nodes_unread : (holds : Option Contents) (held : Contents) (net : List ℕ) (nodes : List Node) (i : ℕ) (n : Node) (ps : List (NodeParts NestedModule)) (file : File) → holds ≡ Some held → i < length nodes → n ≡ get_or nodes i n
    → length ps ≡ i → AreRead holds net (take i nodes) ps → IsFileOfNode i file → node_parts_at judged_unit (lacking held file) net (length ps) n ≡ Err (Unread file)
    → each (node_parts_of judged_unit (lacking held file) net) [] nodes ≡ Err (Unread file)
nodes_unread holds held net nodes i n ps file is below here count r of h =
    let many : length (take i nodes) ≡ i = sym (as_many holds net (take i nodes) ps r) ∙ count in
    let spared = subst (λ k. SparesBelow k (is_same_file file)) (sym many) (others_spared i file of) in
    from_here holds held (is_same_file file) net nodes i ps is spared r
    ∙ (next_is (node_parts_of judged_unit (lacking held file) net) ps nodes i n below here
    ∙ ap (λ x. x >>= λ q. each (node_parts_of judged_unit (lacking held file) net) (ps ++ q ∷ []) (drop (i + 1) nodes)) h)

-- it isn't the network file
pub not_main : (i : ℕ) (file : File) → IsFileOfNode i file → is_same_file file Main ≡ false
not_main i Main h = absurd h
not_main i (DescriptionOf j) h = refl
not_main i (ModuleOf j) h = refl

there : (nodes : List Node) (i : ℕ) (n : Node) → i < length nodes → n ≡ get_or nodes i n → slice_get nodes i ≡ Some n
there [] i n below is = absurd (none_below i below)
there (m ∷ ms) zero n below is = let e : n ≡ m = is in ap (λ x. Some x) (sym e)
there (m ∷ ms) (suc i) n below is = there ms i n (omega (arith, below)) is

-- its name
pub named_among : (held : Contents) (net : List ℕ) (nodes : List Node) (i : ℕ) (n : Node) (file : File) → i < length nodes → n ≡ get_or nodes i n → IsFileOfNode i file → name_among held net nodes file ≡ name_in_node held net n file
named_among held net nodes i n Main below is of = absurd of
named_among held net nodes i n (DescriptionOf j) below is of = let e = ap (slice_get nodes) of ∙ there nodes i n below is in rw e refl
named_among held net nodes i n (ModuleOf j) below is of = let e = ap (slice_get nodes) of ∙ there nodes i n below is in rw e refl

-- ---- the nodes that a reader answers

module _ {H : Type 0} (shelf : shelf_ghosts H) where
  -- before the first
  pub none_yet : (before : H) (old : Sha256) (net : List ℕ) (nodes : List Node) → AreUnits (shelf.holds before) old old net (take 0 nodes) [] []
  none_yet before old net nodes = record {
    parts = [];
    are_plans = refl;
    are_codes = refl;
    read = none nodes;
    added = λ m h. subst (Holds256 old) (sym (append-nil m)) h;
  }
    where
      none : (ns : List Node) → AreRead (shelf.holds before) net (take 0 ns) []
      none [] = tt
      none (n ∷ ns) = tt

  -- one more
  pub one_more_unit : (before mid now : H) (first old new : Sha256) (net : List ℕ) (nodes : List Node) (i place : ℕ) (n : Node) (plans : List NodePlan) (codes : List Module) (u : NodeUnit)
      → shelf.holds mid ≡ shelf.holds before → i < length nodes → n ≡ get_or nodes i n
      → AreUnits (shelf.holds before) first old net (take i nodes) plans codes → ReadsNode shelf mid now old new net place n (Ok u)
      → AreUnits (shelf.holds before) first new net (take (i + 1) nodes) (plans ++ u.plan ∷ []) (codes ++ u.code ∷ [])
  one_more_unit before mid now first old new net nodes i place n plans codes u held below here so h =
      let p = h.found.0 in
      let read : IsRead (shelf.holds before) net n p = subst (λ o. IsRead o net n p) held h.found.3 in
      record {
        parts = so.parts ++ p ∷ [];
        are_plans = map-append node_plan_of so.parts (p ∷ []) ∙ (ap (λ xs. xs ++ node_plan_of p ∷ []) so.are_plans ∙ ap (λ x. plans ++ x ∷ []) h.found.1);
        are_codes = map-append code_of so.parts (p ∷ []) ∙ (ap (λ xs. xs ++ p.code ∷ []) so.are_codes ∙ (ap (λ x. map nested_module codes ++ x ∷ []) h.found.2 ∙ sym (map-append nested_module codes (u.code ∷ []))));
        read = subst (λ ns. AreRead (shelf.holds before) net ns (so.parts ++ p ∷ [])) (sym (first_nodes nodes i n below here)) (one_more (shelf.holds before) net (take i nodes) so.parts n p so.read read);
        added = subst (Adds first new) (sym (flat_map-append framed_node so.parts (p ∷ []) ∙ ap (λ x. flat_map framed_node so.parts ++ x) (append-nil (framed_node p)))) (adds_on first old new (flat_map framed_node so.parts) (framed_node p) so.added h.found.4);
      }
    where
      code_of : NodeParts NestedModule → NestedModule
      code_of q = q.code

  -- a node stops it
  pub node_stops : (before mid now : H) (first old new last : Sha256) (net : List ℕ) (nodes : List Node) (i place : ℕ) (n : Node) (plans : List NodePlan) (codes : List Module) (e : NetError)
      → Reads shelf before mid done → i < length nodes → n ≡ get_or nodes i n → length plans ≡ i → place ≡ i
      → AreUnits (shelf.holds before) first old net (take i nodes) plans codes → ReadsNode shelf mid now old new net place n (Err e)
      → ReadsNodes shelf before now first last net nodes (Err e)
  node_stops before mid now first old new last net nodes i place n plans codes e reads below here count at so h =
      let many : length so.parts ≡ i = sym (length-map so.parts node_plan_of) ∙ (ap length so.are_plans ∙ count) in
      let same : place ≡ length so.parts = at ∙ sym many in
      record {
        reads = reads_on shelf before mid now tt (Err e) reads (reads_error shelf mid now e h.reads);
        found = tt;
        refused = λ r held is held_is.
            let k = h.refused r held (again (answer.Refused r) is) (reads.holds ∙ held_is) (λ f. false) (refl, refl) in
            nodes_refused (shelf.holds before) held net nodes i n so.parts (answer.Refused r) held_is below here so.read
            (subst (λ p. outcome_of (node_parts_at judged_unit (whole held) net p n) ≡ Err (answer.Refused r)) same k);
        unread = λ f held is held_is.
            let k = h.unread f held (again (answer.Unread f) is) (reads.holds ∙ held_is) in
            let of : IsFileOfNode i k.0 = subst (λ p. IsFileOfNode p k.0) at k.2 in (
              k.0,
              k.1,
              not_main i k.0 of,
              nodes_unread (shelf.holds before) held net nodes i n so.parts k.0 held_is below here many so.read of (subst (λ p. node_parts_at judged_unit (lacking held k.0) net p n ≡ Err (Unread k.0)) same k.3),
              named_among held net nodes i n k.0 below here of ∙ k.4,
            );
        elsewhere = λ is. h.elsewhere (again (answer.Unread id.Main) is);
      }
    where
      again : (w : NetError) → failed Units e ≡ Err w → failed NodeUnit e ≡ Err w
      again w is = let same : e ≡ w = cc is in ap (λ x. Err x) same

  -- all are there
  pub nodes_there : (before now : H) (first new : Sha256) (net : List ℕ) (nodes : List Node) (i : ℕ) (units : Units) → i ≡ length nodes
      → Reads shelf before now done → AreUnits (shelf.holds before) first new net (take i nodes) units.plans.items units.codes.items → ReadsNodes shelf before now first new net nodes (Ok units)
  nodes_there before now first new net nodes i units end reads so = record {
    reads = reads_as shelf before now done (Ok units) (λ f e. absurd (cc e)) (λ f e. absurd (cc e)) reads;
    found = subst (λ ns. AreUnits (shelf.holds before) first new net ns units.plans.items units.codes.items) (ap (λ k. take k nodes) end ∙ take_all (length nodes) nodes (omega arith)) so;
    refused = λ r held is held_is. absurd (cc is);
    unread = λ f held is held_is. absurd (cc is);
    elsewhere = λ is. absurd (cc is);
  }

  -- memory ran out between two nodes
  pub nodes_no_room : (before now : H) (first new : Sha256) (net : List ℕ) (nodes : List Node) → Reads shelf before now done → ReadsNodes shelf before now first new net nodes (Err answer.Memory)
  nodes_no_room before now first new net nodes reads = record {
    reads = reads_as shelf before now done (Err answer.Memory) (λ f e. absurd (cc e)) (λ f e. absurd (cc e)) reads;
    found = tt;
    refused = λ r held is held_is. absurd (cc is);
    unread = λ f held is held_is. absurd (cc is);
    elsewhere = λ is. absurd (cc is);
  }

  pub one_more_pushed : (before mid now : H) (first old new : Sha256) (net : List ℕ) (nodes : List Node) (i place : ℕ) (n : Node) (plans now_plans : List NodePlan) (codes now_codes : List Module) (u : NodeUnit)
      → shelf.holds mid ≡ shelf.holds before → i < length nodes → n ≡ get_or nodes i n
      → AreUnits (shelf.holds before) first old net (take i nodes) plans codes → ReadsNode shelf mid now old new net place n (Ok u) → now_plans ≡ plans ++ u.plan ∷ [] → now_codes ≡ codes ++ u.code ∷ []
      → AreUnits (shelf.holds before) first new net (take (i + 1) nodes) now_plans now_codes
  one_more_pushed before mid now first old new net nodes i place n plans now_plans codes now_codes u held below here so h p c =
      subst (λ ps. AreUnits (shelf.holds before) first new net (take (i + 1) nodes) ps now_codes) (sym p)
      (subst (λ cs. AreUnits (shelf.holds before) first new net (take (i + 1) nodes) (plans ++ u.plan ∷ []) cs) (sym c) (one_more_unit before mid now first old new net nodes i place n plans codes u held below here so h))

-- all of them
pub all_read : (holds : Option Contents) (held : Contents) (net : List ℕ) (nodes : List Node) (ps : List (NodeParts NestedModule)) → holds ≡ Some held → AreRead holds net nodes ps
    → each (node_parts_of judged_unit (whole held) net) [] nodes ≡ Ok ps
all_read holds held net nodes ps is r =
    ap (each (node_parts_of judged_unit (whole held) net) []) (sym (append-nil nodes)) ∙ behind holds held (λ f. false) net [] nodes [] ps is (λ k h. (refl, refl)) r
