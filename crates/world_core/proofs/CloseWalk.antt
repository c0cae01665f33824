-- The closes of the nodes, one after the other.
use Rattle.std.proofs.Common.{◌≡◌, ◌≤◌, ◌<◌, ◌+◌, ◌*◌, ℕ, Bool, true, false, List, [], ◌∷◌, ◌++◌, All, drop, flat_map, length, map, replicate, take, Option, Some, None, slice_get, slice_set, arith, refl, sym, ap, ◌∙◌, subst, append_assoc}
use Rattle.std.proofs.lemmas.Bool.{both_ways}
use Rattle.std.proofs.lemmas.List.{append-nil, length-map, length-replicate}
use Rattle.fmi_states.specs.declared.ecu.Ecu.{Ghosts}
use Rattle.log_specs.specs.Line.{Line}
use Rattle.session_specs.specs.Outcome.{End}
use Rattle.session_specs.specs.Outcome as session
use Rattle.session_specs.specs.Session as unit
use Rattle.world_specs.specs.Network.{close_lines, close_of, failure_lines, lines_of_close, node_closed, standing_by, standing_closed}
use Rattle.world_specs.specs.Plan.{IsNodePlan, NodePlan, units_of}
use Rattle.world_specs.specs.Units.{Units}
use Rattle.world_specs.specs.World.{Node}
use Rattle.world_specs.specs.World as model
use Rattle.world_laws.proofs.Lists.{all-more}
use Rattle.world_core.specs.Clocks.{settled}
use Rattle.world_core.specs.Closing.{ClosedSoFar, IsClosing, IsShut, Shuts, is_live, lines_of_end}
use Rattle.world_core.specs.Closing as code
use Rattle.world_core.specs.Courses.{Course, network_of, nodes_from, standing_of}
use Rattle.world_core.specs.Held.{IsHeld}
use Rattle.world_core.specs.Left.{state_behind, units_closed}
use Rattle.world_core.specs.Units.{states_of}
use Rattle.world_core.specs.declared.standing.Standing.{Standing}
use Rattle.world_core.specs.declared.standing.Standing.TheVariants.{New, Live, Down, Over}
use Rattle.world_core.proofs.Holding.{entries-before, entries-beyond}
use Rattle.world_core.proofs.Inputs.{at-place}
use Rattle.world_core.proofs.Moved.{state-at}
use Rattle.world_core.proofs.NodeWalk.{drop-at, drop-set, drop-whole, set-same, take-set, take-whole}
use Rattle.world_core.proofs.Placing.{node-at, node-set, node_of}
use Rattle.world_core.proofs.Seating.{same-at}
use Rattle.world_core.proofs.SessionEvents.{few-nodes}
use Rattle.world_core.proofs.Shutting.{entry-room, few-clocks}

-- ---- one node more

abbrev closing_lines : {S : Type 0} → Units S → ℕ → List (Node S) → List Line
closing_lines u now ns = flat_map (λ n. lines_of_close now n.number (close_of u n)) ns

module _ {S : Type 0} (u : Units S) (now k : ℕ) (old ns ns' : List (Node S)) (units ss ss' : List S) (x : Node S) (s : S)
    (node : slice_get ns k ≡ Some x) (state : slice_get ss k ≡ Some s)
    (ns-set : ns' ≡ slice_set ns k (node_closed u x)) (ss-set : ss' ≡ slice_set ss k (state_behind s (close_of u x))) where
  pub closed-one : (ls ls' : List Line) → ls' ≡ ls ++ lines_of_close now x.number (close_of u x) → ClosedSoFar u now k old ns units ss ls → ClosedSoFar u now (k + 1) old ns' units ss' ls'
  closed-one ls ls' h w =
      let rest : drop (k + 1) ns' ≡ drop (k + 1) ns = ap (drop (k + 1)) ns-set ∙ drop-set ns k (node_closed u x) in
      let left : drop (k + 1) ss' ≡ drop (k + 1) ss = ap (drop (k + 1)) ss-set ∙ drop-set ss k (state_behind s (close_of u x)) in
      record {
        nodes = ap (λ l. take (k + 1) l ++ map (node_closed u) (drop (k + 1) ns')) ns-set
            ∙ ap (λ l. take (k + 1) (slice_set ns k (node_closed u x)) ++ map (node_closed u) l) rest
            ∙ take-set ns k x (node_closed u x) (map (node_closed u) (drop (k + 1) ns)) node
            ∙ ap (λ l. take k ns ++ map (node_closed u) l) (sym (drop-at ns k x node))
            ∙ w.nodes;
        states = ap (λ l. take (k + 1) l ++ units_closed u (drop (k + 1) ns') (drop (k + 1) ss')) ss-set
            ∙ ap (λ l. take (k + 1) (slice_set ss k (state_behind s (close_of u x))) ++ units_closed u l (drop (k + 1) ss')) rest
            ∙ ap (λ l. take (k + 1) (slice_set ss k (state_behind s (close_of u x))) ++ units_closed u (drop (k + 1) ns) l) left
            ∙ take-set ss k s (state_behind s (close_of u x)) (units_closed u (drop (k + 1) ns) (drop (k + 1) ss)) state
            ∙ ap (λ l. take k ss ++ units_closed u l (s ∷ drop (k + 1) ss)) (sym (drop-at ns k x node))
            ∙ ap (λ l. take k ss ++ units_closed u (drop k ns) l) (sym (drop-at ss k s state))
            ∙ w.states;
        lines = ap (λ l. ls' ++ closing_lines u now l) rest
            ∙ ap (λ l. l ++ closing_lines u now (drop (k + 1) ns)) h
            ∙ append_assoc ls (lines_of_close now x.number (close_of u x)) (closing_lines u now (drop (k + 1) ns))
            ∙ ap (λ l. ls ++ closing_lines u now l) (sym (drop-at ns k x node))
            ∙ w.lines;
      }

-- ---- a close or none

module _ {S : Type 0} (u : Units S) (k : ℕ) (n : NodePlan) (s : S) (cs : List (Option ℕ)) where
  none-closed : (t : Standing) → is_live t ≡ false → close_of u (node_of k n t s cs) ≡ None
  none-closed New l = refl
  none-closed (Live last) l = absurd (both_ways true l refl)
  none-closed Down l = refl
  none-closed Over l = refl

  one-close : (t : Standing) → is_live t ≡ true → close_of u (node_of k n t s cs) ≡ Some (u.close k s)
  one-close New l = absurd (both_ways false refl l)
  one-close (Live last) l = refl
  one-close Down l = absurd (both_ways false refl l)
  one-close Over l = absurd (both_ways false refl l)

shut-standing : {S : Type 0} (e : End) (s : S) (cs : List (Option ℕ)) → standing_of (code.standing_closed e) s cs ≡ standing_by e
shut-standing session.Live s cs = refl
shut-standing session.Over s cs = refl
shut-standing (session.Down why) s cs = refl

module _ {E G S : Type 0} (g : Ghosts E G S) (k : ℕ) (old after : Course) (ts : List Standing) (cs : List (Option ℕ)) (before es es' : List E) (first shared shared' : G) (ls ls' : List Line)
    (inside : k < length old.plan.nodes) (w : IsClosing g k old (record old { standings = ts; clocks = cs }) before es first shared ls) (n : NodePlan) (t : Standing) (s : S)
    (plan : slice_get old.plan.nodes k ≡ Some n) (standing : slice_get ts k ≡ Some t) (state : slice_get (states_of g es shared) k ≡ Some s)
    (held : IsHeld g after es' shared') (parts : map g.parts es' ≡ map g.parts es) where
  node-there : slice_get (nodes_from 0 old.plan.nodes ts (states_of g es shared) cs) k ≡ Some (node_of k n t s (drop (k * 8) cs))
  node-there =
      let z : 0 + k ≡ k = omega arith in
      node-at 0 k old.plan.nodes ts (states_of g es shared) cs n t s plan standing state ∙ ap (λ i. Some (node_of i n t s (drop (k * 8) cs))) z

  none-more : is_live t ≡ false → after ≡ record old { standings = ts; clocks = cs } → states_of g es' shared' ≡ states_of g es shared → ls' ≡ ls ++ []
      → IsClosing g (k + 1) old after before es' first shared' ls'
  none-more l a m x =
      let X : Node S = node_of k n t s (drop (k * 8) cs) in
      let ns : List (Node S) = nodes_from 0 old.plan.nodes ts (states_of g es shared) cs in
      let none : close_of (units_of g.answer g.phase_of old.plan) X ≡ None = none-closed (units_of g.answer g.phase_of old.plan) k n s (drop (k * 8) cs) t l in
      record {
        held = held;
        stays = a ∙ ap (λ (c : Course). record old { standings = c.standings; clocks = c.clocks }) (sym a);
        parts = parts ∙ w.parts;
        so_far = closed-one (units_of g.answer g.phase_of old.plan) old.now k (network_of old (states_of g before first)).nodes ns (network_of after (states_of g es' shared')).nodes
            (states_of g before first) (states_of g es shared) (states_of g es' shared') X s node-there state
            (ap (λ (c : Course). (network_of c (states_of g es' shared')).nodes) a ∙ ap (λ ss. nodes_from 0 old.plan.nodes ts ss cs) m ∙ sym (set-same ns k X node-there)
            ∙ ap (λ o. slice_set ns k (record X { standing = standing_closed X.standing o })) (sym none))
            (m ∙ sym (set-same (states_of g es shared) k s state) ∙ ap (λ o. slice_set (states_of g es shared) k (state_behind s o)) (sym none))
            ls ls'
            (x ∙ ap (λ o. ls ++ lines_of_close old.now k o) (sym none))
            w.so_far;
      }

  one-more : (end : End) → is_live t ≡ true → IsShut g k n end (record old { standings = ts; clocks = cs }) after (states_of g es shared) (states_of g es' shared') → ls' ≡ ls ++ failure_lines old.now k end
      → IsClosing g (k + 1) old after before es' first shared' ls'
  one-more end l h x =
      let C : Course = record old { standings = ts; clocks = cs } in
      let ss : List S = states_of g es shared in
      let ns : List (Node S) = nodes_from 0 old.plan.nodes ts ss cs in
      let count : ℕ = length n.description.countdown in
      let X : Node S = node_of k n t s (drop (k * 8) cs) in
      let same : (h.closed).state ≡ s = same-at ss k (h.closed).state s (h.closed).here state in
      let r : End × S = unit.close_of g.answer s in
      let came : r.0 ≡ end = ap (λ v. (unit.close_of g.answer v).0) (sym same) ∙ (h.closed).came in
      let behind : states_of g es' shared' ≡ slice_set ss k r.1 = (h.closed).behind ∙ ap (λ v. slice_set ss k (unit.close_of g.answer v).1) same in
      let its : close_of (units_of g.answer g.phase_of old.plan) X ≡ Some r = one-close (units_of g.answer g.phase_of old.plan) k n s (drop (k * 8) cs) t l in
      let cs' : List (Option ℕ) = settled 0 (k * 8) (replicate count session.Clear) cs in
      let t' : Standing = code.standing_closed end in
      let few-all : All (λ (m : NodePlan). length m.description.countdown ≤ 8) old.plan.nodes =
      all-more (IsNodePlan (length old.plan.buses)) (λ (m : NodePlan). length m.description.countdown ≤ 8) old.plan.nodes (λ m a q. (q.description).few_clocks) (w.held).plan.nodes in
      let few : count ≤ 8 = few-clocks g C es shared k n t w.held plan standing in
      let room : k * 8 + 8 ≤ length cs = entry-room g C es shared k n t w.held plan standing in
      let each : length (replicate count session.Clear) ≡ count = length-replicate count session.Clear in
      let z : 0 + k ≡ k = omega arith in
      let moved : (network_of after (states_of g es' shared')).nodes ≡ slice_set ns k (node_closed (units_of g.answer g.phase_of old.plan) X) =
      ap (λ (c : Course). (network_of c (states_of g es' shared')).nodes) h.course
      ∙ ap (λ l. nodes_from 0 old.plan.nodes (slice_set ts k t') l cs') behind
      ∙ node-set 0 k old.plan.nodes ts ss cs cs' n t s t' r.1 plan standing state few-all
      (entries-before 0 (k * 8) count (replicate count session.Clear) cs room few each session.Over) (entries-beyond 0 (k * 8) count (replicate count session.Clear) cs room few each session.Over)
      ∙ ap (λ i. slice_set ns k (node_of i n t' r.1 (drop (k * 8) cs'))) z
      ∙ ap (λ (v : model.Standing S). slice_set ns k (record { number = k; buses = n.buses; standing = v })) (shut-standing end r.1 (take count (drop (k * 8) cs')) ∙ ap standing_by (sym came))
      ∙ ap (λ o. slice_set ns k (record X { standing = standing_closed X.standing o })) (sym its) in
      record {
        held = held;
        stays = h.course ∙ ap (λ (c : Course). record old { standings = c.standings; clocks = c.clocks }) (sym h.course);
        parts = parts ∙ w.parts;
        so_far = closed-one (units_of g.answer g.phase_of old.plan) old.now k (network_of old (states_of g before first)).nodes ns (network_of after (states_of g es' shared')).nodes
            (states_of g before first) ss (states_of g es' shared') X s node-there state moved
            (behind ∙ ap (λ o. slice_set ss k (state_behind s o)) (sym its))
            ls ls'
            (x ∙ ap (λ e. ls ++ failure_lines old.now k e) (sym came) ∙ ap (λ o. ls ++ lines_of_close old.now k o) (sym its))
            w.so_far;
      }

  pub by-end : (q : Bool) (o : Option End) → is_live t ≡ q → Shuts g k n q o (record old { standings = ts; clocks = cs }) after (states_of g es shared) (states_of g es' shared') → ls' ≡ ls ++ lines_of_end old.now k o
      → IsClosing g (k + 1) old after before es' first shared' ls'
  by-end false None l h x = none-more l h.0 h.1 x
  by-end true (Some end) l h x = one-more end l h x
  by-end false (Some end) l h x = absurd h
  by-end true None l h x = absurd h

module _ {E G S : Type 0} (g : Ghosts E G S) (k : ℕ) (old after : Course) (before es es' : List E) (first shared shared' : G) (ls ls' : List Line) (end : Option End)
    (inside : k < length old.plan.nodes) (held : IsHeld g after es' shared') (parts : map g.parts es' ≡ map g.parts es) (more : ls' ≡ ls ++ lines_of_end old.now k end) where
  abbrev Shut-at : Course → Type 0
  Shut-at c = (n : NodePlan) (t : Standing) → slice_get c.plan.nodes k ≡ Some n → slice_get c.standings k ≡ Some t → Shuts g k n (is_live t) end c after (states_of g es shared) (states_of g es' shared')

  from-old : (ts : List Standing) (cs : List (Option ℕ)) → IsClosing g k old (record old { standings = ts; clocks = cs }) before es first shared ls → Shut-at (record old { standings = ts; clocks = cs })
      → IsClosing g (k + 1) old after before es' first shared' ls'
  from-old ts cs w shuts =
      let a = at-place old.plan.nodes k inside in
      let many : length ts ≡ length old.plan.nodes = (w.held).arranged.standings in
      let b = at-place ts k (omega (arith, inside, many)) in
      let units : length es ≡ length old.plan.nodes = (w.held).each in
      let e = at-place es k (omega (arith, inside, units)) in
      by-end g k old after ts cs before es es' first shared shared' ls ls' inside w a.item b.item (g.state e.item shared) a.here b.here (state-at g es shared k e.item e.here) held parts
      (is_live b.item) end refl (shuts a.item b.item a.here b.here) more

  pub close-on : (c : Course) → IsClosing g k old c before es first shared ls → Shut-at c → IsClosing g (k + 1) old after before es' first shared' ls'
  close-on c w shuts =
      subst (λ (c : Course). IsClosing g k old c before es first shared ls → Shut-at c → IsClosing g (k + 1) old after before es' first shared' ls') (sym w.stays)
      (from-old c.standings c.clocks) w shuts

-- ---- the begin and the end of the walk

pub close-begins : {E G S : Type 0} (g : Ghosts E G S) (old : Course) (before : List E) (first : G) (ls : List Line) → IsHeld g old before first → ls ≡ [] → IsClosing g 0 old old before before first first ls
close-begins g old before first ls held none = record {
  held = held;
  stays = refl;
  parts = refl;
  so_far = record {
    nodes = refl;
    states = refl;
    lines = ap (λ l. l ++ closing_lines (units_of g.answer g.phase_of old.plan) old.now (network_of old (states_of g before first)).nodes) none;
  };
}

module _ {E G S : Type 0} (g : Ghosts E G S) (k : ℕ) (old c : Course) (before es : List E) (first shared : G) (ls : List Line)
    (w : IsClosing g k old c before es first shared ls) (all : length old.plan.nodes ≤ k) where
  nodes-in : length (network_of c (states_of g es shared)).nodes ≤ k
  nodes-in =
      let l = few-nodes 0 c.plan.nodes c.standings (states_of g es shared) c.clocks in
      let same : length c.plan.nodes ≡ length old.plan.nodes = ap (λ (x : Course). length x.plan.nodes) w.stays in
      omega (arith, l, same, all)

  states-in : length (states_of g es shared) ≤ k
  states-in =
      let same : length c.plan.nodes ≡ length old.plan.nodes = ap (λ (x : Course). length x.plan.nodes) w.stays in
      let many : length es ≡ length c.plan.nodes = (w.held).each in
      let mapped : length (states_of g es shared) ≡ length es = length-map es (λ e. g.state e shared) in
      omega (arith, mapped, many, same, all)

  pub closed-nodes : (network_of c (states_of g es shared)).nodes ≡ map (node_closed (units_of g.answer g.phase_of old.plan)) (network_of old (states_of g before first)).nodes
  closed-nodes =
      let ns : List (Node S) = (network_of c (states_of g es shared)).nodes in
      let l = nodes-in in
      sym (append-nil ns) ∙ ap (λ ys. ys ++ []) (sym (take-whole ns k l))
      ∙ ap (λ ys. take k ns ++ map (node_closed (units_of g.answer g.phase_of old.plan)) ys) (sym (drop-whole ns k l)) ∙ (w.so_far).nodes

  pub closed-states : states_of g es shared ≡ units_closed (units_of g.answer g.phase_of old.plan) (network_of old (states_of g before first)).nodes (states_of g before first)
  closed-states =
      let ns : List (Node S) = (network_of c (states_of g es shared)).nodes in
      let ss : List S = states_of g es shared in
      let l = nodes-in in
      let m = states-in in
      sym (append-nil ss) ∙ ap (λ ys. ys ++ []) (sym (take-whole ss k m))
      ∙ ap (λ ys. take k ss ++ units_closed (units_of g.answer g.phase_of old.plan) ys (drop k ss)) (sym (drop-whole ns k l)) ∙ (w.so_far).states

  pub closed-lines : ls ≡ close_lines (units_of g.answer g.phase_of old.plan) (network_of old (states_of g before first))
  closed-lines =
      let ns : List (Node S) = (network_of c (states_of g es shared)).nodes in
      let l = nodes-in in
      sym (append-nil ls) ∙ ap (λ ys. ls ++ closing_lines (units_of g.answer g.phase_of old.plan) old.now ys) (sym (drop-whole ns k l)) ∙ (w.so_far).lines
