-- The nodes' sessions, one after the other.
use Rattle.std.proofs.Common.{◌≡◌, ◌≤◌, ◌<◌, ◌+◌, ◌*◌, ℕ, zero, suc, List, [], ◌∷◌, ◌++◌, All, drop, length, map, take, Option, Some, None, option_map, slice_get, slice_set, arith, refl, sym, ap, ◌∙◌, subst, append_assoc}
use Rattle.std.specs.List.{cons_option}
use Rattle.std.proofs.lemmas.List.{append-nil, length-map, map-append}
use Rattle.std.proofs.lemmas.List.Elements.{All-cons, All-head, All-nil, All-tail}
use Rattle.fmi_states.specs.declared.ecu.Ecu.{Ghosts}
use Rattle.bus_specs.specs.Bus.{Bus}
use Rattle.session_specs.specs.Outcome.{SessionOut}
use Rattle.session_specs.specs.Session as session
use Rattle.world_specs.specs.Units.{Units}
use Rattle.world_specs.specs.World.{Node}
use Rattle.world_specs.specs.Plan.{NodePlan, IsNodePlan, units_of}
use Rattle.world_specs.specs.Sessions.{is_new, node_after, node_behind, session_of, standing_after, turn_of, turns}
use Rattle.world_specs.specs.Sessions as model
use Rattle.world_specs.specs.World as model_world
use Rattle.world_core.specs.Bare.{bare}
use Rattle.world_core.specs.Called.{call_of}
use Rattle.world_core.specs.Courses.{Course, network_of, nodes_from, standing_of}
use Rattle.world_core.specs.Held.{IsHeld, LastsAreBy}
use Rattle.world_core.specs.Left.{state_behind, units_after}
use Rattle.world_core.specs.SeenTurns.{names_of, seen}
use Rattle.world_core.specs.Settled.{entries_behind, standing_behind}
use Rattle.world_core.specs.Sits.{Seated, Sits}
use Rattle.world_core.specs.Units.{states_of}
use Rattle.world_core.specs.Walked.{IsWalking, Walked, bare_of}
use Rattle.world_core.specs.declared.sessions.Call.{Call}
use Rattle.world_core.specs.declared.standing.Standing.{Standing}
use Rattle.world_core.specs.declared.turns.Turn.{Turn}
use Rattle.world_core.proofs.NodeSteps.{its-session, names-of, newness, no-session}
use Rattle.world_core.proofs.Holding.{entries-before, entries-beyond, standing-is}
use Rattle.world_core.proofs.Inputs.{at-place}
use Rattle.world_core.proofs.Moved.{state-at}
use Rattle.world_core.proofs.Numbered.{all-at}
use Rattle.world_core.proofs.Placing.{node-at, node-set, node_of, unset-at}
use Rattle.world_core.proofs.Seating.{dues-each, has-clocks, same-at}
use Rattle.world_laws.proofs.Lists.{all-more}

-- ---- lists, place by place

module _ {X : Type 0} where
  drop-suc : (xs : List X) (k : ℕ) (x : X) → slice_get xs k ≡ Some x → drop k xs ≡ x ∷ drop (suc k) xs
  drop-suc [] k x g = absurd cc
  drop-suc (y ∷ ys) zero x g = let e : y ≡ x = cc in ap (λ z. z ∷ ys) e
  drop-suc (y ∷ ys) (suc k) x g = drop-suc ys k x g

  set-suc : (xs : List X) (k : ℕ) (y : X) → drop (suc k) (slice_set xs k y) ≡ drop (suc k) xs
  set-suc [] k y = refl
  set-suc (x ∷ xs) zero y = refl
  set-suc (x ∷ xs) (suc k) y = set-suc xs k y

  take-suc : (xs : List X) (k : ℕ) (x y : X) (zs : List X) → slice_get xs k ≡ Some x → take (suc k) (slice_set xs k y) ++ zs ≡ take k xs ++ y ∷ zs
  take-suc [] k x y zs g = absurd cc
  take-suc (w ∷ xs) zero x y zs g = refl
  take-suc (w ∷ xs) (suc k) x y zs g = ap (λ l. w ∷ l) (take-suc xs k x y zs g)

  pub drop-at : (xs : List X) (k : ℕ) (x : X) → slice_get xs k ≡ Some x → drop k xs ≡ x ∷ drop (k + 1) xs
  drop-at xs k x g = let z : k + 1 ≡ suc k = omega arith in drop-suc xs k x g ∙ ap (λ j. x ∷ drop j xs) (sym z)

  pub drop-set : (xs : List X) (k : ℕ) (y : X) → drop (k + 1) (slice_set xs k y) ≡ drop (k + 1) xs
  drop-set xs k y = let z : k + 1 ≡ suc k = omega arith in ap (λ j. drop j (slice_set xs k y)) z ∙ set-suc xs k y ∙ ap (λ j. drop j xs) (sym z)

  pub take-set : (xs : List X) (k : ℕ) (x y : X) (zs : List X) → slice_get xs k ≡ Some x → take (k + 1) (slice_set xs k y) ++ zs ≡ take k xs ++ y ∷ zs
  take-set xs k x y zs g = let z : k + 1 ≡ suc k = omega arith in ap (λ j. take j (slice_set xs k y) ++ zs) z ∙ take-suc xs k x y zs g

  pub set-same : (xs : List X) (k : ℕ) (x : X) → slice_get xs k ≡ Some x → slice_set xs k x ≡ xs
  set-same [] k x g = absurd cc
  set-same (y ∷ ys) zero x g = let e : y ≡ x = cc in ap (λ z. z ∷ ys) (sym e)
  set-same (y ∷ ys) (suc k) x g = ap (λ l. y ∷ l) (set-same ys k x g)

  pub drop-whole : (xs : List X) (k : ℕ) → length xs ≤ k → drop k xs ≡ []
  drop-whole [] zero l = refl
  drop-whole [] (suc k) l = refl
  drop-whole (x ∷ xs) zero l = absurd (omega (arith, l))
  drop-whole (x ∷ xs) (suc k) l = drop-whole xs k (omega (arith, l))

  pub take-whole : (xs : List X) (k : ℕ) → length xs ≤ k → take k xs ≡ xs
  take-whole [] zero l = refl
  take-whole [] (suc k) l = refl
  take-whole (x ∷ xs) zero l = absurd (omega (arith, l))
  take-whole (x ∷ xs) (suc k) l = ap (λ ys. x ∷ ys) (take-whole xs k (omega (arith, l)))

-- ---- one node more

module _ {S : Type 0} (u : Units S) (bs : List Bus) (now k : ℕ) (plans : List NodePlan) (old ns ns' : List (Node S)) (units ss ss' : List S) (x : Node S) (s : S)
    (node : slice_get ns k ≡ Some x) (state : slice_get ss k ≡ Some s)
    (ns-set : ns' ≡ slice_set ns k (node_after u bs now x)) (ss-set : ss' ≡ slice_set ss k (state_behind s (session_of u bs now x))) where
  one-turn : (xs xs' : List Turn) → map (seen plans) xs' ≡ map (seen plans) xs ++ map bare_of (cons_option (turn_of u bs now x) [])
      → map (seen plans) xs' ++ map bare_of (turns u bs now (drop (k + 1) ns)) ≡ map (seen plans) xs ++ map bare_of (turns u bs now (drop k ns))
  one-turn xs xs' h =
      ap (λ l. l ++ map bare_of (turns u bs now (drop (k + 1) ns))) h
      ∙ append_assoc (map (seen plans) xs) (map bare_of (cons_option (turn_of u bs now x) [])) (map bare_of (turns u bs now (drop (k + 1) ns)))
      ∙ ap (λ l. map (seen plans) xs ++ l) (go (turn_of u bs now x))
      ∙ ap (λ l. map (seen plans) xs ++ map bare_of (turns u bs now l)) (sym (drop-at ns k x node))
    where
      go : (o : Option (model.Turn S)) → map bare_of (cons_option o []) ++ map bare_of (turns u bs now (drop (k + 1) ns)) ≡ map bare_of (cons_option o (turns u bs now (drop (k + 1) ns)))
      go None = refl
      go (Some y) = refl

  pub walk : (xs xs' : List Turn) → map (seen plans) xs' ≡ map (seen plans) xs ++ map bare_of (cons_option (turn_of u bs now x) [])
      → Walked u bs now k plans old ns units ss xs → Walked u bs now (k + 1) plans old ns' units ss' xs'
  walk xs xs' h w =
      let rest : drop (k + 1) ns' ≡ drop (k + 1) ns = ap (drop (k + 1)) ns-set ∙ drop-set ns k (node_after u bs now x) in
      let left : drop (k + 1) ss' ≡ drop (k + 1) ss = ap (drop (k + 1)) ss-set ∙ drop-set ss k (state_behind s (session_of u bs now x)) in
      record {
        nodes = ap (λ l. take (k + 1) l ++ map (node_after u bs now) (drop (k + 1) ns')) ns-set
            ∙ ap (λ l. take (k + 1) (slice_set ns k (node_after u bs now x)) ++ map (node_after u bs now) l) rest
            ∙ take-set ns k x (node_after u bs now x) (map (node_after u bs now) (drop (k + 1) ns)) node
            ∙ ap (λ l. take k ns ++ map (node_after u bs now) l) (sym (drop-at ns k x node))
            ∙ w.nodes;
        states = ap (λ l. take (k + 1) l ++ units_after u bs now (drop (k + 1) ns') (drop (k + 1) ss')) ss-set
            ∙ ap (λ l. take (k + 1) (slice_set ss k (state_behind s (session_of u bs now x))) ++ units_after u bs now l (drop (k + 1) ss')) rest
            ∙ ap (λ l. take (k + 1) (slice_set ss k (state_behind s (session_of u bs now x))) ++ units_after u bs now (drop (k + 1) ns) l) left
            ∙ take-set ss k s (state_behind s (session_of u bs now x)) (units_after u bs now (drop (k + 1) ns) (drop (k + 1) ss)) state
            ∙ ap (λ l. take k ss ++ units_after u bs now l (s ∷ drop (k + 1) ss)) (sym (drop-at ns k x node))
            ∙ ap (λ l. take k ss ++ units_after u bs now (drop k ns) l) (sym (drop-at ss k s state))
            ∙ w.states;
        turns = ap (λ l. map (seen plans) xs' ++ map bare_of (turns u bs now l)) rest ∙ one-turn xs xs' h ∙ w.turns;
      }

all-push : {X : Type 0} (P : X → Type 0) (xs : List X) (x : X) → P x → All P xs → All P (xs ++ x ∷ [])
all-push P [] x p h = All-cons P x [] p h
all-push P (y ∷ ys) x p h = All-cons P y (ys ++ x ∷ []) (All-head P y ys h) (all-push P ys x p (All-tail P y ys h))

-- ---- a session or none

module _ {E G S : Type 0} (g : Ghosts E G S) (now k : ℕ) (old after : Course) (ts : List Standing) (cs : List (Option ℕ)) (before es es' : List E) (first shared shared' : G) (xs xs' : List Turn)
    (inside : k < length old.plan.nodes) (w : IsWalking g now k old (record old { standings = ts; clocks = cs }) before es first shared xs) (n : NodePlan) (t : Standing) (s : S)
    (plan : slice_get old.plan.nodes k ≡ Some n) (standing : slice_get ts k ≡ Some t) (state : slice_get (states_of g es shared) k ≡ Some s)
    (held : IsHeld g after es' shared') (lasts : LastsAreBy now after.standings) (parts : map g.parts es' ≡ map g.parts es) where
  u : Units S
  u = units_of g.answer g.phase_of old.plan

  node-there : slice_get (nodes_from 0 old.plan.nodes ts (states_of g es shared) cs) k ≡ Some (node_of k n t s (drop (k * 8) cs))
  node-there =
      let z : 0 + k ≡ k = omega arith in
      node-at 0 k old.plan.nodes ts (states_of g es shared) cs n t s plan standing state ∙ ap (λ i. Some (node_of i n t s (drop (k * 8) cs))) z

  pub none-more : call_of old.buses old.plan.resolution now k n t (drop (k * 8) cs) ≡ None → after ≡ record old { standings = ts; clocks = cs } → states_of g es' shared' ≡ states_of g es shared → xs' ≡ xs ++ []
      → IsWalking g now (k + 1) old after before es' first shared' xs'
  none-more e a m x =
      let none = no-session g.answer g.phase_of old.plan old.buses now k n s (drop (k * 8) cs) plan t e in
      let X : Node S = node_of k n t s (drop (k * 8) cs) in
      let ns : List (Node S) = nodes_from 0 old.plan.nodes ts (states_of g es shared) cs in
      record {
        held = held;
        lasts = lasts;
        stays = a ∙ ap (λ (c : Course). record old { standings = c.standings; clocks = c.clocks }) (sym a);
        parts = parts ∙ w.parts;
        there = subst (All (λ (x : Turn). x.node < length old.plan.nodes)) (sym (append-nil xs) ∙ sym x) w.there;
        walked = walk (units_of g.answer g.phase_of old.plan) old.buses now k old.plan.nodes (network_of old (states_of g before first)).nodes ns (network_of after (states_of g es' shared')).nodes
            (states_of g before first) (states_of g es shared) (states_of g es' shared') X s node-there state
            (ap (λ (c : Course). (network_of c (states_of g es' shared')).nodes) a ∙ ap (λ ss. nodes_from 0 old.plan.nodes ts ss cs) m ∙ sym (set-same ns k X node-there)
            ∙ ap (λ o. slice_set ns k (node_behind now X o)) (sym none))
            (m ∙ sym (set-same (states_of g es shared) k s state) ∙ ap (λ o. slice_set (states_of g es shared) k (state_behind s o)) (sym none))
            xs xs'
            (ap (map (seen old.plan.nodes)) (x ∙ append-nil xs) ∙ sym (append-nil (map (seen old.plan.nodes) xs))
            ∙ ap (λ (o : Option (SessionOut × S)). map (seen old.plan.nodes) xs ++ map bare_of (cons_option (option_map (λ r. record { node = X; out = r.0 }) o) [])) (sym none))
            w.walked;
      }

  pub one-more : (call : Call) (turn : Turn) → Some call ≡ call_of old.buses old.plan.resolution now k n t (drop (k * 8) cs)
      → Seated g now k n call turn (record old { standings = ts; clocks = cs }) after (states_of g es shared) (states_of g es' shared') → xs' ≡ xs ++ turn ∷ []
      → IsWalking g now (k + 1) old after before es' first shared' xs'
  one-more call turn e h x =
      let C : Course = record old { standings = ts; clocks = cs } in
      let ss : List S = states_of g es shared in
      let ns : List (Node S) = nodes_from 0 old.plan.nodes ts ss cs in
      let count : ℕ = length n.description.countdown in
      let same : (h.sat).state ≡ s = same-at ss k (h.sat).state s (h.sat).here state in
      let r : SessionOut × S = session.session_of g.answer g.phase_of n.description call.input s in
      let came : r.0 ≡ turn.out = ap (λ v. (session.session_of g.answer g.phase_of n.description call.input v).0) (sym same) ∙ (h.sat).came in
      let behind : states_of g es' shared' ≡ slice_set ss k r.1 = (h.sat).behind ∙ ap (λ v. slice_set ss k (session.session_of g.answer g.phase_of n.description call.input v).1) same in
      let X : Node S = node_of k n t s (drop (k * 8) cs) in
      let its : session_of (units_of g.answer g.phase_of old.plan) old.buses now X ≡ Some r = its-session g.answer g.phase_of old.plan old.buses now k n s (drop (k * 8) cs) plan t call e in
      let cs' : List (Option ℕ) = entries_behind now (k * 8) count turn.out.end turn.out.dues cs in
      let t' : Standing = standing_behind now turn.out.end in
      let few-all : All (λ (m : NodePlan). length m.description.countdown ≤ 8) old.plan.nodes =
      all-more (IsNodePlan (length old.plan.buses)) (λ (m : NodePlan). length m.description.countdown ≤ 8) old.plan.nodes (λ m a q. (q.description).few_clocks) (w.held).plan.nodes in
      let few : count ≤ 8 = all-at (λ (m : NodePlan). length m.description.countdown ≤ 8) old.plan.nodes k n few-all plan in
      let clocks : length cs ≡ length old.plan.nodes * 8 = (w.held).arranged.clocks in
      let room : k * 8 + 8 ≤ length cs = omega (arith, inside, clocks) in
      let each : length turn.out.dues ≡ count = dues-each g n.description call.input k ss turn.out (states_of g es' shared') h.sat in
      let z : 0 + k ≡ k = omega arith in
      let stands : standing_of t' r.1 (take count (drop (k * 8) cs')) ≡ standing_after now r.0 r.1 X.standing (r.0).end =
      standing-is now (k * 8) n t s r.1 turn.out cs room few each (has-clocks old.buses old.plan.resolution now k n (drop (k * 8) cs) call t e)
      (unset-at k old.plan.nodes ts cs n t plan standing (w.held).arranged.unset) turn.out.end
      ∙ ap (λ (o : SessionOut). standing_after now o r.1 X.standing o.end) (sym came) in
      let moved : (network_of after (states_of g es' shared')).nodes ≡ slice_set ns k (node_after (units_of g.answer g.phase_of old.plan) old.buses now X) =
      ap (λ (c : Course). (network_of c (states_of g es' shared')).nodes) h.course
      ∙ ap (λ l. nodes_from 0 old.plan.nodes (slice_set ts k t') l cs') behind
      ∙ node-set 0 k old.plan.nodes ts ss cs cs' n t s t' r.1 plan standing state few-all
      (entries-before now (k * 8) count turn.out.dues cs room few each turn.out.end) (entries-beyond now (k * 8) count turn.out.dues cs room few each turn.out.end)
      ∙ ap (λ i. slice_set ns k (node_of i n t' r.1 (drop (k * 8) cs'))) z
      ∙ ap (λ (v : model_world.Standing S). slice_set ns k (record { number = k; buses = n.buses; standing = v })) stands
      ∙ ap (λ o. slice_set ns k (node_behind now X o)) (sym its) in
      let new : turn.is_new ≡ is_new X.standing = h.newness ∙ newness g.answer g.phase_of old.plan old.buses now k n s (drop (k * 8) cs) plan t call e in
      let bare-turn : seen old.plan.nodes turn ≡ bare_of (record { node = X; out = r.0 }) =
      ap (λ i. bare i (names_of old.plan.nodes i) turn.is_new turn.out) h.number
      ∙ ap (λ l. bare k l turn.is_new turn.out) (names-of old.plan.nodes k n plan)
      ∙ ap (λ q. bare k n.buses q turn.out) new
      ∙ ap (bare k n.buses (is_new X.standing)) (sym came) in
      record {
        held = held;
        lasts = lasts;
        stays = h.course ∙ ap (λ (c : Course). record old { standings = c.standings; clocks = c.clocks }) (sym h.course);
        parts = parts ∙ w.parts;
        there = subst (All (λ (y : Turn). y.node < length old.plan.nodes)) (sym x)
            (all-push (λ (y : Turn). y.node < length old.plan.nodes) xs turn (omega (arith, inside, h.number)) w.there);
        walked = walk (units_of g.answer g.phase_of old.plan) old.buses now k old.plan.nodes (network_of old (states_of g before first)).nodes ns (network_of after (states_of g es' shared')).nodes
            (states_of g before first) ss (states_of g es' shared') X s node-there state moved
            (behind ∙ ap (λ o. slice_set ss k (state_behind s o)) (sym its))
            xs xs'
            (ap (map (seen old.plan.nodes)) x ∙ map-append (seen old.plan.nodes) xs (turn ∷ [])
            ∙ ap (λ y. map (seen old.plan.nodes) xs ++ y ∷ []) bare-turn
            ∙ ap (λ (o : Option (SessionOut × S)). map (seen old.plan.nodes) xs ++ map bare_of (cons_option (option_map (λ r. record { node = X; out = r.0 }) o) [])) (sym its))
            w.walked;
      }

  pub by-call : (o : Option Call) (turn : Option Turn) → o ≡ call_of old.buses old.plan.resolution now k n t (drop (k * 8) cs)
      → Sits g now k n o turn (record old { standings = ts; clocks = cs }) after (states_of g es shared) (states_of g es' shared') → xs' ≡ xs ++ cons_option turn []
      → IsWalking g now (k + 1) old after before es' first shared' xs'
  by-call None None e h x = none-more (sym e) h.0 h.1 x
  by-call (Some call) (Some turn) e h x = one-more call turn e h x
  by-call None (Some turn) e h x = absurd h
  by-call (Some call) None e h x = absurd h

module _ {E G S : Type 0} (g : Ghosts E G S) (now k : ℕ) (old after : Course) (before es es' : List E) (first shared shared' : G) (xs xs' : List Turn) (turn : Option Turn)
    (inside : k < length old.plan.nodes) (held : IsHeld g after es' shared') (lasts : LastsAreBy now after.standings) (parts : map g.parts es' ≡ map g.parts es) (more : xs' ≡ xs ++ cons_option turn []) where
  abbrev Sat-at : Course → Type 0
  Sat-at c = (n : NodePlan) (t : Standing) → slice_get c.plan.nodes k ≡ Some n → slice_get c.standings k ≡ Some t
      → Sits g now k n (call_of c.buses c.plan.resolution now k n t (drop (k * 8) c.clocks)) turn c after (states_of g es shared) (states_of g es' shared')

  from-old : (ts : List Standing) (cs : List (Option ℕ)) → IsWalking g now k old (record old { standings = ts; clocks = cs }) before es first shared xs → Sat-at (record old { standings = ts; clocks = cs })
      → IsWalking g now (k + 1) old after before es' first shared' xs'
  from-old ts cs w sits =
      let a = at-place old.plan.nodes k inside in
      let many : length ts ≡ length old.plan.nodes = (w.held).arranged.standings in
      let b = at-place ts k (omega (arith, inside, many)) in
      let units : length es ≡ length old.plan.nodes = (w.held).each in
      let e = at-place es k (omega (arith, inside, units)) in
      by-call g now k old after ts cs before es es' first shared shared' xs xs' inside w a.item b.item (g.state e.item shared) a.here b.here (state-at g es shared k e.item e.here) held lasts parts
      (call_of old.buses old.plan.resolution now k a.item b.item (drop (k * 8) cs)) turn refl (sits a.item b.item a.here b.here) more

  pub walk-on : (c : Course) → IsWalking g now k old c before es first shared xs → Sat-at c → IsWalking g now (k + 1) old after before es' first shared' xs'
  walk-on c w sits =
      subst (λ (c : Course). IsWalking g now k old c before es first shared xs → Sat-at c → IsWalking g now (k + 1) old after before es' first shared' xs') (sym w.stays)
      (from-old c.standings c.clocks) w sits

-- ---- the begin and the end of the walk

pub walk-begins : {E G S : Type 0} (g : Ghosts E G S) (now : ℕ) (old : Course) (before : List E) (first : G) (xs : List Turn) → IsHeld g old before first → LastsAreBy now old.standings → xs ≡ []
    → IsWalking g now 0 old old before before first first xs
walk-begins g now old before first xs held lasts none = record {
  held = held;
  lasts = lasts;
  stays = refl;
  parts = refl;
  there = subst (All (λ (y : Turn). y.node < length old.plan.nodes)) (sym none) (All-nil (λ (y : Turn). y.node < length old.plan.nodes));
  walked = record {
    nodes = refl;
    states = refl;
    turns = ap (λ ys. map (seen old.plan.nodes) ys ++ map bare_of (turns (units_of g.answer g.phase_of old.plan) old.buses now (network_of old (states_of g before first)).nodes)) none;
  };
}

module _ {E G S : Type 0} (g : Ghosts E G S) (now k : ℕ) (old c : Course) (before es : List E) (first shared : G) (xs : List Turn)
    (w : IsWalking g now k old c before es first shared xs) (all : length old.plan.nodes ≤ k) where
  few-nodes : {T : Type 0} (p : ℕ) (ns : List NodePlan) (ts : List Standing) (ss : List T) (cs : List (Option ℕ)) → length (nodes_from p ns ts ss cs) ≤ length ns
  few-nodes p [] ts ss cs = omega arith
  few-nodes p (n ∷ ns) [] ss cs = omega arith
  few-nodes p (n ∷ ns) (t ∷ ts) [] cs = omega arith
  few-nodes p (n ∷ ns) (t ∷ ts) (s ∷ ss) cs = let l = few-nodes (p + 1) ns ts ss (drop 8 cs) in omega (arith, l)

  nodes-in : length (network_of c (states_of g es shared)).nodes ≤ k
  nodes-in =
      let l = few-nodes 0 c.plan.nodes c.standings (states_of g es shared) c.clocks in
      let same : length c.plan.nodes ≡ length old.plan.nodes = ap (λ (x : Course). length x.plan.nodes) w.stays in
      omega (arith, l, same, all)

  states-in : length (states_of g es shared) ≤ k
  states-in =
      let same : length c.plan.nodes ≡ length old.plan.nodes = ap (λ (x : Course). length x.plan.nodes) w.stays in
      let many : length es ≡ length c.plan.nodes = (w.held).each in
      let mapped : length (states_of g es shared) ≡ length es = length-map es (λ e. g.state e shared) in
      omega (arith, mapped, many, same, all)

  pub all-nodes : (network_of c (states_of g es shared)).nodes ≡ map (node_after (units_of g.answer g.phase_of old.plan) old.buses now) (network_of old (states_of g before first)).nodes
  all-nodes =
      let ns : List (Node S) = (network_of c (states_of g es shared)).nodes in
      let l = nodes-in in
      sym (append-nil ns) ∙ ap (λ ys. ys ++ []) (sym (take-whole ns k l))
      ∙ ap (λ ys. take k ns ++ map (node_after (units_of g.answer g.phase_of old.plan) old.buses now) ys) (sym (drop-whole ns k l)) ∙ (w.walked).nodes

  pub all-states : states_of g es shared ≡ units_after (units_of g.answer g.phase_of old.plan) old.buses now (network_of old (states_of g before first)).nodes (states_of g before first)
  all-states =
      let ns : List (Node S) = (network_of c (states_of g es shared)).nodes in
      let ss : List S = states_of g es shared in
      let l = nodes-in in
      let m = states-in in
      sym (append-nil ss) ∙ ap (λ ys. ys ++ []) (sym (take-whole ss k m))
      ∙ ap (λ ys. take k ss ++ units_after (units_of g.answer g.phase_of old.plan) old.buses now ys (drop k ss)) (sym (drop-whole ns k l)) ∙ (w.walked).states

  pub all-turns : map (seen old.plan.nodes) xs ≡ map bare_of (turns (units_of g.answer g.phase_of old.plan) old.buses now (network_of old (states_of g before first)).nodes)
  all-turns =
      let ns : List (Node S) = (network_of c (states_of g es shared)).nodes in
      let l = nodes-in in
      sym (append-nil (map (seen old.plan.nodes) xs))
      ∙ ap (λ ys. map (seen old.plan.nodes) xs ++ map bare_of (turns (units_of g.answer g.phase_of old.plan) old.buses now ys)) (sym (drop-whole ns k l)) ∙ (w.walked).turns
