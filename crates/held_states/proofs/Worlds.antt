-- Events, closes and logs of a network whose units' states are held in another form.
use Rattle.std.proofs.Common.{◌≡◌, ℕ, zero, suc, ◌+◌, Bool, true, false, List, [], ◌∷◌, ◌++◌, map, flat_map, filter_map, fold, Option, Some, None, refl, ap, ◌∙◌}
use Rattle.std.specs.Prelude.{if◌then◌else◌, option_map}
use Rattle.log_specs.specs.Line.{Line}
use Rattle.bus_specs.specs.Bus.{Bus}
use Rattle.bus_specs.specs.Inbox.{enter}
use Rattle.run_specs.specs.Run as run
use Rattle.run_specs.specs.Run.{Machine, behind, head, then_from}
use Rattle.session_specs.specs.Outcome.{End, SessionOut}
use Rattle.session_specs.specs.Outcome as session
use Rattle.world_specs.specs.Units.{Given, Units}
use Rattle.world_specs.specs.World.{Node, Standing, New, Live, Down, Over, World}
use Rattle.world_specs.specs.Plan.{NodePlan, new_nodes}
use Rattle.world_specs.specs.Next.{What, Finish, Return, Sessions, Start, Event, enabled, next_event, of_bus, of_node, of_standing, up_to, precedes}
use Rattle.world_specs.specs.Sessions as s
use Rattle.world_specs.specs.Sessions.{Turn}
use Rattle.world_specs.specs.Step.{outcome_of, world_behind, event_lines, Outcome}
use Rattle.world_specs.specs.Network as n
use Rattle.run_specs.specs.Order.{foremost}
use Rattle.held_states.specs.Held.{standing_as, node_as, world_as}

map-as : {X Y Z : Type 0} (g : Y → Z) (h : X → Y) (k : X → Z) → ((x : X) → g (h x) ≡ k x) → (xs : List X) → map g (map h xs) ≡ map k xs
map-as g h k e [] = refl
map-as g h k e (x ∷ xs) = rw (e x, map-as g h k e xs) refl

flat-as : {X Y Z : Type 0} (g : Y → List Z) (h : X → Y) (k : X → List Z) → ((x : X) → g (h x) ≡ k x) → (xs : List X) → flat_map g (map h xs) ≡ flat_map k xs
flat-as g h k e [] = refl
flat-as g h k e (x ∷ xs) = rw (e x, flat-as g h k e xs) refl

fold-as : {X Y A : Type 0} (g : A → Y → A) (h : X → Y) (k : A → X → A) → ((a : A) (x : X) → g a (h x) ≡ k a x) → (a : A) (xs : List X) → fold g a (map h xs) ≡ fold k a xs
fold-as g h k e a [] = refl
fold-as g h k e a (x ∷ xs) = ap (λ b. fold g b (map h xs)) (e a x) ∙ fold-as g h k e (k a x) xs

filter-as : {X Y Z W : Type 0} (g : Y → Option W) (h : X → Y) (k : X → Option Z) (q : Z → W) → ((x : X) → g (h x) ≡ option_map q (k x))
    → (xs : List X) → filter_map g (map h xs) ≡ map q (filter_map k xs)
filter-as g h k q e [] = refl
filter-as {Z = Z} g h k q e (x ∷ xs) = go (filter-as g h k q e xs) (k x) refl
  where
    go : filter_map g (map h xs) ≡ map q (filter_map k xs) → (o : Option Z) → k x ≡ o → filter_map g (map h (x ∷ xs)) ≡ map q (filter_map k (x ∷ xs))
    go rest None p = let none : g (h x) ≡ None = e x ∙ ap (option_map q) p in rw (none, p) rest
    go rest (Some z) p = let some : g (h x) ≡ Some (q z) = e x ∙ ap (option_map q) p in rw (some, p, rest) refl

-- ---- any machine

module _ {S T L : Type 0} (F : S → T) (m : Machine S L) (o : Machine T L)
    (steps : (s : S) → o.step (F s) ≡ option_map (λ p. (F p.0, p.1)) (m.step s)) where
  head-from : (k : ℕ) (r : Option (S × List L)) → ((s : S) → head o k (F s) ≡ head m k s)
      → then_from [] (λ p. p.1 ++ head o k p.0) (option_map (λ p. (F p.0, p.1)) r) ≡ then_from [] (λ p. p.1 ++ head m k p.0) r
  head-from k None h = refl
  head-from k (Some p) h = ap (λ ls. p.1 ++ ls) (h p.0)

  head-as : (k : ℕ) (s : S) → head o k (F s) ≡ head m k s
  unfolding head
  head-as zero s = refl
  head-as (suc k) s = rw (steps s) (head-from k (m.step s) (head-as k))

  behind-from : (k : ℕ) (s : S) (r : Option (S × List L)) → ((s : S) → behind o k (F s) ≡ F (behind m k s))
      → then_from (F s) (λ p. behind o k p.0) (option_map (λ p. (F p.0, p.1)) r) ≡ F (then_from s (λ p. behind m k p.0) r)
  behind-from k s None h = refl
  behind-from k s (Some p) h = h p.0

  pub behind-as : (k : ℕ) (s : S) → behind o k (F s) ≡ F (behind m k s)
  unfolding behind
  behind-as zero s = refl
  behind-as (suc k) s = rw (steps s) (behind-from k s (m.step s) (behind-as k))

  pub log-as : ((s : S) → o.closing (F s) ≡ m.closing s) → (k : ℕ) (s : S) → run.log o k (F s) ≡ run.log m k s
  log-as closes k s = rw (head-as k s, behind-as k s, closes (behind m k s)) refl

-- ---- the nodes of a network

module _ {S T : Type 0} (f : S → T) where
  abbrev turn_as : Turn S → Turn T
  turn_as x = record { node = node_as f x.node; out = x.out }

  called : (bs : List Bus) (now node : ℕ) (st : Standing S) → s.is_called bs now node (standing_as f st) ≡ s.is_called bs now node st
  called bs now node (New x) = refl
  called bs now node (Live x last cs) = refl
  called bs now node Down = refl
  called bs now node Over = refl

  of-standing : (now : ℕ) (st : Standing S) → of_standing now (standing_as f st) ≡ of_standing now st
  of-standing now (New x) = refl
  of-standing now (Live x last cs) = refl
  of-standing now Down = refl
  of-standing now Over = refl

  enabled-as : (w : World S) → enabled (world_as f w) ≡ enabled w
  enabled-as w = ap (λ es. flat_map (of_bus w.now) w.buses ++ es) (flat-as (of_node w.now) (node_as f) (of_node w.now) (λ x. of-standing w.now x.standing) w.nodes)

  pub next-as : (stop : ℕ) (w : World S) → next_event stop (world_as f w) ≡ next_event stop w
  unfolding next_event
  next-as stop w = ap (λ es. up_to stop (foremost precedes es)) (enabled-as w)

  newness : (st : Standing S) → s.is_new (standing_as f st) ≡ s.is_new st
  newness (New x) = refl
  newness (Live x last cs) = refl
  newness Down = refl
  newness Over = refl

  entered : (bs : List Bus) (x : Turn S) → s.with_entered bs (turn_as x) ≡ s.with_entered bs x
  entered bs x = ap (λ b. if b then map (λ b. enter b x.node.number) bs else bs) (newness x.node.standing)

  turns-step : (now : ℕ) (bs : List Bus) (xs : List (Turn S)) → s.turns_step now bs (map turn_as xs) ≡ s.turns_step now bs xs
  turns-step now bs xs = fold-as (s.turn_step now) turn_as (s.turn_step now) (λ a x. refl) (fold s.with_entered bs (map turn_as xs), []) xs
      ∙ ap (λ bs. fold (s.turn_step now) (bs, []) xs) (fold-as s.with_entered turn_as s.with_entered entered bs xs)

  clocks : (st : Standing S) → s.clocks_of (standing_as f st) ≡ s.clocks_of st
  clocks (New x) = refl
  clocks (Live x last cs) = refl
  clocks Down = refl
  clocks Over = refl

  after-end : (now : ℕ) (out : SessionOut) (state : S) (before : Standing S) (e : End)
      → s.standing_after now out (f state) (standing_as f before) e ≡ standing_as f (s.standing_after now out state before e)
  after-end now out state before session.Live = ap (λ cs. Live (f state) now (s.clocks_after now out.dues cs)) (clocks before)
  after-end now out state before session.Over = refl
  after-end now out state before (session.Down cause) = refl

  -- what came of a piece, with the state in the other form
  abbrev result_as : {X : Type 0} → X × S → X × T
  result_as r = (r.0, f r.1)

  behind-node : (now : ℕ) (x : Node S) (r : Option (SessionOut × S)) → s.node_behind now (node_as f x) (option_map result_as r) ≡ node_as f (s.node_behind now x r)
  behind-node now x None = refl
  behind-node now x (Some r) = ap (λ st. record { number = x.number; buses = x.buses; standing = st }) (after-end now r.0 r.1 x.standing (r.0).end)

  pub opening-as : (place : ℕ) (ns : List NodePlan) (ss : List S) → new_nodes place ns (map f ss) ≡ map (node_as f) (new_nodes place ns ss)
  opening-as place [] ss = refl
  opening-as place (x ∷ ns) [] = refl
  opening-as place (x ∷ ns) (y ∷ ss) = ap (λ xs. record { number = place; buses = x.buses; standing = New (f y) } ∷ xs) (opening-as (place + 1) ns ss)

  -- ---- units that answer alike

  module _ (u : Units S) (v : Units T) (sessions : (node : ℕ) (g : Given) (x : S) → v.session node g (f x) ≡ result_as (u.session node g x))
      (closes : (node : ℕ) (x : S) → v.close node (f x) ≡ result_as (u.close node x)) where
    session-from : (bs : List Bus) (now : ℕ) (x : Node S) (st : Standing S)
        → s.session_from v bs now (node_as f x) (standing_as f st) ≡ option_map result_as (s.session_from u bs now x st)
    session-from bs now x (New y) = ap Some (sessions x.number (s.given_to bs now x 0 []) y)
    session-from bs now x (Live y last cs) = ap Some (sessions x.number (s.given_to bs now x last cs) y)
    session-from bs now x Down = refl
    session-from bs now x Over = refl

    session-if : (b : Bool) (bs : List Bus) (now : ℕ) (x : Node S)
        → (if b then s.session_from v bs now (node_as f x) (standing_as f x.standing) else None) ≡ option_map result_as (if b then s.session_from u bs now x x.standing else None)
    session-if true bs now x = session-from bs now x x.standing
    session-if false bs now x = refl

    session-of : (bs : List Bus) (now : ℕ) (x : Node S) → s.session_of v bs now (node_as f x) ≡ option_map result_as (s.session_of u bs now x)
    session-of bs now x = ap (λ b. if b then s.session_from v bs now (node_as f x) (standing_as f x.standing) else None) (called bs now x.number x.standing)
        ∙ session-if (s.takes_part bs now x) bs now x

    turn-from : (x : Node S) (r : Option (SessionOut × S))
        → option_map (λ p. record { node = node_as f x; out = p.0 }) (option_map result_as r) ≡ option_map turn_as (option_map (λ p. record { node = x; out = p.0 }) r)
    turn-from x None = refl
    turn-from x (Some r) = refl

    turn-of : (bs : List Bus) (now : ℕ) (x : Node S) → s.turn_of v bs now (node_as f x) ≡ option_map turn_as (s.turn_of u bs now x)
    turn-of bs now x = ap (option_map (λ p. record { node = node_as f x; out = p.0 })) (session-of bs now x) ∙ turn-from x (s.session_of u bs now x)

    turns : (bs : List Bus) (now : ℕ) (xs : List (Node S)) → s.turns v bs now (map (node_as f) xs) ≡ map turn_as (s.turns u bs now xs)
    turns bs now xs = filter-as (s.turn_of v bs now) (node_as f) (s.turn_of u bs now) turn_as (turn-of bs now) xs

    node-after : (bs : List Bus) (now : ℕ) (x : Node S) → s.node_after v bs now (node_as f x) ≡ node_as f (s.node_after u bs now x)
    node-after bs now x = ap (s.node_behind now (node_as f x)) (session-of bs now x) ∙ behind-node now x (s.session_of u bs now x)

    nodes-after : (bs : List Bus) (now : ℕ) (xs : List (Node S)) → map (s.node_after v bs now) (map (node_as f) xs) ≡ map (node_as f) (map (s.node_after u bs now) xs)
    nodes-after bs now [] = refl
    nodes-after bs now (x ∷ xs) = rw (node-after bs now x, nodes-after bs now xs) refl

    abbrev outcome_as : Outcome S → Outcome T
    outcome_as o = record { buses = o.buses; nodes = map (node_as f) o.nodes; lines = o.lines }

    outcome : (w : World S) (now : ℕ) (what : What) → outcome_of v (world_as f w) now what ≡ outcome_as (outcome_of u w now what)
    outcome w now (Finish bus) = refl
    outcome w now (Return bus node) = refl
    outcome w now Sessions = rw (turns w.buses now w.nodes, turns-step now w.buses (s.turns u w.buses now w.nodes), nodes-after w.buses now w.nodes) refl
    outcome w now (Start bus) = refl

    step-from : (w : World S) (e : Option Event)
        → option_map {U = World T × List Line} (λ e. (world_behind v (world_as f w) e, event_lines v (world_as f w) e)) e
        ≡ option_map {U = World T × List Line} (λ p. (world_as f p.0, p.1)) (option_map {U = World S × List Line} (λ e. (world_behind u w e, event_lines u w e)) e)
    step-from w None = refl
    step-from w (Some e) = ap (λ (o : Outcome T). Some (record { events = w.events + 1; now = e.moment; buses = o.buses; nodes = o.nodes }, o.lines)) (outcome w e.moment e.what)

    pub step-as : (stop : ℕ) (w : World S) → n.step v stop (world_as f w) ≡ option_map (λ p. (world_as f p.0, p.1)) (n.step u stop w)
    unfolding n.step
    step-as stop w = ap (option_map {U = World T × List Line} (λ e. (world_behind v (world_as f w) e, event_lines v (world_as f w) e))) (next-as stop w) ∙ step-from w (next_event stop w)

    close-from : (node : ℕ) (st : Standing S) → n.close_from v node (standing_as f st) ≡ option_map result_as (n.close_from u node st)
    close-from node (New x) = refl
    close-from node (Live x last cs) = ap Some (closes node x)
    close-from node Down = refl
    close-from node Over = refl

    lines-from : (now node : ℕ) (r : Option (End × S)) → n.lines_of_close now node (option_map result_as r) ≡ n.lines_of_close now node r
    lines-from now node None = refl
    lines-from now node (Some r) = refl

    closed-lines : (now : ℕ) (x : Node S) → n.lines_of_close now x.number (n.close_of v (node_as f x)) ≡ n.lines_of_close now x.number (n.close_of u x)
    closed-lines now x = ap (n.lines_of_close now x.number) (close-from x.number x.standing) ∙ lines-from now x.number (n.close_of u x)

    close-lines : (w : World S) → n.close_lines v (world_as f w) ≡ n.close_lines u w
    close-lines w = flat-as (λ x. n.lines_of_close w.now x.number (n.close_of v x)) (node_as f) (λ x. n.lines_of_close w.now x.number (n.close_of u x)) (closed-lines w.now) w.nodes

    pub closing-as : (stop : ℕ) (w : World S) → n.closing v stop (world_as f w) ≡ n.closing u stop w
    closing-as stop w = rw (close-lines w, next-as stop w) refl

    pub lines-as : (stop budget : ℕ) (w : World S) → n.run_lines v stop budget (world_as f w) ≡ n.run_lines u stop budget w
    lines-as stop budget w = log-as (world_as f) (n.network u stop) (n.network v stop) (step-as stop) (closing-as stop) budget w

    pub status-as : (stop budget : ℕ) (w : World S) → n.run_status v stop budget (world_as f w) ≡ n.run_status u stop budget w
    status-as stop budget w = ap (n.status stop) (behind-as (world_as f) (n.network u stop) (n.network v stop) (step-as stop) budget w)
        ∙ ap n.status_of (next-as stop (behind (n.network u stop) budget w))
