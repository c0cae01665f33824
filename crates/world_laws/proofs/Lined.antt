-- Each line of an event is of its moment, so the moments of a log never fall.
use Rattle.std.proofs.Common.{◌≡◌, ◌≤◌, ◌⊎◌, ℕ, zero, suc, ◌==◌, Bool, true, false, if◌then◌else◌, List, [], ◌∷◌, ◌++◌, map, fold, Option, Some, None, All, arith, sym, refl, subst, inl, inr, append_assoc}
use Rattle.std.specs.Prelude.{flat_map, option_map}
use Rattle.log_specs.specs.Line.{Line, On, Down, Over, End}
use Rattle.log_specs.specs.Line as log
use Rattle.operation_specs.specs.Reading.{Item}
use Rattle.run_specs.specs.Run.{Machine, behind, head, then_from}
use Rattle.run_specs.specs.Run as run
use Rattle.session_specs.specs.Outcome as session
use Rattle.bus_specs.specs.Bus.{Bus, Member, Running, Request, Fault, Hurt, winner}
use Rattle.bus_specs.specs.Counters.{level}
use Rattle.bus_specs.specs.Start.{start, start_with, losers, loser_told}
use Rattle.bus_specs.specs.Finish.{finish, finish_with, outcome_line, hurt_lines, state_lines, same_level, counters_after, recover}
use Rattle.bus_specs.specs.Submit.{submission_of, submit}
use Rattle.bus_specs.specs.Inbox.{take_inbox, members_at, told_notices}
use Rattle.bus_sound.proofs.Among.{Among}
use Rattle.bus_sound.proofs.Lists.{All-each, map-among, append-among, flat_map-among}
use Rattle.world_specs.specs.Units.{Units}
use Rattle.world_specs.specs.World.{World, Node}
use Rattle.world_specs.specs.Next.{What, Finish, Return, Sessions, Start, Event, next_event}
use Rattle.world_specs.specs.Sessions.{Turn, turns, with_entered, on_each_bus, items_on, submission_step, emission_step, end_step, turn_step}
use Rattle.world_specs.specs.Step.{outcome_of, world_behind, event_lines}
use Rattle.world_specs.specs.Network.{step, close_of, failure_lines, lines_of_close, close_lines, closing, network, run_lines}
use Rattle.world_specs.specs.Fits.{UnitsFit}
use Rattle.world_laws.specs.Words.{IsAt, moment_after, LinesRise, NothingIsLate}
use Rattle.world_laws.proofs.Timed.{forward, none-late}

module _ (t : ℕ) where
  abbrev Lines : List Line → Type 0
  Lines ls = (l : Line) → Among ls l → IsAt t l

  none-at : Lines []
  none-at l a = absurd a

  one-at : (l : Line) → IsAt t l → Lines (l ∷ [])
  one-at l h m (inl e) = subst (IsAt t) e h
  one-at l h m (inr a) = absurd a

  more-at : (l : Line) (ls : List Line) → IsAt t l → Lines ls → Lines (l ∷ ls)
  more-at l ls h k m (inl e) = subst (IsAt t) e h
  more-at l ls h k m (inr a) = k m a

  both-at : (ls ms : List Line) → Lines ls → Lines ms → Lines (ls ++ ms)
  both-at ls ms h k l a = go (append-among ls ms l a)
    where
      go : Among ls l ⊎ Among ms l → IsAt t l
      go (inl b) = h l b
      go (inr b) = k l b

  each-at : {X : Type 0} (f : X → List Line) (xs : List X) → ((x : X) → Lines (f x)) → Lines (flat_map f xs)
  each-at f xs h l a = let r = flat_map-among f xs l a in h r.0 l r.2

  mapped-at : {X : Type 0} (f : X → Line) (xs : List X) → ((x : X) → IsAt t (f x)) → Lines (map f xs)
  mapped-at f xs h l a = let r = map-among f xs l a in subst (IsAt t) r.2 (h r.0)

  -- ---- the calls of a bus

  finish-at : (b : Bus) → Lines (finish b t).1
  unfolding finish
  finish-at b = go b.running
    where
      outcome : (r : Running) (o : Option Fault) → IsAt t (outcome_line b t r o)
      outcome r None = refl
      outcome r (Some e) = refl

      hurts : (o : Option Hurt) → Lines (hurt_lines b t o)
      hurts None = none-at
      hurts (Some h) = one-at _ refl

      states : (r : Running) (m : Member) → Lines (state_lines b t r m)
      states r m = by (same_level (level m.counters) (level (counters_after r m)))
        where
          by : (q : Bool) → Lines (if q then [] else On t b.setup.number m.node (log.State (level (counters_after r m))) ∷ [])
          by true = none-at
          by false = one-at _ refl

      go : (o : Option Running) → Lines (finish_with b t o).1
      go None = none-at
      go (Some r) = more-at _ _ (outcome r r.fault) (both-at (hurt_lines b t r.hurt) _ (hurts r.hurt) (each-at (state_lines b t r) b.members (states r)))

  start-at : (b : Bus) → Lines (start b t).1
  unfolding start
  start-at b = go (winner b t)
    where
      go : (o : Option Request) → Lines (start_with b t o).1
      go None = none-at
      go (Some w) = more-at _ _ refl (mapped-at (λ r. On t b.setup.number r.node (loser_told b r)) (losers b t w.node) (λ r. refl))

  recover-at : (b : Bus) (node : ℕ) → Lines (recover b t node).1
  unfolding recover
  recover-at b node = one-at _ refl

  take-at : (b : Bus) (node : ℕ) → Lines (take_inbox b t node).1
  unfolding take_inbox
  take-at b node = each-at (λ m. map (On t b.setup.number node) (told_notices t m)) (members_at b node) (λ m. mapped-at (On t b.setup.number node) (told_notices t m) (λ x. refl))

  line-at : (b : Bus) (node : ℕ) (i : Item) → Lines ((submit b t node (submission_of b.setup i)).1 ∷ [])
  unfolding submit
  line-at b node i = one-at _ refl

  submit-at : (node : ℕ) (items : List Item) (p : Bus × List Line) → Lines p.1 → Lines (fold (submission_step t node) p items).1
  submit-at node [] p h = h
  submit-at node (i ∷ items) p h = submit-at node items (submission_step t node p i) (both-at p.1 ((submit p.0 t node (submission_of p.0.setup i)).1 ∷ []) h (line-at p.0 node i))

  -- ---- a turn

  on-each : (f : Bus → Bus × List Line) → ((b : Bus) → Lines (f b).1) → (p : List Bus × List Line) → Lines p.1 → Lines (on_each_bus f p).1
  on-each f h p k = both-at p.1 (flat_map (λ b. (f b).1) p.0) k (each-at (λ b. (f b).1) p.0 h)

  turn-at : {S : Type 0} (x : Turn S) (p : List Bus × List Line) → Lines p.1 → Lines (turn_step t p x).1
  turn-at x p h = go x.out.end
    where
      emitted : Lines (on_each_bus (emission_step t x) (on_each_bus (λ b. take_inbox b t x.node.number) p)).1
      emitted = on-each (emission_step t x) (λ b. submit-at x.node.number (items_on x b.setup.number) (b, []) none-at) (on_each_bus (λ b. take_inbox b t x.node.number) p)
          (on-each (λ b. take_inbox b t x.node.number) (λ b. take-at b x.node.number) p h)

      go : (e : session.End) → Lines (end_step t x.node.number e (on_each_bus (emission_step t x) (on_each_bus (λ b. take_inbox b t x.node.number) p))).1
      go session.Live = emitted
      go session.Over = both-at (on_each_bus (emission_step t x) (on_each_bus (λ b. take_inbox b t x.node.number) p)).1 _ emitted (one-at _ refl)
      go (session.Down cause) = both-at (on_each_bus (emission_step t x) (on_each_bus (λ b. take_inbox b t x.node.number) p)).1 _ emitted (one-at _ refl)

  turns-at : {S : Type 0} (xs : List (Turn S)) (p : List Bus × List Line) → Lines p.1 → Lines (fold (turn_step t) p xs).1
  turns-at [] p h = h
  turns-at (x ∷ xs) p h = turns-at xs (turn_step t p x) (turn-at x p h)

  outcome-at : {S : Type 0} (u : Units S) (w : World S) (k : What) → Lines (outcome_of u w t k).lines
  outcome-at u w (Finish bus) = each-at (λ b. if b.setup.number == bus then (finish b t).1 else []) w.buses (λ b. go b (b.setup.number == bus))
    where
      go : (b : Bus) (q : Bool) → Lines (if q then (finish b t).1 else [])
      go b true = finish-at b
      go b false = none-at
  outcome-at u w (Return bus node) = each-at (λ b. if b.setup.number == bus then (recover b t node).1 else []) w.buses (λ b. go b (b.setup.number == bus))
    where
      go : (b : Bus) (q : Bool) → Lines (if q then (recover b t node).1 else [])
      go b true = recover-at b node
      go b false = none-at
  outcome-at u w (Start bus) = each-at (λ b. if b.setup.number == bus then (start b t).1 else []) w.buses (λ b. go b (b.setup.number == bus))
    where
      go : (b : Bus) (q : Bool) → Lines (if q then (start b t).1 else [])
      go b true = start-at b
      go b false = none-at
  outcome-at u w Sessions = turns-at (turns u w.buses t w.nodes) (fold with_entered w.buses (turns u w.buses t w.nodes), []) none-at

  pub close-at : {S : Type 0} (u : Units S) (w : World S) → w.now ≡ t → Lines (close_lines u w)
  close-at {S} u w e = each-at (λ n. lines_of_close w.now n.number (close_of u n)) w.nodes (λ n. go n (close_of u n))
    where
      fails : (n : Node S) (c : session.End) → Lines (failure_lines w.now n.number c)
      fails n session.Live = none-at
      fails n session.Over = none-at
      fails n (session.Down cause) = one-at _ e

      go : (n : Node S) (o : Option (session.End × S)) → Lines (lines_of_close w.now n.number o)
      go n None = none-at
      go n (Some r) = fails n r.0

pub event-at : {S : Type 0} (u : Units S) (w : World S) (e : Event) → All (IsAt e.moment) (event_lines u w e)
event-at u w e = All-each (IsAt e.moment) (event_lines u w e) (outcome-at e.moment u w e.what)

-- ---- along a log

at-moment : (last t : ℕ) (l : Line) → IsAt t l → moment_after last l ≡ t
at-moment last t (On s bus node told) h = h
at-moment last t (Down s node cause) h = h
at-moment last t (Over s node) h = h
at-moment last t (End status events) h = absurd h

-- lines of one moment, and later ones behind them
rise-on : (last t : ℕ) → last ≤ t → (ls rest : List Line) → Lines t ls → LinesRise t rest → LinesRise last (ls ++ rest)
rise-on last t l [] rest h k = lower last t l rest k
  where
    lower : (last t : ℕ) → last ≤ t → (rest : List Line) → LinesRise t rest → LinesRise last rest
    lower last t l [] k = tt
    lower last t l (On s bus node told ∷ rest) k = (omega (arith, k.0), k.1)
    lower last t l (Down s node cause ∷ rest) k = (omega (arith, k.0), k.1)
    lower last t l (Over s node ∷ rest) k = (omega (arith, k.0), k.1)
    lower last t l (End status events ∷ rest) k = (omega arith, lower last t l rest k.1)
rise-on last t l (x ∷ ls) rest h k =
    let m = at-moment last t x (h x (inl refl)) in
    (omega (arith, m), subst (λ s. LinesRise s (ls ++ rest)) (sym m) (rise-on t t (omega arith) ls rest (λ y a. h y (inr a)) k))

pub log-rises : {S : Type 0} (u : Units S) (stop budget : ℕ) (w : World S) → UnitsFit u → NothingIsLate w → LinesRise w.now (run_lines u stop budget w)
unfolding behind head step
log-rises u stop zero w fit h = rise-on w.now w.now (omega arith) (close_lines u w) _ (close-at w.now u w refl) (omega arith, tt)
log-rises {S} u stop (suc k) w fit h = go (next_event stop w) refl (λ v i. log-rises u stop k v fit i)
  where
    go : (o : Option Event) → next_event stop w ≡ o → ((v : World S) → NothingIsLate v → LinesRise v.now (run.log (network u stop) k v))
        → LinesRise w.now (then_from [] (λ p. p.1 ++ head (network u stop) k p.0) (option_map (λ e. (world_behind u w e, event_lines u w e)) o)
        ++ closing u stop (then_from w (λ p. behind (network u stop) k p.0) (option_map (λ e. (world_behind u w e, event_lines u w e)) o)))
    go None e on = rise-on w.now w.now (omega arith) (close_lines u w) _ (close-at w.now u w refl) (omega arith, tt)
    go (Some d) e on =
        let v : World S = world_behind u w d in
        subst (LinesRise w.now) (sym (append_assoc (event_lines u w d) (head (network u stop) k v) (closing u stop (behind (network u stop) k v))))
        (rise-on w.now d.moment (forward stop w d h e) (event_lines u w d) (run.log (network u stop) k v) (outcome-at d.moment u w d.what) (on v (none-late u stop w d fit e)))
