-- Of two lines at one moment the first is of no later kind.
use Rattle.std.proofs.Common.{◌≡◌, ℕ, zero, suc, ◌≤◌, Bool, true, false, if◌then◌else◌, List, [], ◌∷◌, ◌++◌, map, flat_map, fold, Option, Some, None, arith, refl, ◌∙◌, sym, subst}
use Rattle.std.specs.Prelude.{option_map, ⊤}
use Rattle.bus_specs.specs.Bus.{Bus, Member, Request, Running, Fault, Hurt, winner}
use Rattle.bus_specs.specs.Counters.{level}
use Rattle.bus_specs.specs.Start.{losers, discards, loser_told, start_with, start}
use Rattle.bus_specs.specs.Finish.{finish, finish_with, outcome_line, hurt_lines, state_lines, same_level, counters_after, recover}
use Rattle.bus_specs.specs.Due.{Due, What, Finish, Return, Notices, Start, rank}
use Rattle.log_specs.specs.Line.{Line, On, Down, Over, End, Told, LostKept, LostGone}
use Rattle.log_specs.specs.Line as log
use Rattle.run_specs.specs.Run.{behind, head, then_from}
use Rattle.play_specs.specs.Scenario.{Scenario, World, opening, next_event, moment_step, event_step, world_behind, status, machine, scenario_lines}
use Rattle.log_laws.specs.Scenarios.{IsScenario}
use Rattle.log_laws.specs.Starts.{moment_after}
use Rattle.log_laws.specs.KindOrder.{rank_told, KindsInOrder}
use Rattle.log_laws.proofs.Moments.{Some_lines}
use Rattle.log_laws.proofs.Due.{event-some}
use Rattle.log_laws.proofs.KindLaw.{settled}
use Rattle.log_laws.proofs.EventCount.{tells_node, NodeLines, moment-renews}
use Rattle.log_laws.proofs.Played.{RunWorld, after-sound, opening-sound}

abbrev IsRanked : ℕ → ℕ → Line → Type 0
IsRanked now r (On t bus node told) = (t ≡ now) × (rank_told told ≡ r)
IsRanked now r (Down t node cause) = ⊥
IsRanked now r (Over t node) = ⊥
IsRanked now r (End status events) = ⊥

abbrev Ranked : ℕ → ℕ → List Line → Type 0
Ranked now r [] = ⊤
Ranked now r (line ∷ lines) = IsRanked now r line × Ranked now r lines

ranked-append : (now r : ℕ) (xs ys : List Line) → Ranked now r xs → Ranked now r ys → Ranked now r (xs ++ ys)
ranked-append now r [] ys h k = k
ranked-append now r (x ∷ xs) ys h k = (h.0, ranked-append now r xs ys h.1 k)

node-rank : (told : Told) → tells_node told ≡ true → rank_told told ≡ 2
node-rank (log.Start f) e = absurd cc
node-rank (LostKept f) e = absurd cc
node-rank (LostGone f) e = absurd cc
node-rank (log.Done f ns) e = absurd cc
node-rank (log.Fail f kind by) e = absurd cc
node-rank (log.Hurt kind) e = absurd cc
node-rank (log.State l) e = absurd cc
node-rank log.Back e = absurd cc
node-rank other e = refl

nodes-ranked : (now : ℕ) (lines : List Line) → NodeLines now lines → Ranked now 2 lines
nodes-ranked now [] h = tt
nodes-ranked now (On t bus node told ∷ lines) h = ((h.0.0, node-rank told h.0.1), nodes-ranked now lines h.1)
nodes-ranked now (Down t node cause ∷ lines) h = absurd h.0
nodes-ranked now (Over t node ∷ lines) h = absurd h.0
nodes-ranked now (End status events ∷ lines) h = absurd h.0

module _ (b : Bus) (now : ℕ) where
  states-ranked : (r : Running) (ms : List Member) → Ranked now 0 (flat_map (state_lines b now r) ms)
  states-ranked r [] = tt
  states-ranked r (m ∷ ms) = ranked-append now 0 (state_lines b now r m) (flat_map (state_lines b now r) ms) (go (same_level (level m.counters) (level (counters_after r m)))) (states-ranked r ms)
    where
      go : (t : Bool) → Ranked now 0 (if t then [] else On now b.setup.number m.node (log.State (level (counters_after r m))) ∷ [])
      go true = tt
      go false = ((refl, refl), tt)

  hurt-ranked : (h : Option Hurt) → Ranked now 0 (hurt_lines b now h)
  hurt-ranked None = tt
  hurt-ranked (Some h) = ((refl, refl), tt)

  outcome-ranked : (r : Running) (o : Option Fault) → IsRanked now 0 (outcome_line b now r o)
  outcome-ranked r None = (refl, refl)
  outcome-ranked r (Some e) = (refl, refl)

  finish-ranked : Ranked now 0 (finish b now).1
  unfolding finish
  finish-ranked = go b.running
    where
      go : (o : Option Running) → Ranked now 0 (finish_with b now o).1
      go None = tt
      go (Some r) = (outcome-ranked r r.fault, ranked-append now 0 (hurt_lines b now r.hurt) (flat_map (state_lines b now r) b.members) (hurt-ranked r.hurt) (states-ranked r b.members))

  recover-ranked : (node : ℕ) → Ranked now 1 (recover b now node).1
  unfolding recover
  recover-ranked node = ((refl, refl), tt)

  losses-ranked : (ls : List Request) → Ranked now 3 (map (λ r. On now b.setup.number r.node (loser_told b r)) ls)
  losses-ranked [] = tt
  losses-ranked (r ∷ ls) = ((refl, go (discards b r)), losses-ranked ls)
    where
      go : (t : Bool) → rank_told (if t then LostGone r.frame else LostKept r.frame) ≡ 3
      go true = refl
      go false = refl

  start-ranked : Ranked now 3 (start b now).1
  unfolding start
  start-ranked = go (winner b now)
    where
      go : (o : Option Request) → Ranked now 3 (start_with b now o).1
      go None = tt
      go (Some w) = ((refl, refl), losses-ranked (losers b now w.node))

-- lines in order behind one of this moment and kind
abbrev rank_after : ℕ → Line → ℕ
rank_after r (On t bus node told) = rank_told told
rank_after r (Down t node cause) = r
rank_after r (Over t node) = r
rank_after r (End status events) = r

abbrev IsOrdered : ℕ → ℕ → Line → Type 0
IsOrdered last r (On t bus node told) = t ≡ last → r ≤ rank_told told
IsOrdered last r (Down t node cause) = ⊤
IsOrdered last r (Over t node) = ⊤
IsOrdered last r (End status events) = ⊤

abbrev Ordered : ℕ → ℕ → List Line → Type 0
Ordered last r [] = ⊤
Ordered last r (line ∷ lines) = IsOrdered last r line × Ordered (moment_after last line) (rank_after r line) lines

ordered-append : (xs ys : List Line) (last r : ℕ) → Ordered last r xs → Ordered (fold moment_after last xs) (fold rank_after r xs) ys → Ordered last r (xs ++ ys)
ordered-append [] ys last r h k = k
ordered-append (x ∷ xs) ys last r h k = (h.0, ordered-append xs ys (moment_after last x) (rank_after r x) h.1 k)

line-ordered : (now s last r : ℕ) (line : Line) → IsRanked now s line → (now ≡ last → r ≤ s)
    → IsOrdered last r line × (moment_after last line ≡ now) × (rank_after r line ≡ s)
line-ordered now s last r (On t bus node told) h k = (λ e. let l = k (sym h.0 ∙ e) in omega (arith, l, h.1), h.0, h.1)
line-ordered now s last r (Down t node cause) h k = absurd h
line-ordered now s last r (Over t node) h k = absurd h
line-ordered now s last r (End status events) h k = absurd h

ranked-ordered : (now s : ℕ) (lines : List Line) (last r : ℕ) → Ranked now s lines → (now ≡ last → r ≤ s) → Ordered last r lines
ranked-ordered now s [] last r h k = tt
ranked-ordered now s (line ∷ lines) last r h k = let a = line-ordered now s last r line h.0 k in
    (a.0, ranked-ordered now s lines (moment_after last line) (rank_after r line) h.1 (λ e. omega (arith, a.2)))

ranked-last : (now s : ℕ) (lines : List Line) (last r : ℕ) → Ranked now s lines → Some_lines lines → (fold moment_after last lines ≡ now) × (fold rank_after r lines ≡ s)
ranked-last now s [] last r h k = absurd k
ranked-last now s (line ∷ []) last r h k = let a = line-ordered' now s last r line h.0 in (a.0, a.1)
  where
    line-ordered' : (now s last r : ℕ) (line : Line) → IsRanked now s line → (moment_after last line ≡ now) × (rank_after r line ≡ s)
    line-ordered' now s last r (On t bus node told) h = (h.0, h.1)
    line-ordered' now s last r (Down t node cause) h = absurd h
    line-ordered' now s last r (Over t node) h = absurd h
    line-ordered' now s last r (End status events) h = absurd h
ranked-last now s (line ∷ x ∷ lines) last r h k = ranked-last now s (x ∷ lines) (moment_after last line) (rank_after r line) h.1 tt

module _ (p : Scenario) (bit : 1 ≤ p.setup.nominal) where
  event-ranked : (w : World) (now : ℕ) (what : What) → RunWorld p w → Ranked now (rank what) (event_step w now what).1
  event-ranked w now Finish h = finish-ranked w.bus now
  event-ranked w now (Return n) h = recover-ranked w.bus now n
  event-ranked w now Notices h = nodes-ranked now (moment_step w now).1 (moment-renews p bit w now h).lines.lines
  event-ranked w now Start h = start-ranked w.bus now

  run-ordered : (k : ℕ) (w : World) (last r : ℕ) → RunWorld p w → ((d : Due) → next_event p.stop w ≡ Some d → d.moment ≡ last → r ≤ rank d.what) → Ordered last r (head (machine p.stop) k w)
  unfolding head
  run-ordered zero w last r h o = tt
  run-ordered (suc k) w last r h o = go (next_event p.stop w) refl (λ v l s i q. run-ordered k v l s i q)
    where
      go : (u : Option Due) → next_event p.stop w ≡ u
          → ((v : World) (l s : ℕ) → RunWorld p v → ((d : Due) → next_event p.stop v ≡ Some d → d.moment ≡ l → s ≤ rank d.what) → Ordered l s (head (machine p.stop) k v))
          → Ordered last r (then_from [] (λ x. x.1 ++ head (machine p.stop) k x.0) (option_map (world_behind w) u))
      go None e on = tt
      go (Some d) e on =
          let ranked = event-ranked w d.moment d.what h in
          let z = ranked-last d.moment (rank d.what) (event_step w d.moment d.what).1 last r ranked (event-some p.stop w d e) in
          let one : 1 ≤ w.bus.setup.nominal = subst (λ s. 1 ≤ s.nominal) (sym h.bus.setup) bit in
          ordered-append (event_step w d.moment d.what).1 (head (machine p.stop) k (world_behind w d).0) last r
          (ranked-ordered d.moment (rank d.what) (event_step w d.moment d.what).1 last r ranked (o d e))
          (subst (λ n. Ordered n (fold rank_after r (event_step w d.moment d.what).1) (head (machine p.stop) k (world_behind w d).0)) (sym z.0)
          (subst (λ s. Ordered d.moment s (head (machine p.stop) k (world_behind w d).0)) (sym z.1)
          (on (world_behind w d).0 d.moment (rank d.what) (after-sound p w d e h) (settled p.stop w d e one))))

ordered-at : (before rest : List Line) (x y : Line) (last r : ℕ) → Ordered last r (before ++ x ∷ y ∷ rest)
    → (l s : ℕ) × IsOrdered (moment_after l x) (rank_after s x) y
ordered-at [] rest x y last r h = (last, r, h.1.0)
ordered-at (z ∷ before) rest x y last r h = ordered-at before rest x y (moment_after last z) (rank_after r z) h.1

pub kinds-in-order : (k : ℕ) (p : Scenario) → IsScenario p → 1 ≤ p.setup.nominal → KindsInOrder (scenario_lines k p)
kinds-in-order k p h bit before rest t b n c m first second e =
    (ordered-at before rest (On t b n first) (On t c m second) 0 0 (subst (Ordered 0 0) e
    (ordered-append (head (machine p.stop) k (opening p)) (End (status (next_event p.stop (behind (machine p.stop) k (opening p)))) (behind (machine p.stop) k (opening p)).events ∷ []) 0 0
    (run-ordered p bit k (opening p) 0 0 (opening-sound p h) (λ d x y. omega arith)) (tt, tt)))).2 refl
