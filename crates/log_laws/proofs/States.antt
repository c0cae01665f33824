-- The state lines of a finish: which levels are seen behind them, and what waits.
use Rattle.std.proofs.Common.{◌≡◌, ℕ, ◌+◌, ◌≤◌, ◌==◌, Bool, true, false, not, if◌then◌else◌, List, [], ◌∷◌, ◌++◌, map, filter, arith, refl, ap, ◌∙◌, sym, subst, inl, inr, eq-eqb}
use Rattle.std.specs.Prelude.{◌&&◌, ◌||◌, flat_map}
use Rattle.std.specs.List.{list_any}
use Rattle.std.proofs.lemmas.Bool.{both_ways, eqb-true, false_from_ne_true}
use Rattle.operation_specs.specs.Operation.{Declared, Active, Passive, Off}
use Rattle.bus_specs.specs.Counters.{level}
use Rattle.bus_specs.specs.Bus.{Bus, Member, Request, Running, off, member_is}
use Rattle.bus_specs.specs.Finish.{same_level, counters_after, member_after_finish, state_lines}
use Rattle.bus_specs.specs.Sound.{Sound, Rise}
use Rattle.bus_specs.specs.Waits.{Waiting, waiting_of, at_level}
use Rattle.log_specs.specs.Line.{Line, On, State}
use Rattle.bus_sound.proofs.Among.{Among}
use Rattle.bus_sound.proofs.Consequences.{waits-live}
use Rattle.log_laws.specs.Mirror.{Seen, Mirror, mirror_after, with_node}
use Rattle.log_laws.proofs.Rows.{filter-map, filter-same, filter-all, filter-both, map-map, map-among-same, any-map, any-same, rise-after}
use Rattle.log_laws.proofs.Firsts.{shown}
use Rattle.log_laws.proofs.Lawful.{Opens, Within, seen, follow}
use Rattle.log_laws.proofs.Known.{own, level-off}

level-same : (k l : Declared) → same_level k l ≡ true → k ≡ l
level-same Active Active e = refl
level-same Active Passive e = absurd cc
level-same Active Off e = absurd cc
level-same Passive Active e = absurd cc
level-same Passive Passive e = refl
level-same Passive Off e = absurd cc
level-same Off Active e = absurd cc
level-same Off Passive e = absurd cc
level-same Off Off e = refl

falls-level : (k l : Declared) → same_level k Off ≡ false → (not (same_level k l) && same_level l Off) ≡ same_level l Off
falls-level Active Active e = refl
falls-level Active Passive e = refl
falls-level Active Off e = refl
falls-level Passive Active e = refl
falls-level Passive Passive e = refl
falls-level Passive Off e = refl
falls-level Off l e = absurd cc

module _ (b : Bus) (now : ℕ) (r : Running) where
  after : Member → Declared
  after y = level (counters_after r y)

  stays : Member → Bool
  stays y = same_level (level y.counters) (level (counters_after r y))

  -- this member goes off, and the request is of it
  pub falls : Request → Member → Bool
  falls q y = (q.node == y.node) && (not (same_level (level y.counters) (level (counters_after r y))) && same_level (level (counters_after r y)) Off)

  upd : Member → Seen → Seen
  upd y z = if same_level (level y.counters) (level (counters_after r y)) then z else (if z.node == y.node then record z { level = level (counters_after r y) } else z)

  pub each : List Member → Seen → Seen
  each [] z = z
  each (y ∷ ys) z = each ys (upd y z)

  abbrev pub lines_of : List Member → List Line
  lines_of ys = flat_map (state_lines b now r) ys

  pub record Behind (x : Mirror) (ys : List Member) (rs : List Request) (rest : List Line) : Type 0 where
    pub mirror : follow b.setup x (lines_of ys) ≡ record x { nodes = map (each ys) x.nodes; waits = waiting_of (filter (λ q. not (list_any (falls q) ys)) rs) }
    pub lawful : Within b.setup x (lines_of ys) rest
    pub opens : Opens (lines_of ys ++ rest)

  map-id : (xs : List Seen) → xs ≡ map (λ z. each [] z) xs
  unfolding each
  map-id [] = refl
  map-id (x ∷ xs) = ap (λ l. x ∷ l) (map-id xs)

  set : (x : Mirror) (ns ms : List Seen) (ws vs : List Waiting) → ns ≡ ms → ws ≡ vs → ◌≡◌ {A = Mirror} (record x { nodes = ns; waits = ws }) (record x { nodes = ms; waits = vs })
  set x ns ms ws vs e f = rw (e, f) refl

  fall-level : (l : Declared) (n : ℕ) (ws : List Waiting) (rs : List Request) → ws ≡ waiting_of rs
      → at_level n ws l ≡ waiting_of (filter (λ q. not ((q.node == n) && (true && same_level l Off))) rs)
  fall-level Active n ws rs e = e ∙ ap waiting_of (sym (filter-all (λ q. not ((q.node == n) && false)) rs (λ q a. never (q.node == n))))
    where
      never : (t : Bool) → not (t && false) ≡ true
      never true = refl
      never false = refl
  fall-level Passive n ws rs e = e ∙ ap waiting_of (sym (filter-all (λ q. not ((q.node == n) && false)) rs (λ q a. never (q.node == n))))
    where
      never : (t : Bool) → not (t && false) ≡ true
      never true = refl
      never false = refl
  fall-level Off n ws rs e = ap (filter (λ w. not (w.node == n))) e ∙ filter-map (λ w. not (w.node == n)) shown rs
      ∙ ap waiting_of (filter-same (λ (q : Request). not (q.node == n)) (λ q. not ((q.node == n) && true)) rs (λ q a. only (q.node == n)))
    where
      only : (t : Bool) → not t ≡ not (t && true)
      only true = refl
      only false = refl

  pub told-states : (ys : List Member) (x : Mirror) (rs : List Request) (rest : List Line) → x.waits ≡ waiting_of rs → Opens rest → Behind x ys rs rest
  unfolding each upd falls
  told-states [] x rs rest e o = record {
    mirror = set x x.nodes (map (λ z. each [] z) x.nodes) x.waits (waiting_of (filter (λ q. not (list_any (falls q) [])) rs)) (map-id x.nodes)
        (e ∙ ap waiting_of (sym (filter-all (λ q. not (list_any (falls q) [])) rs (λ q a. refl))));
    lawful = tt;
    opens = o;
  }
  told-states (y ∷ ys) x rs rest e o = go (same_level (level y.counters) (level (counters_after r y))) refl (λ z qs k. told-states ys z qs rest k o)
    where
      head-falls : Request → Bool
      head-falls q = (q.node == y.node) && (not (same_level (level y.counters) (level (counters_after r y))) && same_level (level (counters_after r y)) Off)

      both : (t u : Bool) → (not t && not u) ≡ not (t || u)
      both true u = refl
      both false u = refl

      joined : (qs : List Request) → qs ≡ filter (λ q. not (head-falls q)) rs
          → filter (λ q. not (list_any (falls q) ys)) qs ≡ filter (λ q. not (list_any (falls q) (y ∷ ys))) rs
      joined qs k = ap (filter (λ q. not (list_any (falls q) ys))) k
          ∙ sym (filter-both (λ q. not (head-falls q)) (λ q. not (list_any (falls q) ys)) rs)
          ∙ filter-same (λ q. not (head-falls q) && not (list_any (falls q) ys)) (λ q. not (list_any (falls q) (y ∷ ys))) rs (λ q a. both (head-falls q) (list_any (falls q) ys))

      no-fall : (t : Bool) → not (t && false) ≡ true
      no-fall true = refl
      no-fall false = refl

      go : (t : Bool) → same_level (level y.counters) (level (counters_after r y)) ≡ t
          → ((z : Mirror) (qs : List Request) → z.waits ≡ waiting_of qs → Behind z ys qs rest) → Behind x (y ∷ ys) rs rest
      go true t on =
          let k = on x rs e in
          let none : state_lines b now r y ≡ [] = rw t refl in
          let quiet : filter (λ q. not (head-falls q)) rs ≡ rs = rw t (filter-all (λ q. not ((q.node == y.node) && false)) rs (λ q a. no-fall (q.node == y.node))) in
          let same : (z : Seen) → each ys z ≡ each (y ∷ ys) z = λ z. rw t refl in
          record {
            mirror = ap (λ l. follow b.setup x (l ++ lines_of ys)) none ∙ k.mirror
                ∙ set x (map (each ys) x.nodes) (map (each (y ∷ ys)) x.nodes) (waiting_of (filter (λ q. not (list_any (falls q) ys)) rs))
                (waiting_of (filter (λ q. not (list_any (falls q) (y ∷ ys))) rs))
                (map-among-same (each ys) (each (y ∷ ys)) x.nodes (λ z a. same z)) (ap waiting_of (joined rs (sym quiet)));
            lawful = subst (λ l. Within b.setup x (l ++ lines_of ys) rest) (sym none) k.lawful;
            opens = subst (λ l. Opens ((l ++ lines_of ys) ++ rest)) (sym none) k.opens;
          }
      go false t on =
          let l : Declared = level (counters_after r y) in
          let one : state_lines b now r y ≡ On now b.setup.number y.node (State l) ∷ [] = rw t refl in
          let z : Mirror = record x { nodes = with_node y.node (λ v. record v { level = l }) x.nodes; waits = at_level y.node x.waits l } in
          let step : mirror_after b.setup x (On now b.setup.number y.node (State l)) ≡ z = own b.setup x now y.node (State l) in
          let ws : z.waits ≡ waiting_of (filter (λ q. not (head-falls q)) rs) = rw t (fall-level l y.node x.waits rs e) in
          let k = on z (filter (λ q. not (head-falls q)) rs) ws in
          let whole : map (each ys) (with_node y.node (λ v. record v { level = l }) x.nodes) ≡ map (each (y ∷ ys)) x.nodes =
          map-map (each ys) (λ v. if v.node == y.node then record v { level = l } else v) x.nodes
          ∙ map-among-same (λ v. each ys (if v.node == y.node then record v { level = l } else v)) (each (y ∷ ys)) x.nodes (λ v a. rw t refl) in
          record {
            mirror = ap (λ ls. follow b.setup x (ls ++ lines_of ys)) one ∙ ap (λ v. follow b.setup v (lines_of ys)) step ∙ k.mirror
                ∙ set x (map (each ys) z.nodes) (map (each (y ∷ ys)) x.nodes) (waiting_of (filter (λ q. not (list_any (falls q) ys)) (filter (λ q. not (head-falls q)) rs)))
                (waiting_of (filter (λ q. not (list_any (falls q) (y ∷ ys))) rs)) whole (ap waiting_of (joined (filter (λ q. not (head-falls q)) rs) refl));
            lawful = subst (λ ls. Within b.setup x (ls ++ lines_of ys) rest) (sym one) (k.opens.loss, subst (λ v. Within b.setup v (lines_of ys) rest) (sym step) k.lawful);
            opens = subst (λ ls. Opens ((ls ++ lines_of ys) ++ rest)) (sym one) (record { loss = refl; hurt = refl });
          }

  -- a member of another node changes nothing of this one
  each-other : (ys : List Member) (z : Seen) → ((y : Member) → Among ys y → (z.node == y.node) ≡ false) → each ys z ≡ z
  unfolding each upd
  each-other [] z h = refl
  each-other (y ∷ ys) z h = ap (each ys) (go (same_level (level y.counters) (level (counters_after r y)))) ∙ each-other ys z (λ v a. h v (inr a))
    where
      go : (t : Bool) → (if t then z else (if z.node == y.node then record z { level = level (counters_after r y) } else z)) ≡ z
      go true = refl
      go false = rw (h y (inl refl)) refl

  upd-itself : (y : Member) → upd y (seen y) ≡ seen (member_after_finish r y)
  unfolding upd
  upd-itself y = go (same_level (level y.counters) (level (counters_after r y))) refl
    where
      go : (t : Bool) → same_level (level y.counters) (level (counters_after r y)) ≡ t
          → (if t then seen y else (if y.node == y.node then record (seen y) { level = level (counters_after r y) } else seen y)) ≡ seen (member_after_finish r y)
      go true e = ap (λ l. record (seen y) { level = l }) (level-same (level y.counters) (level (counters_after r y)) e)
      go false e = rw (eq-eqb y.node y.node refl) refl

  upd-other : (y : Member) (z : Seen) → (z.node == y.node) ≡ false → upd y z ≡ z
  unfolding upd
  upd-other y z h = go (same_level (level y.counters) (level (counters_after r y)))
    where
      go : (t : Bool) → (if t then z else (if z.node == y.node then record z { level = level (counters_after r y) } else z)) ≡ z
      go true = refl
      go false = rw h refl

  each-at : (ys : List Member) (from below : ℕ) (y : Member) → Rise from (map (λ (x : Member). x.node) ys) below → Among ys y → each ys (seen y) ≡ seen (member_after_finish r y)
  unfolding each
  each-at [] from below y h a = absurd a
  each-at (x ∷ ys) from below y h (inl e) =
      ap (λ v. each ys (upd x (seen v))) (sym e) ∙ ap (each ys) (upd-itself x)
      ∙ each-other ys (seen (member_after_finish r x)) (λ v a. false_from_ne_true (x.node == v.node) (λ t.
      let s : x.node ≡ v.node = eqb-true x.node v.node t in
      let l : x.node + 1 ≤ v.node = rise-after (λ (m : Member). m.node) (x.node + 1) ys v below h.1 a in omega (arith, s, l)))
      ∙ ap (λ v. seen (member_after_finish r v)) e
  each-at (x ∷ ys) from below y h (inr a) =
      ap (each ys) (upd-other x (seen y) (false_from_ne_true (y.node == x.node) (λ t.
      let s : y.node ≡ x.node = eqb-true y.node x.node t in
      let l : x.node + 1 ≤ y.node = rise-after (λ (m : Member). m.node) (x.node + 1) ys y below h.1 a in omega (arith, s, l))))
      ∙ each-at ys (x.node + 1) below y h.1 a

  pub states-seen : (below : ℕ) → Rise 0 (map (λ (x : Member). x.node) b.members) below → map (each b.members) (map seen b.members) ≡ map seen (map (member_after_finish r) b.members)
  states-seen below h = map-map (each b.members) seen b.members
      ∙ map-among-same (λ y. each b.members (seen y)) (λ y. seen (member_after_finish r y)) b.members (λ y a. each-at b.members 0 below y h a)
      ∙ sym (map-map seen (member_after_finish r) b.members)

  -- what falls is what a node has that is off now
  pub falls-off : Sound b → (q : Request) → Among b.requests q → list_any (falls q) b.members ≡ member_is off (map (member_after_finish r) b.members) q.node
  unfolding falls
  falls-off sound q c = any-same (falls q) (λ y. (y.node == q.node) && off (member_after_finish r y)) b.members
      (λ y a. by y a (q.node == y.node) (y.node == q.node) refl refl)
      ∙ sym (any-map (λ y. (y.node == q.node) && off y) (member_after_finish r) b.members)
    where
      by : (y : Member) → Among b.members y → (t u : Bool) → (q.node == y.node) ≡ t → (y.node == q.node) ≡ u
          → (t && (not (same_level (level y.counters) (level (counters_after r y))) && same_level (level (counters_after r y)) Off)) ≡ (u && off (member_after_finish r y))
      by y a true true p s =
          let on : off y ≡ false = (waits-live b q y sound c a (eqb-true y.node q.node s)).1 in
          falls-level (level y.counters) (level (counters_after r y)) (level-off y.counters ∙ on) ∙ level-off (counters_after r y)
      by y a true false p s = absurd (both_ways (y.node == q.node) s (eq-eqb y.node q.node (sym (eqb-true q.node y.node p))))
      by y a false true p s = absurd (both_ways (q.node == y.node) p (eq-eqb q.node y.node (sym (eqb-true y.node q.node s))))
      by y a false false p s = refl
