-- Who calls for sessions: the nodes of a network, by the standings and the clock entries of the code.
use Rattle.std.proofs.Common.{◌≡◌, ◌⊎◌, ℕ, zero, suc, ◌+◌, ◌*◌, true, false, List, [], ◌∷◌, drop, filter_map, length, map, take, All, Option, Some, None, arith, sym, refl, ap, subst, inl, inr}
use Rattle.std.proofs.lemmas.Bool.{both_ways, or_cases, or_left, or_right}
use Rattle.std.proofs.lemmas.List.{length-drop}
use Rattle.bus_specs.specs.Bus.{Bus}
use Rattle.bus_sound.proofs.Among.{Among, among-filter_map, filter_map-among}
use Rattle.bus_sound.proofs.Lists.{each-All, among-map, map-among}
use Rattle.world_specs.specs.World.{Node}
use Rattle.world_specs.specs.Next.{Event, Sessions, at, of_standing}
use Rattle.world_specs.specs.Plan.{NodePlan}
use Rattle.world_specs.specs.Sessions.{is_new}
use Rattle.world_specs.specs.Fits.{is_live}
use Rattle.world_core.specs.declared.standing.Standing.{Standing}
use Rattle.world_core.specs.declared.standing.Standing.TheVariants.{New, Live, Down, Over}
use Rattle.world_core.specs.Courses.{standing_of, nodes_from}
use Rattle.world_core.specs.Kept.{unused, AreUnset}
use Rattle.world_core.specs.First.{waits, calls_now, any_calls}

-- ---- fronts and rests

among-take : {X : Type 0} (k : ℕ) (xs : List X) (x : X) → Among (take k xs) x → Among xs x
among-take zero xs x a = absurd a
among-take (suc k) [] x a = absurd a
among-take (suc k) (y ∷ xs) x (inl e) = inl e
among-take (suc k) (y ∷ xs) x (inr a) = inr (among-take k xs x a)

among-drop : {X : Type 0} (k : ℕ) (xs : List X) (x : X) → Among (drop k xs) x → Among xs x
among-drop zero xs x a = a
among-drop (suc k) [] x a = absurd a
among-drop (suc k) (y ∷ xs) x a = inr (among-drop k xs x a)

front-or-rest : {X : Type 0} (k : ℕ) (xs : List X) (x : X) → Among xs x → Among (take k xs) x ⊎ Among (drop k xs) x
front-or-rest zero xs x a = inr a
front-or-rest (suc k) [] x a = absurd a
front-or-rest (suc k) (y ∷ xs) x (inl e) = inl (inl e)
front-or-rest {X} (suc k) (y ∷ xs) x (inr a) = go (front-or-rest k xs x a)
  where
    go : Among (take k xs) x ⊎ Among (drop k xs) x → Among (take (suc k) (y ∷ xs)) x ⊎ Among (drop (suc k) (y ∷ xs)) x
    go (inl b) = inl (inr b)
    go (inr b) = inr b

front-of-front : {X : Type 0} (k n : ℕ) (xs : List X) (x : X) → Among (take k (take n xs)) x → Among (take k xs) x
front-of-front zero n xs x a = absurd a
front-of-front (suc k) zero xs x a = absurd a
front-of-front (suc k) (suc n) [] x a = absurd a
front-of-front (suc k) (suc n) (y ∷ xs) x (inl e) = inl e
front-of-front (suc k) (suc n) (y ∷ xs) x (inr a) = inr (front-of-front k n xs x a)

unset-none : (cs : List (Option ℕ)) (t : ℕ) → All (λ c. c ≡ None) cs → Among cs (Some t) → ⊥
unset-none cs t h a = none (each-All (λ c. c ≡ None) cs (Some t) h a)
  where
    none : Some t ≡ None → ⊥
    none e = cc

-- ---- the nodes

-- a node is new, or the clocks are its own
tick-of : {S : Type 0} (now : ℕ) (s : Standing) (state : S) (cs : List (Option ℕ)) (e : Event) → Among (of_standing now (standing_of s state cs)) e
    → (is_new (standing_of s state cs) ≡ true) ⊎ ((e.what ≡ Sessions) × Among cs (Some e.moment))
tick-of now New state cs e a = inl refl
tick-of now (Live last) state cs e a =
    let r = map-among (at Sessions) (filter_map (λ c. c) cs) e a in
    let q = filter_map-among (λ (c : Option ℕ). c) cs r.0 r.1 in
    inr (ap (λ (x : Event). x.what) (sym r.2), subst (λ k. Among cs (Some k)) (ap (λ (x : Event). x.moment) r.2) (subst (Among cs) q.2 q.1))
tick-of now Down state cs e a = absurd a
tick-of now Over state cs e a = absurd a

-- what a node calls for is at once, or at a tick
pub node-tick : {S : Type 0} (now place : ℕ) (ns : List NodePlan) (ts : List Standing) (ss : List S) (cs : List (Option ℕ)) (n : Node S) (e : Event)
    → Among (nodes_from place ns ts ss cs) n → Among (of_standing now n.standing) e
    → (is_new n.standing ≡ true) ⊎ ((e.what ≡ Sessions) × Among cs (Some e.moment))
node-tick now place [] ts ss cs n e a k = absurd a
node-tick now place (p ∷ ns) [] ss cs n e a k = absurd a
node-tick now place (p ∷ ns) (t ∷ ts) [] cs n e a k = absurd a
node-tick {S} now place (p ∷ ns) (t ∷ ts) (s ∷ ss) cs n e (inl q) k =
    subst (λ (x : Node S). (is_new x.standing ≡ true) ⊎ ((e.what ≡ Sessions) × Among cs (Some e.moment))) q
    (go (tick-of now t s (take (length p.description.countdown) cs) e (subst (λ (x : Node S). Among (of_standing now x.standing) e) (sym q) k)))
  where
    go : (is_new (standing_of t s (take (length p.description.countdown) cs)) ≡ true) ⊎ ((e.what ≡ Sessions) × Among (take (length p.description.countdown) cs) (Some e.moment))
        → (is_new (standing_of t s (take (length p.description.countdown) cs)) ≡ true) ⊎ ((e.what ≡ Sessions) × Among cs (Some e.moment))
    go (inl h) = inl h
    go (inr h) = inr (h.0, among-take (length p.description.countdown) cs (Some e.moment) h.1)
node-tick now place (p ∷ ns) (t ∷ ts) (s ∷ ss) cs n e (inr a) k = go (node-tick now (place + 1) ns ts ss (drop 8 cs) n e a k)
  where
    go : (is_new n.standing ≡ true) ⊎ ((e.what ≡ Sessions) × Among (drop 8 cs) (Some e.moment)) → (is_new n.standing ≡ true) ⊎ ((e.what ≡ Sessions) × Among cs (Some e.moment))
    go (inl h) = inl h
    go (inr h) = inr (h.0, among-drop 8 cs (Some e.moment) h.1)

-- a clock that is set is one of a live node
clock-of : {S : Type 0} (now : ℕ) (p : NodePlan) (t : Standing) (s : S) (cs : List (Option ℕ)) (due : ℕ) → All (λ c. c ≡ None) (unused p t (take 8 cs))
    → Among (take 8 cs) (Some due) → Among (of_standing now (standing_of t s (take (length p.description.countdown) cs))) (at Sessions due)
clock-of now p New s cs due h a = absurd (unset-none (take 8 cs) due h a)
clock-of now p Down s cs due h a = absurd (unset-none (take 8 cs) due h a)
clock-of now p Over s cs due h a = absurd (unset-none (take 8 cs) due h a)
clock-of now p (Live last) s cs due h a = go (front-or-rest (length p.description.countdown) (take 8 cs) (Some due) a)
  where
    own : List (Option ℕ)
    own = take (length p.description.countdown) cs

    go : Among (take (length p.description.countdown) (take 8 cs)) (Some due) ⊎ Among (drop (length p.description.countdown) (take 8 cs)) (Some due)
        → Among (map (at Sessions) (filter_map (λ c. c) own)) (at Sessions due)
    go (inl b) = among-map (at Sessions) (filter_map (λ c. c) own) due
        (among-filter_map (λ (c : Option ℕ). c) own (Some due) due (front-of-front (length p.description.countdown) 8 cs (Some due) b) refl)
    go (inr b) = absurd (unset-none (drop (length p.description.countdown) (take 8 cs)) due h b)

-- one of the nodes calls for sessions then
pub record Called {S : Type 0} (now : ℕ) (nodes : List (Node S)) (moment : ℕ) : Type 0 where
  pub node : Node S
  pub among : Among nodes node
  pub calls : Among (of_standing now node.standing) (at Sessions moment)

pub clock-node : {S : Type 0} (now place : ℕ) (ns : List NodePlan) (ts : List Standing) (ss : List S) (cs : List (Option ℕ)) (due : ℕ)
    → length ts ≡ length ns → length ss ≡ length ns → length cs ≡ length ns * 8 → AreUnset ns ts cs → Among cs (Some due)
    → Called now (nodes_from place ns ts ss cs) due
clock-node now place [] ts ss [] due l m k h a = absurd a
clock-node now place [] ts ss (c ∷ cs) due l m k h a = absurd (omega (arith, k))
clock-node now place (p ∷ ns) [] ss cs due l m k h a = absurd (omega (arith, l))
clock-node now place (p ∷ ns) (t ∷ ts) [] cs due l m k h a = absurd (omega (arith, m))
clock-node {S} now place (p ∷ ns) (t ∷ ts) (s ∷ ss) cs due l m k h a = go (front-or-rest 8 cs (Some due) a)
    (λ b. clock-node now (place + 1) ns ts ss (drop 8 cs) due (omega (arith, l)) (omega (arith, m)) (omega (arith, k, length-drop 8 cs)) h.1 b)
  where
    go : Among (take 8 cs) (Some due) ⊎ Among (drop 8 cs) (Some due)
        → (Among (drop 8 cs) (Some due) → Called now (nodes_from (place + 1) ns ts ss (drop 8 cs)) due)
        → Called now (nodes_from place (p ∷ ns) (t ∷ ts) (s ∷ ss) cs) due
    go (inl b) on = record {
      node = record { number = place; buses = p.buses; standing = standing_of t s (take (length p.description.countdown) cs) };
      among = inl refl;
      calls = clock-of now p t s cs due h.0 b;
    }
    go (inr b) on = let r = on b in record { node = r.node; among = inr r.among; calls = r.calls }

-- ---- who calls at once

module _ {S : Type 0} (buses : List Bus) (now : ℕ) where
  calls-from : (place : ℕ) (t : Standing) (s : S) (cs : List (Option ℕ)) → calls_now buses now place t ≡ true
      → Among (of_standing now (standing_of t s cs)) (at Sessions now) ⊎ (waits buses now place ≡ true)
  calls-from place New s cs h = inl (inl refl)
  calls-from place (Live last) s cs h = inr h
  calls-from place Down s cs h = absurd (both_ways false refl h)
  calls-from place Over s cs h = absurd (both_ways false refl h)

  pub caller : (place : ℕ) (ns : List NodePlan) (ts : List Standing) (ss : List S) (cs : List (Option ℕ))
      → length ts ≡ length ns → length ss ≡ length ns → any_calls buses now place ts ≡ true
      → (n : Node S) × Among (nodes_from place ns ts ss cs) n × (Among (of_standing now n.standing) (at Sessions now) ⊎ (waits buses now n.number ≡ true))
  caller place ns [] ss cs l m h = absurd (both_ways false refl h)
  caller place [] (t ∷ ts) ss cs l m h = absurd (omega (arith, l))
  caller place (p ∷ ns) (t ∷ ts) [] cs l m h = absurd (omega (arith, m))
  caller place (p ∷ ns) (t ∷ ts) (s ∷ ss) cs l m h = go (or_cases (calls_now buses now place t) (any_calls buses now (place + 1) ts) h)
      (λ k. caller (place + 1) ns ts ss (drop 8 cs) (omega (arith, l)) (omega (arith, m)) k)
    where
      go : (calls_now buses now place t ≡ true) ⊎ (any_calls buses now (place + 1) ts ≡ true)
          → (any_calls buses now (place + 1) ts ≡ true
          → (n : Node S) × Among (nodes_from (place + 1) ns ts ss (drop 8 cs)) n × (Among (of_standing now n.standing) (at Sessions now) ⊎ (waits buses now n.number ≡ true)))
          → (n : Node S) × Among (nodes_from place (p ∷ ns) (t ∷ ts) (s ∷ ss) cs) n × (Among (of_standing now n.standing) (at Sessions now) ⊎ (waits buses now n.number ≡ true))
      go (inl k) on = (
        record { number = place; buses = p.buses; standing = standing_of t s (take (length p.description.countdown) cs) },
        inl refl,
        calls-from place t s (take (length p.description.countdown) cs) k,
      )
      go (inr k) on = let r = on k in (r.0, inr r.1, r.2)

  by-standing : (place : ℕ) (t : Standing) (s : S) (cs : List (Option ℕ))
      → (is_new (standing_of t s cs) ≡ true) ⊎ ((is_live (standing_of t s cs) ≡ true) × (waits buses now place ≡ true)) → calls_now buses now place t ≡ true
  by-standing place New s cs h = refl
  by-standing place (Live last) s cs (inl h) = absurd (both_ways false refl h)
  by-standing place (Live last) s cs (inr h) = h.1
  by-standing place Down s cs (inl h) = absurd (both_ways false refl h)
  by-standing place Down s cs (inr h) = absurd (both_ways false refl h.0)
  by-standing place Over s cs (inl h) = absurd (both_ways false refl h)
  by-standing place Over s cs (inr h) = absurd (both_ways false refl h.0)

  pub calls-by : (place : ℕ) (ns : List NodePlan) (ts : List Standing) (ss : List S) (cs : List (Option ℕ)) (n : Node S)
      → Among (nodes_from place ns ts ss cs) n → (is_new n.standing ≡ true) ⊎ ((is_live n.standing ≡ true) × (waits buses now n.number ≡ true))
      → any_calls buses now place ts ≡ true
  calls-by place [] ts ss cs n a h = absurd a
  calls-by place (p ∷ ns) [] ss cs n a h = absurd a
  calls-by place (p ∷ ns) (t ∷ ts) [] cs n a h = absurd a
  calls-by place (p ∷ ns) (t ∷ ts) (s ∷ ss) cs n (inl q) h = or_left (calls_now buses now place t) (any_calls buses now (place + 1) ts)
      (by-standing place t s (take (length p.description.countdown) cs)
      (subst (λ (x : Node S). (is_new x.standing ≡ true) ⊎ ((is_live x.standing ≡ true) × (waits buses now x.number ≡ true))) (sym q) h))
  calls-by place (p ∷ ns) (t ∷ ts) (s ∷ ss) cs n (inr a) h = or_right (calls_now buses now place t) (any_calls buses now (place + 1) ts)
      (calls-by (place + 1) ns ts ss (drop 8 cs) n a h)
