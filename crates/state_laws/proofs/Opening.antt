-- The network of a plan as it opens: its bits are short, its nodes are new, and the only event that is enabled is the first sessions.
use Rattle.std.proofs.Common.{◌≡◌, ◌≤◌, ℕ, zero, suc, ◌+◌, ◌*◌, ◌^◌, ◌⊎◌, Bool, true, false, List, [], ◌∷◌, ◌++◌, map, filter, Option, Some}
use Rattle.std.proofs.Common.{None, All, arith, sym, refl, ap, subst, inl, inr}
use Rattle.std.specs.Prelude.{is_some, option_map, flat_map, max}
use Rattle.bus_specs.specs.Bus.{Bus, Setup, Member, new_bus, new_member, data_bit, wants, ready_moment}
use Rattle.bus_specs.specs.Finish.{return_moment}
use Rattle.bus_specs.specs.Due.{Due, Notices, Return, Start, at, notices, returns, starts, dues, notice_moments}
use Rattle.bus_sound.proofs.Among.{Among, filter-among, filter_map-among}
use Rattle.bus_sound.proofs.Lists.{All-each, map-among, append-among, flat_map-among}
use Rattle.world_specs.specs.World.{Node, Standing, New}
use Rattle.world_specs.specs.Next.{Event, Sessions, of_standing, next_event}
use Rattle.world_specs.specs.Next as next
use Rattle.world_specs.specs.Plan.{BusPlan, NodePlan, Plan, IsBitTime, IsDataBitTime, IsBusPlan, AllFrom, IsPlan, new_nodes, opening_of}
use Rattle.world_laws.proofs.Sources.{Source, OfBus, OfMail, OfNode, source}
use Rattle.world_laws.proofs.Order.{next-among}
use Rattle.state_laws.specs.Words.{Bounded}
use Rattle.state_laws.proofs.Bounds.{new_bus-bounded}

-- ---- bits

grows : (t r : ℕ) → t ≤ t * suc r
grows zero r = omega arith
grows (suc t) r = let h = grows t r in omega (arith, h)

bit-low : (resolution rate ticks : ℕ) → IsBitTime resolution rate ticks → ticks ≤ resolution
bit-low resolution rate ticks h = go rate h.in_range.0 h.exact
  where
    go : (r : ℕ) → 1 ≤ r → ticks * r ≡ resolution → ticks ≤ resolution
    go zero l e = absurd (omega (arith, l))
    go (suc r) l e = let g = grows ticks r in omega (arith, g, e)

data_bit-low : (resolution : ℕ) (s : Setup) → IsBitTime resolution s.rate s.nominal → IsDataBitTime resolution s.fd_rate s.data_bit_time
    → data_bit (new_bus s []) ≤ resolution
data_bit-low resolution s n d = go s.fd_rate s.data_bit_time d
  where
    go : (rate ticks : Option ℕ) → IsDataBitTime resolution rate ticks
        → data_bit (new_bus (record s { data_bit_time = ticks }) []) ≤ resolution
    go None None h = bit-low resolution s.rate s.nominal n
    go (Some r) (Some t) h = bit-low resolution r t h
    go None (Some t) h = absurd h
    go (Some r) None h = absurd h

from-among : {X : Type 0} (i : ℕ) (P : ℕ → X → Type 0) (xs : List X) (x : X) → AllFrom i P xs → Among xs x → (k : ℕ) × P k x
from-among i P [] x h a = absurd a
from-among i P (y ∷ xs) x h (inl e) = (i, subst (P i) e h.0)
from-among i P (y ∷ xs) x h (inr a) = from-among (i + 1) P xs x h.1 a

-- in a plan of a network each bit lasts at most a second of 10^12 ticks
pub plan-bits : (p : Plan) → IsPlan p → (b : BusPlan) → Among p.buses b
    → (b.setup.nominal ≤ 10 ^ 12) × (data_bit (new_bus b.setup b.members) ≤ 10 ^ 12)
plan-bits p ok b a =
    let q = from-among 0 (IsBusPlan p) p.buses b ok.buses a in
    let m = ok.resolution.1 in
    let n = bit-low p.resolution b.setup.rate b.setup.nominal (q.1).rate in
    let d = data_bit-low p.resolution b.setup (q.1).rate (q.1).fd_rate in
    (omega (arith, m, n), omega (arith, m, d))

pub opens-bounded : {S : Type 0} (p : Plan) (states : List S) (limit ids : ℕ) → IsPlan p
    → All (Bounded limit (10 ^ 12) ids) (opening_of p states).buses
opens-bounded p states limit ids ok = All-each (Bounded limit (10 ^ 12) ids) (map (λ b. new_bus b.setup b.members) p.buses)
    (λ b a. let r = map-among (λ b. new_bus b.setup b.members) p.buses b a in
    let q = plan-bits p ok r.0 r.1 in
    subst (Bounded limit (10 ^ 12) ids) r.2 (new_bus-bounded limit (10 ^ 12) ids (r.0).setup (r.0).members q.0 q.1))

-- ---- nodes

-- each is new
pub record IsFresh {S : Type 0} (n : Node S) : Type 0 where
  pub state : S
  pub standing : n.standing ≡ New state

pub fresh : {S : Type 0} (i : ℕ) (ns : List NodePlan) (ss : List S) (n : Node S) → Among (new_nodes i ns ss) n → IsFresh n
fresh i [] ss n a = absurd a
fresh i (m ∷ ns) [] n a = absurd a
fresh i (m ∷ ns) (s ∷ ss) n (inl e) = record { state = s; standing = ap (λ (x : Node _). x.standing) (sym e) }
fresh i (m ∷ ns) (s ∷ ss) n (inr a) = fresh (i + 1) ns ss n a

-- ---- nothing is due on its buses

module _ (s : Setup) (nodes : List ℕ) where
  no-return : (m : Member) → Among (map new_member nodes) m → (d : Due)
      → option_map (λ seen. at (Return m.node) (return_moment (new_bus s nodes) seen)) m.occurrences ≡ Some d → ⊥
  no-return m a d e = let r = map-among new_member nodes m a in none m.occurrences (subst (λ (m : Member). m.occurrences ≡ None) r.2 refl) e
    where
      none : (o : Option ℕ) → o ≡ None → option_map (λ seen. at (Return m.node) (return_moment (new_bus s nodes) seen)) o ≡ Some d → ⊥
      none None q e = absurd cc
      none (Some n) q e = absurd cc

  no-notice : (m : Member) → Among (map new_member nodes) m → (t : ℕ) → Among (notice_moments m) t → ⊥
  no-notice m a t c = let r = map-among new_member nodes m a in
      none (notice_moments m) (subst (λ (m : Member). notice_moments m ≡ []) r.2 refl) c
    where
      none : (ts : List ℕ) → ts ≡ [] → Among ts t → ⊥
      none [] q c = absurd c
      none (x ∷ ts) q c = absurd cc

  no-start : (m : Member) → Among (map new_member nodes) m → wants (new_bus s nodes) m ≡ true → ⊥
  no-start m a e = let r = map-among new_member nodes m a in let q = subst (λ (m : Member). wants (new_bus s nodes) m ≡ false) r.2 refl in
      both (wants (new_bus s nodes) m) q e
    where
      both : (t : Bool) → t ≡ false → t ≡ true → ⊥
      both t p q = absurd cc

  no-mail : (m : Member) → Among (map new_member nodes) m → is_some m.mail ≡ true → ⊥
  no-mail m a e = let r = map-among new_member nodes m a in let q = subst (λ (m : Member). is_some m.mail ≡ false) r.2 refl in
      both (is_some m.mail) q e
    where
      both : (t : Bool) → t ≡ false → t ≡ true → ⊥
      both t p q = absurd cc

  no-due : (d : Due) → Among (dues (new_bus s nodes) 0 None) d → ⊥
  no-due d a = first (append-among (returns b ++ notices b) (starts b 0) d a)
    where
      b : Bus
      b = new_bus s nodes

      second : Among (returns b) d ⊎ Among (notices b) d → ⊥
      second (inl c) =
          let r = filter_map-among
          (λ (m : Member). option_map (λ seen. at (Return m.node) (return_moment b seen)) m.occurrences) b.members d c in
          no-return r.0 r.1 d r.2
      second (inr c) =
          let r = map-among (at Notices) (flat_map notice_moments b.members) d c in
          let f = flat_map-among notice_moments b.members r.0 r.1 in
          no-notice f.0 f.1 r.0 f.2

      first : Among (returns b ++ notices b) d ⊎ Among (starts b 0) d → ⊥
      first (inl c) = second (append-among (returns b) (notices b) d c)
      first (inr c) =
          let r = map-among (λ m. at Start (max 0 (ready_moment b m))) (filter (wants b) b.members) d c in
          let f = filter-among (wants b) b.members r.0 r.1 in
          no-start r.0 f.0 f.1

-- ---- the first event

pub first-event : {S : Type 0} (p : Plan) (states : List S) (stop : ℕ) (e : Event) → next_event stop (opening_of p states) ≡ Some e
    → e ≡ next.at Sessions 0
first-event {S} p states stop e n = go (source (opening_of p states) e (next-among stop (opening_of p states) e n))
  where
    quiet : (b : Bus) → (x : BusPlan) × Among p.buses x × (new_bus x.setup x.members ≡ b) → (d : Due) → Among (dues b 0 b.running) d → ⊥
    quiet b r d c = no-due (r.0).setup (r.0).members d (subst (λ (x : Bus). Among (dues x 0 x.running) d) (sym r.2) c)

    silent : (b : Bus) → (x : BusPlan) × Among p.buses x × (new_bus x.setup x.members ≡ b) → (m : Member) → Among b.members m
        → is_some m.mail ≡ true → ⊥
    silent b r m c i = no-mail (r.0).setup (r.0).members m (subst (λ (x : Bus). Among x.members m) (sym r.2) c) i

    of-new : (n : Node S) → IsFresh n → Among (of_standing 0 n.standing) e → e ≡ next.at Sessions 0
    of-new n f c = only (subst (λ (x : Standing S). Among (of_standing 0 x) e) f.standing c)
      where
        only : Among (next.at Sessions 0 ∷ []) e → e ≡ next.at Sessions 0
        only (inl q) = sym q
        only (inr q) = absurd q

    go : Source (opening_of p states) e → e ≡ next.at Sessions 0
    go (OfBus b a d c q) = absurd (quiet b (map-among (λ b. new_bus b.setup b.members) p.buses b a) d c)
    go (OfMail b a m c i q) = absurd (silent b (map-among (λ b. new_bus b.setup b.members) p.buses b a) m c i)
    go (OfNode n a c) = of-new n (fresh 0 p.nodes states n a) c
