-- A start is of what nothing beats that waits of nodes able to start.
use Rattle.std.proofs.Common.{◌≡◌, ℕ, ◌==◌, ◌&&◌, Bool, true, false, List, filter, Option, Some, None, All, Contains, is_some, sym, refl, ap, ◌∙◌, subst, eq-eqb}
use Rattle.std.proofs.lemmas.Bool.{both_ways, eqb-true, false_from_ne_true}
use Rattle.frame_specs.specs.Dominance.{beats}
use Rattle.bus_specs.specs.Bus.{Bus, Member, Request, able, offer, offers, winner, member_is}
use Rattle.bus_specs.specs.Start.{start, start_with, course, running_frame}
use Rattle.bus_sound.proofs.Among.{Among, among-Contains, Contains-among, filter-among, among-filter, filter_map-among, among-filter_map}
use Rattle.bus_sound.proofs.Lists.{All-each}
use Rattle.bus_sound.proofs.Members.{is_to, is_from}
use Rattle.bus_sound.proofs.Orders.{foremost-some, foremost-among, foremost-unbeaten}
use Rattle.bus_sound.proofs.Foremost.{better, beats-order}
use Rattle.bus_sound.proofs.Consequences.{start-wins}
use Rattle.world_specs.specs.World.{World}
use Rattle.world_specs.specs.Next.{Start, at, next_event}
use Rattle.world_specs.specs.Fits.{Fits}
use Rattle.world_laws.specs.Starts.{is_able, IsForemostStart}
use Rattle.world_laws.proofs.Dues.{own-start}

-- what a node offers waits, and is its own
pub offer-waits : (rs : List Request) (node : ℕ) (q : Request) → offer rs node ≡ Some q → Among rs q × (q.node ≡ node)
offer-waits rs node q e =
    let r = filter-among (λ (r : Request). r.node == node) rs q (foremost-among better (filter (λ r. r.node == node) rs) q e) in
    (r.0, eqb-true q.node node r.1)

pub offers-wait : (b : Bus) (t : ℕ) (q : Request) → Among (offers b t) q → Among b.requests q
offers-wait b t q a = let r = filter_map-among (λ (m : Member). offer b.requests m.node) (filter (able b t) b.members) q a in (offer-waits b.requests (r.0).node q r.2).0

module _ (b : Bus) (t : ℕ) where
  offered-able : (q : Request) → Among (offers b t) q → is_able b t q.node ≡ true
  offered-able q a =
      let r = filter_map-among (λ (m : Member). offer b.requests m.node) (filter (able b t) b.members) q a in
      let f = filter-among (able b t) b.members r.0 r.1 in
      is_from (able b t) b.members r.0 q.node f.0 (sym (offer-waits b.requests (r.0).node q r.2).1) f.1

  -- nothing that waits of an able node beats an offer that no offer beats
  unbeaten : (q : Request) → winner b t ≡ Some q → (r : Request) → Among b.requests r → is_able b t r.node ≡ true → beats r.frame q.frame ≡ false
  unfolding winner
  unbeaten q e r a h =
      let i = is_to (able b t) b.members r.node h in
      go i.member i.among i.node i.holds (offer b.requests (i.member).node) refl
    where
      own : (node : ℕ) → node ≡ r.node → Among (filter (λ (x : Request). x.node == node) b.requests) r
      own node s = among-filter (λ (x : Request). x.node == node) b.requests r a (eq-eqb r.node node (sym s))

      go : (m : Member) → Among b.members m → m.node ≡ r.node → able b t m ≡ true → (o : Option Request) → offer b.requests m.node ≡ o → beats r.frame q.frame ≡ false
      go m c s i None p = absurd (both_ways false refl (sym (ap is_some p) ∙ foremost-some better (filter (λ x. x.node == m.node) b.requests) r (own m.node s)))
      go m c s i (Some o) p = false_from_ne_true (beats r.frame q.frame) (λ w.
          let offered : Among (offers b t) o = among-filter_map (λ (x : Member). offer b.requests x.node) (filter (able b t) b.members) m o (among-filter (able b t) b.members m c i) p in
          let behind : better o q ≡ false = foremost-unbeaten better beats-order (offers b t) q o e offered in
          let first : better r o ≡ false = foremost-unbeaten better beats-order (filter (λ x. x.node == m.node) b.requests) o r p (own m.node s) in
          both_ways (better r o) first (beats-order.over r o q w behind))

  wins : (q : Request) → winner b t ≡ Some q → IsForemostStart b t q
  unfolding winner start
  wins q e =
      let a : Among (offers b t) q = foremost-among better (offers b t) q e in record {
        waits = Contains-among b.requests q (offers-wait b t q a);
        able = offered-able q a;
        unbeaten = All-each (λ r. is_able b t r.node ≡ true → beats r.frame q.frame ≡ false) b.requests (unbeaten q e);
        frame = running_frame q (course b t q);
        runs = ap (λ o. (start_with b t o).0.running) e;
        own = refl;
        sender = refl;
        number = refl;
      }

pub start-foremost : {S : Type 0} (stop t : ℕ) (w : World S) (b : Bus) → Fits w → Contains w.buses b → next_event stop w ≡ Some (at (Start b.setup.number) t)
    → (q : Request) × IsForemostStart b t q
start-foremost stop t w b h c n =
    go (winner b t) refl (start-wins b w.now t (own-start stop w b.setup.number t n h.bus_numbers b (among-Contains w.buses b c) refl))
  where
    go : (o : Option Request) → winner b t ≡ o → is_some o ≡ true → (q : Request) × IsForemostStart b t q
    go None p i = absurd (both_ways false refl i)
    go (Some q) p i = (q, wins b t q p)
