-- What is offered at a start, by the mirror and on the bus.
use Rattle.std.proofs.Common.{◌≡◌, ℕ, ◌+◌, ◌*◌, ◌==◌, Bool, true, false, not, cond, if◌then◌else◌, List, [], ◌∷◌, map, filter, filter_map, Option, Some, None, arith, refl, ap, ◌∙◌, sym, subst, inl, eq-eqb}
use Rattle.std.specs.Prelude.{◌&&◌, option_map, nat_le}
use Rattle.std.specs.List.{cons_option, list_any}
use Rattle.std.proofs.lemmas.Bool.{and_parts, and_from, both_ways, eqb-true, false_from_ne_true, true_from_ne_false}
use Rattle.frame_specs.specs.Dominance.{beats}
use Rattle.run_specs.specs.Order.{foremost, IsForemost}
use Rattle.bus_specs.specs.Bus.{Bus, Setup, Member, Request, off, passive, has_request, ready_moment, suspended, bits, is}
use Rattle.bus_specs.specs.Bus as bus
use Rattle.bus_specs.specs.Sound.{Rise}
use Rattle.bus_specs.specs.Waits.{Waiting, same_frame}
use Rattle.bus_sound.proofs.Among.{Among, filter-among, among-filter, filter_map-among}
use Rattle.bus_sound.proofs.Lists.{each-All, rise-filter, rise-lower, any_from}
use Rattle.bus_sound.proofs.Orders.{IsOrder, foremost-among, foremost-is}
use Rattle.bus_sound.proofs.Dominant.{beats_one_way, beats_over}
use Rattle.bus_sound.proofs.Foremost.{better, offer-is}
use Rattle.log_laws.specs.Mirror.{Seen, Mirror, takes_part, seen_is}
use Rattle.log_laws.specs.Starts.{stronger, ready_from, able, of_node, contenders}
use Rattle.log_laws.specs.Losers.{offers}
use Rattle.log_laws.proofs.Rows.{filter-map, filter-place, filter_map-by, any-map}
use Rattle.log_laws.proofs.Groups.{foremost-groups, foremost-map}
use Rattle.log_laws.proofs.Firsts.{First, shown, meant, frame-same}
use Rattle.log_laws.proofs.Lawful.{Agrees, seen}
use Rattle.log_laws.proofs.Known.{level-off, level-passive}

pub stronger-order : IsOrder stronger
stronger-order = record {
  itself = λ v. itself v;
  through = λ x y z e f. true_from_ne_false (stronger x z) (λ n. both_ways (stronger x y)
      (beats_over x.frame z.frame y.frame n (beats_one_way y.frame z.frame f)) e);
  over = λ x y z e f. true_from_ne_false (stronger x y) (λ n. both_ways (stronger x z) (beats_over x.frame y.frame z.frame n f) e);
}
  where
    itself : (v : Waiting) → stronger v v ≡ false
    itself v = false_from_ne_true (stronger v v) (λ e. both_ways (stronger v v) (beats_one_way v.frame v.frame e) e)

pub offer-node : (rs : List Request) (n : ℕ) (q : Request) → bus.offer rs n ≡ Some q → q.node ≡ n
offer-node rs n q e = eqb-true q.node n (filter-among (λ r. r.node == n) rs q (foremost-among better (filter (λ r. r.node == n) rs) q e)).1

-- an offer is the first of its node's equal frames
pub offer-first : (rs : List Request) (n : ℕ) (q : Request) → bus.offer rs n ≡ Some q → First rs q
offer-first rs n q e =
    let f = offer-is rs n q e in
    let p = filter-place (λ r. r.node == n) rs f.earlier f.later q f.place in
    record {
      earlier = p.before;
      later = p.behind;
      place = p.place;
      alone = λ y a. false_from_ne_true (meant q y) (λ t.
          let both = and_parts (y.node == q.node) (same_frame y.frame q.frame) t in
          let at-n : (y.node == n) ≡ true = eq-eqb y.node n (eqb-true y.node q.node both.0 ∙ offer-node rs n q e) in
          let ahead = each-All (λ z. better q z ≡ true) f.earlier y f.ahead (subst (λ l. Among l y) p.kept (among-filter (λ r. r.node == n) p.before y a at-n)) in
          let same : better q q ≡ true = subst (λ g. beats q.frame g ≡ true) (frame-same y.frame q.frame both.1) ahead in
          both_ways (better q q) (beats_one_way q.frame q.frame same) same);
    }

pub offers-first : (b : Bus) (now : ℕ) (q : Request) → Among (bus.offers b now) q → First b.requests q
offers-first b now q a =
    let r = filter_map-among (λ (m : Member). bus.offer b.requests m.node) (filter (bus.able b now) b.members) q a in
    offer-first b.requests (r.0).node q r.2

-- offers stand in the order of their nodes
rise-offers : (rs : List Request) (from : ℕ) (ms : List Member) (below : ℕ) → Rise from (map (λ (m : Member). m.node) ms) below
    → Rise from (map (λ (q : Request). q.node) (filter_map (λ (m : Member). bus.offer rs m.node) ms)) below
rise-offers rs from [] below h = h
rise-offers rs from (m ∷ ms) below h = go (bus.offer rs m.node) refl (rise-offers rs (m.node + 1) ms below h.1)
  where
    go : (o : Option Request) → bus.offer rs m.node ≡ o → Rise (m.node + 1) (map (λ (q : Request). q.node) (filter_map (λ (m : Member). bus.offer rs m.node) ms)) below
        → Rise from (map (λ (q : Request). q.node) (cons_option o (filter_map (λ (m : Member). bus.offer rs m.node) ms))) below
    go None e k = rise-lower from (m.node + 1) (map (λ (q : Request). q.node) (filter_map (λ (m : Member). bus.offer rs m.node) ms)) below (omega (arith, h.0)) k
    go (Some q) e k = let s = offer-node rs m.node q e in
        (omega (arith, s, h.0), subst (λ n. Rise (n + 1) (map (λ (q : Request). q.node) (filter_map (λ (m : Member). bus.offer rs m.node) ms)) below) (sym s) k)

pub offers-rise : (b : Bus) (now below : ℕ) → Rise 0 (map (λ (m : Member). m.node) b.members) below → Rise 0 (map (λ (q : Request). q.node) (bus.offers b now)) below
offers-rise b now below h = rise-offers b.requests 0 (filter (bus.able b now) b.members) below (rise-filter (λ (m : Member). m.node) (bus.able b now) 0 b.members below h)

module _ (b : Bus) (m : Mirror) (now : ℕ) (a : Agrees m b) (live : (x : Member) → Among b.members x → x.live ≡ true) where
  pub takes-part : (x : Member) → Among b.members x → takes_part (seen x) ≡ bus.takes_part x
  takes-part x k = ap (λ t. x.awake && not t) (level-off x.counters) ∙ sym (ap (λ t. t && x.awake && not (off x)) (live x k))

  pub ready : (x : Member) → ready_from b.setup m (seen x) ≡ ready_moment b x
  ready x = rw (a.idle, a.last) (ap (λ t. b.idle + (if t && is x.node b.last_sender then 8 * b.setup.nominal else 0)) (level-passive x.counters))

  offer-shown : (n : ℕ) → foremost stronger (of_node m.waits n) ≡ option_map shown (bus.offer b.requests n)
  offer-shown n = ap (λ ws. foremost stronger (of_node ws n)) a.waits
      ∙ ap (foremost stronger) (filter-map (λ w. w.node == n) shown b.requests)
      ∙ foremost-map better stronger shown (λ x y. refl) (filter (λ r. r.node == n) b.requests)

  nothing : (rs : List Request) (n : ℕ) → has_request rs n ≡ false → bus.offer rs n ≡ None
  nothing rs n e = ap (foremost better) (none rs e)
    where
      none : (l : List Request) → list_any (λ r. r.node == n) l ≡ false → filter (λ r. r.node == n) l ≡ []
      none [] k = refl
      none (r ∷ l) k = let h : (r.node == n) ≡ false = false_from_ne_true (r.node == n) (λ t. both_ways (list_any (λ r. r.node == n) (r ∷ l)) k (any_from (λ r. r.node == n) (r ∷ l) r (inl refl) t)) in
          rw h (none l (rw h at k))

  one-way : (t h r : Bool) (o : Option Request) → (h ≡ false → o ≡ None) → cond (t && r) (option_map shown o) None ≡ option_map shown (cond ((t && h) && r) o None)
  one-way true true true o k = refl
  one-way true true false o k = refl
  one-way true false true o k = rw (k refl) refl
  one-way true false false o k = refl
  one-way false h r o k = refl

  each-offer : (x : Member) → Among b.members x
      → cond (able b.setup m now (seen x)) (foremost stronger (of_node m.waits x.node)) None ≡ option_map shown (cond (bus.able b now x) (bus.offer b.requests x.node) None)
  each-offer x k =
      ap (λ t. cond (t && nat_le (ready_from b.setup m (seen x)) now) (foremost stronger (of_node m.waits x.node)) None) (takes-part x k)
      ∙ ap (λ n. cond (bus.takes_part x && nat_le n now) (foremost stronger (of_node m.waits x.node)) None) (ready x)
      ∙ ap (λ o. cond (bus.takes_part x && nat_le (ready_moment b x) now) o None) (offer-shown x.node)
      ∙ one-way (bus.takes_part x) (has_request b.requests x.node) (nat_le (ready_moment b x) now) (bus.offer b.requests x.node) (nothing b.requests x.node)

  pub offers-shown : offers b.setup m now ≡ map shown (bus.offers b now)
  offers-shown = ap (λ xs. filter_map (λ x. foremost stronger (of_node m.waits x.node)) (filter (able b.setup m now) xs)) a.nodes
      ∙ filter_map-by seen (bus.able b now) (λ x. bus.offer b.requests x.node) (able b.setup m now) (λ y. foremost stronger (of_node m.waits y.node)) shown b.members each-offer

  pub contenders-shown : foremost stronger (contenders b.setup m now) ≡ option_map shown (bus.winner b now)
  unfolding bus.winner
  contenders-shown = foremost-groups stronger stronger-order (λ (x : Seen). of_node m.waits x.node) (filter (able b.setup m now) m.nodes)
      ∙ ap (foremost stronger) offers-shown ∙ foremost-map better stronger shown (λ x y. refl) (bus.offers b now)

  pub winner-foremost : (w : Request) → bus.winner b now ≡ Some w → IsForemost stronger (contenders b.setup m now) (shown w)
  winner-foremost w e = foremost-is stronger stronger-order (contenders b.setup m now) (shown w) (contenders-shown ∙ ap (option_map shown) e)

  pub offers-take-part : (q : Request) → Among (bus.offers b now) q → seen_is takes_part m.nodes q.node ≡ true
  offers-take-part q c =
      let r = filter_map-among (λ (x : Member). bus.offer b.requests x.node) (filter (bus.able b now) b.members) q c in
      let f = filter-among (bus.able b now) b.members r.0 r.1 in
      let w = (and_parts (bus.wants b r.0) (nat_le (ready_moment b r.0) now) f.1).0 in
      let t = (and_parts (bus.takes_part r.0) (has_request b.requests (r.0).node) w).0 in
      rw a.nodes (any-map (λ x. (x.node == q.node) && takes_part x) seen b.members
      ∙ any_from (λ (x : Member). (x.node == q.node) && takes_part (seen x)) b.members r.0 f.0
      (and_from ((r.0).node == q.node) (takes_part (seen r.0)) (eq-eqb (r.0).node q.node (sym (offer-node b.requests (r.0).node q r.2))) (takes-part r.0 f.0 ∙ t)))
