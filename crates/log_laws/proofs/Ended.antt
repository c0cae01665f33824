-- A finish: its lines, and what waits, is seen and runs behind them.
use Rattle.std.proofs.Common.{◌≡◌, ℕ, ◌+◌, ◌*◌, ◌==◌, Bool, true, false, not, cond, List, [], ◌∷◌, ◌++◌, map, filter, All, IfSome, Option, Some, None, refl, ap, ◌∙◌, sym, subst, eq-eqb}
use Rattle.std.specs.Prelude.{◌&&◌, ◌||◌, option_map}
use Rattle.std.specs.List.{list_any}
use Rattle.std.proofs.lemmas.Bool.{and_parts, and_from, not_from_false, eqb-true}
use Rattle.bus_specs.specs.Bus.{Bus, Member, Request, Running, Fault, Hurt, off, among, member_is, is}
use Rattle.bus_specs.specs.Finish.{member_after_finish, is_sent, bus_after_finish, outcome_line, hurt_lines, state_lines, finish_lines, finish_with, finish}
use Rattle.bus_specs.specs.Finish as end
use Rattle.bus_specs.specs.Sound.{Sound}
use Rattle.bus_specs.specs.Waits.{Waiting, is_meant, without_first, waiting_of}
use Rattle.log_specs.specs.Line.{Line, On, Told, Done, Fail}
use Rattle.log_specs.specs.Line as log
use Rattle.bus_sound.proofs.Among.{Among, filter-among}
use Rattle.bus_sound.proofs.Lists.{All-each, map-among, any_to, any_from}
use Rattle.bus_sound.proofs.Consequences.{listener-on}
use Rattle.log_laws.specs.Mirror.{Seen, OnWire, Mirror, mirror_after, mirror_told, takes_part, seen_is}
use Rattle.log_laws.specs.Deliveries.{IsRunning, receivers, hurt_next}
use Rattle.log_laws.specs.Losers.{loss_next}
use Rattle.log_laws.proofs.Rows.{filter-map, filter-same, filter-all, filter-both, map-map, any-map}
use Rattle.log_laws.proofs.Firsts.{First, first-goes, first-found}
use Rattle.log_laws.proofs.Lawful.{Opens, Lawful, Within, Follows, follows-none, Agrees, SameRunning, SameFrame, EndsBy, less, hurt_of, seen, follow}
use Rattle.log_laws.proofs.Due.{Ends}
use Rattle.log_laws.proofs.Known.{own, Offered, request_of, level-off}
use Rattle.log_laws.proofs.States.{lines_of, each, falls, told-states, states-seen, falls-off}

among-less : (ns : List ℕ) (hurt : Option ℕ) (n : ℕ) → among (less hurt ns) n ≡ (among ns n && not (is n hurt))
among-less [] hurt n = refl
among-less (k ∷ ns) hurt n = go (not (is k hurt)) (k == n) refl refl (among-less ns hurt n)
  where
    there : (t : Bool) → (t || true) ≡ true
    there true = refl
    there false = refl

    at : (k == n) ≡ true → not (is k hurt) ≡ not (is n hurt)
    at e = ap (λ x. not (is x hurt)) (eqb-true k n e)

    go : (t u : Bool) → not (is k hurt) ≡ t → (k == n) ≡ u → among (less hurt ns) n ≡ (among ns n && not (is n hurt))
        → among (cond t (k ∷ less hurt ns) (less hurt ns)) n ≡ ((u || among ns n) && not (is n hurt))
    go true true p q e = rw (q, sym (at q) ∙ p) refl
    go true false p q e = rw q e
    go false true p q e = let gone : not (is n hurt) ≡ false = sym (at q) ∙ p in
        e ∙ ap (λ t. among ns n && t) gone ∙ never (among ns n) ∙ sym gone
      where
        never : (t : Bool) → (t && false) ≡ false
        never true = refl
        never false = refl
    go false false p q e = e

module _ (b : Bus) (m : Mirror) (now : ℕ) (sound : Sound b) (a : Agrees m b) (live : (x : Member) → Among b.members x → x.live ≡ true)
    (r : Running) (runs : b.running ≡ Some r) (ends : r.end ≡ now) (first : First b.requests (request_of r)) where
  wire-of : (o : Option OnWire) → SameRunning b.setup o (Some r) → (w : OnWire) × (o ≡ Some w) × SameFrame b.setup w r
  wire-of None k = absurd k
  wire-of (Some w) k = (w, refl, k)

  on-wire : (w : OnWire) × (m.running ≡ Some w) × SameFrame b.setup w r
  on-wire = wire-of m.running (subst (λ o. SameRunning b.setup m.running o) runs a.running)

  is-running : IsRunning m r.sender r.frame
  is-running = record { wire = on-wire.0; running = on-wire.1; sender = (on-wire.2).sender; frame = (on-wire.2).frame }

  hears : (y : Member) → Among b.members y
      → (among r.listeners y.node && y.live && y.awake) ≡ (among (on-wire.0).listeners y.node && y.awake && not (is y.node (hurt_of r)))
  hears y k = ap (λ l. among l y.node && y.live && y.awake) (on-wire.2).listeners
      ∙ ap (λ t. t && y.live && y.awake) (among-less (on-wire.0).listeners (hurt_of r) y.node)
      ∙ ap (λ t. (among (on-wire.0).listeners y.node && not (is y.node (hurt_of r))) && t && y.awake) (live y k)
      ∙ turn (among (on-wire.0).listeners y.node) (not (is y.node (hurt_of r))) y.awake
    where
      turn : (t u v : Bool) → (((t && u) && true) && v) ≡ ((t && v) && u)
      turn true true true = refl
      turn true true false = refl
      turn true false true = refl
      turn true false false = refl
      turn false u v = refl

  receivers-same : end.receivers b r ≡ receivers m on-wire.0 (hurt_of r)
  receivers-same = ap (λ ys. map (λ (y : Member). y.node) ys) (filter-same (λ y. among r.listeners y.node && y.live && y.awake)
      (λ y. among (on-wire.0).listeners y.node && y.awake && not (is y.node (hurt_of r))) b.members hears)
      ∙ sym (map-map (λ (x : Seen). x.node) seen (filter (λ y. among (on-wire.0).listeners y.node && y.awake && not (is y.node (hurt_of r))) b.members))
      ∙ ap (λ xs. map (λ (x : Seen). x.node) xs) (sym (filter-map (λ x. among (on-wire.0).listeners x.node && x.awake && not (is x.node (hurt_of r))) seen b.members))
      ∙ ap (λ xs. map (λ (x : Seen). x.node) (filter (λ x. among (on-wire.0).listeners x.node && x.awake && not (is x.node (hurt_of r))) xs)) (sym a.nodes)

  receivers-on : All (λ n. seen_is takes_part m.nodes n ≡ true) (end.receivers b r)
  receivers-on = All-each (λ n. seen_is takes_part m.nodes n ≡ true) (end.receivers b r) (λ n k.
      let i = map-among (λ (y : Member). y.node) (filter (λ y. among r.listeners y.node && y.live && y.awake) b.members) n k in
      let f = filter-among (λ y. among r.listeners y.node && y.live && y.awake) b.members i.0 i.1 in
      let c = and_parts (among r.listeners (i.0).node && (i.0).live) (i.0).awake f.1 in
      let l = any_to (λ x. x == (i.0).node) r.listeners (and_parts (among r.listeners (i.0).node) (i.0).live c.0).0 in
      let heard : Among r.listeners (i.0).node = subst (Among r.listeners) (eqb-true l.0 (i.0).node l.2) l.1 in
      let on : off i.0 ≡ false = listener-on b r i.0 sound runs f.0 heard in
      subst (λ xs. seen_is takes_part xs n ≡ true) (sym a.nodes) (any-map (λ x. (x.node == n) && takes_part x) seen b.members
      ∙ any_from (λ (y : Member). (y.node == n) && takes_part (seen y)) b.members i.0 f.0
      (and_from ((i.0).node == n) (takes_part (seen i.0)) (eq-eqb (i.0).node n i.2)
      (and_from (i.0).awake (not (Rattle.log_laws.specs.Mirror.is_off (seen i.0))) c.1 (not_from_false (Rattle.log_laws.specs.Mirror.is_off (seen i.0)) (level-off (i.0).counters ∙ on))))))

  -- the requests but the one that is sent
  unsent : Option Fault → List Request
  unsent o = filter (λ q. not (is_sent r o q)) b.requests

  -- the mirror behind the line of the outcome
  settled : Option Fault → Mirror
  settled o = record { nodes = m.nodes; waits = waiting_of (unsent o); idle = now + 3 * b.setup.nominal; last_sender = Some r.sender; running = None }

  set-waits : (ws vs : List Waiting) → ws ≡ vs
      → ◌≡◌ {A = Mirror} (record { nodes = m.nodes; waits = ws; idle = now + 3 * b.setup.nominal; last_sender = Some r.sender; running = None })
      (record { nodes = m.nodes; waits = vs; idle = now + 3 * b.setup.nominal; last_sender = Some r.sender; running = None })
  set-waits ws vs e = rw e refl

  outcome-mirror : (o : Option Fault) → mirror_after b.setup m (outcome_line b now r o) ≡ settled o
  unfolding settled unsent
  outcome-mirror None = own b.setup m now r.sender (Done r.frame (end.receivers b r))
      ∙ set-waits (without_first (is_meant r.sender r.frame) m.waits) (waiting_of (unsent None))
      (ap (without_first (is_meant r.sender r.frame)) a.waits ∙ first-goes b.requests (request_of r) b.next sound.numbers first)
  outcome-mirror (Some e) = own b.setup m now r.sender (Fail r.frame e.kind e.by)
      ∙ set-waits m.waits (waiting_of (unsent (Some e))) (a.waits ∙ ap waiting_of (sym (filter-all (λ q. not (is_sent r (Some e) q)) b.requests (λ q k. refl))))

  hurt-mirror : (x : Mirror) (h : Option Hurt) (ls : List Line) → follow b.setup x (hurt_lines b now h ++ ls) ≡ follow b.setup x ls
  hurt-mirror x None ls = refl
  hurt-mirror x (Some h) ls = ap (λ y. follow b.setup y ls) (own b.setup x now h.node (log.Hurt h.kind))

  hurt-within : (x : Mirror) (h : Option Hurt) (ls after : List Line) → Opens (ls ++ after) → Within b.setup x ls after → Within b.setup x (hurt_lines b now h ++ ls) after
  hurt-within x None ls after o k = k
  hurt-within x (Some h) ls after o k = (o.loss, subst (λ y. Within b.setup y ls after) (sym (own b.setup x now h.node (log.Hurt h.kind))) k)

  tail-hurt : (h : Option Hurt) (ls after : List Line) → Opens (ls ++ after) → hurt_next ((hurt_lines b now h ++ ls) ++ after) ≡ option_map (λ (x : Hurt). x.node) h
  tail-hurt None ls after o = o.hurt
  tail-hurt (Some h) ls after o = refl

  tail-loss : (h : Option Hurt) (ls after : List Line) → Opens (ls ++ after) → loss_next ((hurt_lines b now h ++ ls) ++ after) ≡ false
  tail-loss None ls after o = o.loss
  tail-loss (Some h) ls after o = refl

  ends-by : (o : Option Fault) → r.fault ≡ o → EndsBy b.setup (on-wire.0).since r.frame o now
  ends-by o e = subst (λ t. EndsBy b.setup (on-wire.0).since r.frame o t) ends (subst (λ f. EndsBy b.setup (on-wire.0).since f o r.end) (on-wire.2).frame
      (subst (λ x. EndsBy b.setup (on-wire.0).since (on-wire.0).frame x r.end) e (on-wire.2).ends))

  outcome-lawful : (o : Option Fault) (rest : List Line) → r.fault ≡ o → hurt_next rest ≡ hurt_of r → loss_next rest ≡ false → Lawful b.setup m (outcome_line b now r o) rest
  unfolding is-running on-wire
  outcome-lawful None rest e h l = (
    record {
      runs = is-running;
      ends = ends-by None e;
      waits = ap (list_any (is_meant r.sender r.frame)) a.waits ∙ first-found b.requests (request_of r) first;
      receivers = receivers-same ∙ ap (receivers m on-wire.0) (sym h);
      on = receivers-on;
    },
    l,
  )
  outcome-lawful (Some x) rest e h l = let k = ends-by (Some x) e in (record { runs = is-running; bit = k.0; ends = k.1 }, l)

  outcome-opens : (o : Option Fault) (rest : List Line) → Opens (outcome_line b now r o ∷ rest)
  outcome-opens None rest = record { loss = refl; hurt = refl }
  outcome-opens (Some e) rest = record { loss = refl; hurt = refl }

  kept-waits : (o : Option Fault) → r.fault ≡ o
      → filter (λ q. not (list_any (falls b now r q) b.members)) (unsent o) ≡ (bus_after_finish b now r).requests
  unfolding unsent
  kept-waits o e =
      filter-same (λ q. not (list_any (falls b now r q) b.members)) (λ q. not (member_is off (map (member_after_finish r) b.members) q.node)) (unsent o)
      (λ q k. ap not (falls-off b now r sound q (filter-among (λ q. not (is_sent r o q)) b.requests q k).0))
      ∙ sym (filter-both (λ q. not (is_sent r o q)) (λ q. not (member_is off (map (member_after_finish r) b.members) q.node)) b.requests)
      ∙ ap (λ f. filter (λ q. not (is_sent r f q) && not (member_is off (map (member_after_finish r) b.members) q.node)) b.requests) (sym e)

  tail : List Line
  tail = hurt_lines b now r.hurt ++ lines_of b now r b.members

  ended : (o : Option Fault) → r.fault ≡ o → Follows m b.setup (outcome_line b now r o ∷ tail) (bus_after_finish b now r)
  unfolding settled tail
  ended o e = record {
    agrees = subst (λ x. Agrees x (bus_after_finish b now r)) (sym (ap (λ x. follow b.setup x tail) (outcome-mirror o)
        ∙ hurt-mirror (settled o) r.hurt (lines_of b now r b.members) ∙ (told-states b now r b.members (settled o) (unsent o) [] refl none-opens).mirror)) (record {
          nodes = ap (map (each b now r b.members)) a.nodes ∙ states-seen b now r (sound.nodes).0 (sound.nodes).1;
          waits = ap waiting_of (kept-waits o e);
          idle = refl;
          last = refl;
          running = tt;
        });
    lawful = λ after k. (
      outcome-lawful o (tail ++ after) e (tail-hurt r.hurt (lines_of b now r b.members) after (opened after k)) (tail-loss r.hurt (lines_of b now r b.members) after (opened after k)),
      subst (λ x. Within b.setup x tail after) (sym (outcome-mirror o)) (hurt-within (settled o) r.hurt (lines_of b now r b.members) after (opened after k)
          (told-states b now r b.members (settled o) (unsent o) after refl k).lawful),
    );
    opens = λ after k. outcome-opens o (tail ++ after);
  }
    where
      none-opens : Opens []
      none-opens = record { loss = refl; hurt = refl }

      opened : (after : List Line) → Opens after → Opens (lines_of b now r b.members ++ after)
      opened after k = (told-states b now r b.members (settled o) (unsent o) after refl k).opens

  pub finished-follows : Follows m b.setup (finish_lines b now r) (bus_after_finish b now r)
  unfolding tail
  finished-follows = ended r.fault refl

pub finish-follows : (b : Bus) (m : Mirror) (now : ℕ) → Sound b → Agrees m b → ((x : Member) → Among b.members x → x.live ≡ true) → Offered b → Ends b now
    → Follows m b.setup (finish b now).1 (finish b now).0
unfolding finish
finish-follows b m now sound a live first ends = go b.running refl first
  where
    same : {x y : Running} → Some x ≡ Some y → x ≡ y
    same p = cc

    go : (o : Option Running) → b.running ≡ o → IfSome o (λ r. First b.requests (request_of r)) → Follows m b.setup (finish_with b now o).1 (finish_with b now o).0
    go None e k = follows-none m b.setup b a
    go (Some r) e k = let s : ends.frame ≡ r = same (sym ends.runs ∙ e) in finished-follows b m now sound a live r e (ap (λ (x : Running). x.end) (sym s) ∙ ends.end) k

pub finish-offered : (b : Bus) (now : ℕ) → Offered b → Offered (finish b now).0
unfolding finish
finish-offered b now h = go b.running refl
  where
    go : (o : Option Running) → b.running ≡ o → Offered (finish_with b now o).0
    go None e = h
    go (Some r) e = tt
