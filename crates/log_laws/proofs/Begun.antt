-- A start: its lines, and what waits and runs behind them.
use Rattle.std.proofs.Common.{◌≡◌, ℕ, ◌+◌, ◌-◌, ◌≤◌, ◌==◌, Bool, true, false, not, if◌then◌else◌, min, List, [], ◌∷◌, ◌++◌, map, filter, Option, Some, None, arith, refl, ap, ◌∙◌, sym, subst, inl, inr, eq-eqb}
use Rattle.std.specs.Prelude.{◌&&◌, option_map}
use Rattle.std.specs.List.{list_any}
use Rattle.std.proofs.lemmas.Bool.{and_left, both_ways, not-true, not_from_false, eqb-true, false_from_ne_true}
use Rattle.frame_specs.specs.Wire.{wire_bits, ack_place}
use Rattle.bus_specs.specs.Bus.{Bus, Setup, ErrorEntry, Member, Request, Running, Hurt, is, winner}
use Rattle.bus_specs.specs.Bus as bus
use Rattle.bus_specs.specs.Start.{losers, discards, discarded, is_same, is_gone, member_after_start, listeners, entry_of_attempt, node_of_entry, course_to_error, course_of_frame, only_hurts, course_with, course, running_frame, bus_after_start, loser_told, start_lines, start_with, start}
use Rattle.bus_specs.specs.Due.{next_due, at}
use Rattle.bus_specs.specs.Due as due
use Rattle.bus_specs.specs.Sound.{Sound, Rise}
use Rattle.bus_specs.specs.Waits.{Waiting, is_meant, without_first, waiting_of}
use Rattle.log_specs.specs.Line.{Line, On, Start, LostKept, LostGone}
use Rattle.bus_sound.proofs.Among.{Among, filter-among}
use Rattle.bus_sound.proofs.Lists.{rise-filter, none_from}
use Rattle.bus_sound.proofs.Orders.{foremost-among}
use Rattle.bus_sound.proofs.Foremost.{better}
use Rattle.bus_sound.proofs.Dues.{start-due, start-idle}
use Rattle.log_laws.specs.Mirror.{Seen, OnWire, Mirror, mirror_after, takes_part, seen_is, listening}
use Rattle.log_laws.specs.Losers.{losses, tells_loss, loss_line, losing, loss_next}
use Rattle.log_laws.proofs.Rows.{filter-map, filter-same, filter-all, map-map, map-among-same, any-map, rise-after}
use Rattle.log_laws.proofs.Firsts.{First, shown, first-filter, first-goes, first-found, gone-cons}
use Rattle.log_laws.proofs.Lawful.{Opens, StartIs, LawfulTold, Within, Follows, follows-none, Agrees, SameRunning, EndsBy, less, hurt_of, seen, follow}
use Rattle.log_laws.proofs.Known.{own, Offered, map-unseen}
use Rattle.log_laws.proofs.Offers.{offers-first, offers-rise, takes-part, offers-shown, winner-foremost, offers-take-part}

-- the losers, one after another
module _ (b : Bus) (now : ℕ) where
  loss_lines : List Request → List Line
  loss_lines ls = map (λ r. On now b.setup.number r.node (loser_told b r)) ls

  told-loss : (r : Request) (t : Bool) → tells_loss (if t then LostGone r.frame else LostKept r.frame) ≡ true
  told-loss r true = refl
  told-loss r false = refl

  losses-taken : (ls : List Request) (after : List Line) → loss_next after ≡ false → losses (loss_lines ls ++ after) ≡ loss_lines ls
  unfolding loss_lines
  losses-taken [] [] h = refl
  losses-taken [] (line ∷ after) h = rw h refl
  losses-taken (r ∷ ls) after h = rw (told-loss r (discards b r)) (ap (λ l. On now b.setup.number r.node (loser_told b r) ∷ l) (losses-taken ls after h))

  -- what is behind the lines of these losers
  record Behind (x : Mirror) (ls rs : List Request) (after : List Line) : Type 0 where
    mirror : follow b.setup x (loss_lines ls) ≡ record x { waits = waiting_of (filter (λ q. not (is_gone (filter (discards b) ls) q)) rs) }
    lawful : Within b.setup x (loss_lines ls) after

  set-waits : (x : Mirror) (ws : List Waiting) → x.waits ≡ ws → x ≡ record x { waits = ws }
  set-waits x ws e = ap (λ vs. record x { waits = vs }) e

  told-losses : (ls rs : List Request) (x : Mirror) (after : List Line) (from below last : ℕ) → x.waits ≡ waiting_of rs
      → Rise 0 (map (λ (q : Request). q.number) rs) below → Rise from (map (λ (q : Request). q.node) ls) last
      → ((r : Request) → Among ls r → First rs r) → Behind x ls rs after
  unfolding loss_lines
  told-losses [] rs x after from below last e n d f = record {
    mirror = set-waits x (waiting_of (filter (λ q. not (is_gone [] q)) rs)) (e ∙ ap waiting_of (sym (filter-all (λ q. not (is_gone [] q)) rs (λ q a. refl))));
    lawful = tt;
  }
  told-losses (r ∷ ls) rs x after from below last e n d f =
      go (discards b r) refl (λ y qs k m g. told-losses ls qs y after (r.node + 1) below last k m d.1 g)
    where
      kept-rs : List Request
      kept-rs = filter (λ q. not (is_same q r)) rs

      apart : (y : Request) → Among ls y → not (is_same y r) ≡ true
      apart y a = not_from_false (is_same y r) (and_left (y.node == r.node) (y.number == r.number) (false_from_ne_true (y.node == r.node) (λ t.
          let s : y.node ≡ r.node = eqb-true y.node r.node t in
          let l : r.node + 1 ≤ y.node = rise-after (λ (q : Request). q.node) (r.node + 1) ls y last d.1 a in
          omega (arith, s, l))))

      first : First rs r
      first = f r (inl refl)

      told-is : (t : Bool) → discards b r ≡ t → loser_told b r ≡ (if t then LostGone r.frame else LostKept r.frame)
      told-is t e = ap (λ u. if u then LostGone r.frame else LostKept r.frame) e

      lines-behind : List Line
      lines-behind = loss_lines ls ++ after

      go : (t : Bool) → discards b r ≡ t → ((y : Mirror) (qs : List Request) → y.waits ≡ waiting_of qs → Rise 0 (map (λ (q : Request). q.number) qs) below
          → ((z : Request) → Among ls z → First qs z) → Behind y ls qs after)
          → Behind x (r ∷ ls) rs after
      go true t on =
          let step : mirror_after b.setup x (On now b.setup.number r.node (loser_told b r)) ≡ record x { waits = waiting_of kept-rs } =
          (rw t (own b.setup x now r.node (LostGone r.frame)
          ∙ ap (λ ws. record x { waits = ws }) (ap (without_first (is_meant r.node r.frame)) e ∙ first-goes rs r below n first))) in
          let taken : filter (discards b) (r ∷ ls) ≡ r ∷ filter (discards b) ls = rw t refl in
          let k = on (record x { waits = waiting_of kept-rs }) kept-rs refl (rise-filter (λ (q : Request). q.number) (λ q. not (is_same q r)) 0 rs below n)
          (λ z a. first-filter rs z (λ q. not (is_same q r)) (f z (inr a)) (apart z a)) in
          record {
            mirror = ap (λ z. follow b.setup z (loss_lines ls)) step ∙ k.mirror
                ∙ ap (λ qs. record x { waits = waiting_of qs }) (sym (gone-cons r (filter (discards b) ls) rs) ∙ ap (λ ds. filter (λ q. not (is_gone ds q)) rs) (sym taken));
            lawful = (
              subst (λ told. LawfulTold b.setup x now b.setup.number r.node told lines-behind) (sym (told-is true t)) (ap (list_any (is_meant r.node r.frame)) e ∙ first-found rs r first),
              subst (λ z. Within b.setup z (loss_lines ls) after) (sym step) k.lawful,
            );
          }
      go false t on =
          let step : mirror_after b.setup x (On now b.setup.number r.node (loser_told b r)) ≡ x = (rw t (own b.setup x now r.node (LostKept r.frame))) in
          let left : filter (discards b) (r ∷ ls) ≡ filter (discards b) ls = rw t refl in
          let k = on x rs e n (λ z a. f z (inr a)) in
          record {
            mirror = ap (λ z. follow b.setup z (loss_lines ls)) step ∙ k.mirror
                ∙ ap (λ ds. record x { waits = waiting_of (filter (λ q. not (is_gone ds q)) rs) }) (sym left);
            lawful = (
              subst (λ told. LawfulTold b.setup x now b.setup.number r.node told lines-behind) (sym (told-is false t)) tt,
              subst (λ z. Within b.setup z (loss_lines ls) after) (sym step) k.lawful,
            );
          }

-- who hears a frame: the listeners at its start, less the one that is hurt
module _ (b : Bus) (now : ℕ) (w : Request) where
  less-none : (ns : List ℕ) → ns ≡ less None ns
  less-none ns = sym (filter-all (λ n. not (is n None)) ns (λ n a. refl))

  less-some : (ns : List ℕ) (node : ℕ) → filter (λ n. not (n == node)) ns ≡ less (Some node) ns
  less-some ns node = filter-same (λ n. not (n == node)) (λ n. not (is n (Some node))) ns (λ n a. ap not (turn n node (n == node) (node == n) refl refl))
    where
      turn : (n k : ℕ) (t u : Bool) → (n == k) ≡ t → (k == n) ≡ u → t ≡ u
      turn n k true true p q = refl
      turn n k false false p q = refl
      turn n k true false p q = absurd (both_ways (k == n) q (eq-eqb k n (sym (eqb-true n k p))))
      turn n k false true p q = absurd (both_ways (n == k) p (eq-eqb n k (sym (eqb-true k n q))))

  frame-heard : (hurt : Option Hurt) (heard : List ℕ) → (course_of_frame b now w hurt heard).listeners ≡ heard
  frame-heard hurt [] = refl
  frame-heard hurt (n ∷ ns) = refl

  frame-hurt : (hurt : Option Hurt) (heard : List ℕ) → (course_of_frame b now w hurt heard).hurt ≡ hurt
  frame-hurt hurt [] = refl
  frame-hurt hurt (n ∷ ns) = refl

  course-heard : (course b now w).listeners ≡ less (option_map (λ (h : Hurt). h.node) (course b now w).hurt) (listeners b w.node)
  unfolding course
  course-heard = go (entry_of_attempt b w.node heard)
    where
      heard : List ℕ
      heard = listeners b w.node

      by : (e : ErrorEntry) (t : Bool)
          → (if t then course_of_frame b now w (Some (record { node = node_of_entry e w.node; kind = e.kind })) (filter (λ n. not (n == node_of_entry e w.node)) heard)
          else course_to_error b now w.frame (min e.bit (wire_bits w.frame - 1)) (record { kind = e.kind; by = node_of_entry e w.node }) None heard).listeners
          ≡ less (option_map (λ (h : Hurt). h.node)
          (if t then course_of_frame b now w (Some (record { node = node_of_entry e w.node; kind = e.kind })) (filter (λ n. not (n == node_of_entry e w.node)) heard)
          else course_to_error b now w.frame (min e.bit (wire_bits w.frame - 1)) (record { kind = e.kind; by = node_of_entry e w.node }) None heard).hurt) heard
      by e true = frame-heard (Some (record { node = node_of_entry e w.node; kind = e.kind })) (filter (λ n. not (n == node_of_entry e w.node)) heard)
          ∙ less-some heard (node_of_entry e w.node)
          ∙ ap (λ o. less (option_map (λ (h : Hurt). h.node) o) heard)
          (sym (frame-hurt (Some (record { node = node_of_entry e w.node; kind = e.kind })) (filter (λ n. not (n == node_of_entry e w.node)) heard)))
      by e false = less-none heard

      go : (o : Option ErrorEntry) → (course_with b now w heard o).listeners ≡ less (option_map (λ (h : Hurt). h.node) (course_with b now w heard o).hurt) heard
      go None = frame-heard None heard ∙ less-none heard ∙ ap (λ o. less (option_map (λ (h : Hurt). h.node) o) heard) (sym (frame-hurt None heard))
      go (Some e) = by e (only_hurts b w.node (node_of_entry e w.node))

  frame-ends : (hurt : Option Hurt) (heard : List ℕ) → EndsBy b.setup now w.frame (course_of_frame b now w hurt heard).fault (course_of_frame b now w hurt heard).end
  frame-ends hurt [] = (ack_place w.frame, omega arith)
  frame-ends hurt (n ∷ ns) = refl

  pub course-ends : EndsBy b.setup now w.frame (course b now w).fault (course b now w).end
  unfolding course
  course-ends = go (entry_of_attempt b w.node heard)
    where
      heard : List ℕ
      heard = listeners b w.node

      by : (e : ErrorEntry) (t : Bool)
          → EndsBy b.setup now w.frame
          (if t then course_of_frame b now w (Some (record { node = node_of_entry e w.node; kind = e.kind })) (filter (λ n. not (n == node_of_entry e w.node)) heard)
          else course_to_error b now w.frame (min e.bit (wire_bits w.frame - 1)) (record { kind = e.kind; by = node_of_entry e w.node }) None heard).fault
          (if t then course_of_frame b now w (Some (record { node = node_of_entry e w.node; kind = e.kind })) (filter (λ n. not (n == node_of_entry e w.node)) heard)
          else course_to_error b now w.frame (min e.bit (wire_bits w.frame - 1)) (record { kind = e.kind; by = node_of_entry e w.node }) None heard).end
      by e true = frame-ends (Some (record { node = node_of_entry e w.node; kind = e.kind })) (filter (λ n. not (n == node_of_entry e w.node)) heard)
      by e false = (min e.bit (wire_bits w.frame - 1), omega arith)

      go : (o : Option ErrorEntry) → EndsBy b.setup now w.frame (course_with b now w heard o).fault (course_with b now w heard o).end
      go None = frame-ends None heard
      go (Some e) = by e (only_hurts b w.node (node_of_entry e w.node))

module _ (b : Bus) (m : Mirror) (since now : ℕ) (sound : Sound b) (a : Agrees m b) (live : (x : Member) → Among b.members x → x.live ≡ true)
    (d : next_due b since ≡ Some (at due.Start now)) (w : Request) (e : winner b now ≡ Some w) where
  wins-among : Among (bus.offers b now) w
  unfolding bus.winner
  wins-among = foremost-among better (bus.offers b now) w e

  listening-same : listening m.nodes w.node ≡ listeners b w.node
  listening-same = rw a.nodes (ap (λ xs. map (λ (x : Seen). x.node) xs) (filter-map (λ x. takes_part x && not (x.node == w.node)) seen b.members)
      ∙ map-map (λ (x : Seen). x.node) seen (filter (λ x. takes_part (seen x) && not (x.node == w.node)) b.members)
      ∙ ap (λ xs. map (λ (x : Member). x.node) xs) (filter-same (λ x. takes_part (seen x) && not (x.node == w.node)) (λ x. bus.takes_part x && not (x.node == w.node)) b.members
      (λ x k. ap (λ t. t && not (x.node == w.node)) (takes-part b m now a live x k))))

  -- the mirror behind the line of the start
  begun : Mirror
  begun = record m { running = Some (record { sender = w.node; frame = w.frame; since = now; listeners = listening m.nodes w.node }) }

  free : (o : Option Running) → b.running ≡ o → o ≡ None → (v : Option OnWire) → SameRunning b.setup v b.running → v ≡ None
  free o p q None s = refl
  free o p q (Some v) s = absurd (subst (λ r. SameRunning b.setup (Some v) r) (p ∙ q) s)

  losing-lines : losing b.setup m now b.setup.number w.node ≡ loss_lines b now (losers b now w.node)
  unfolding loss_lines
  losing-lines = ap (λ os. map (loss_line m now b.setup.number) (filter (λ v. not (v.node == w.node)) os)) (offers-shown b m now a live)
      ∙ ap (map (loss_line m now b.setup.number)) (filter-map (λ v. not (v.node == w.node)) shown (bus.offers b now))
      ∙ map-map (loss_line m now b.setup.number) shown (losers b now w.node)
      ∙ map-among-same (λ r. loss_line m now b.setup.number (shown r)) (λ r. On now b.setup.number r.node (loser_told b r)) (losers b now w.node)
      (λ r k. ap (λ t. On now b.setup.number r.node (if t then LostGone r.frame else LostKept r.frame)) (ap (λ xs. seen_is (λ x. x.discards) xs r.node) a.nodes
      ∙ any-map (λ x. (x.node == r.node) && x.discards) seen b.members))

  start-is : (after : List Line) → Opens after → StartIs b.setup m now b.setup.number w.node w.frame (loss_lines b now (losers b now w.node) ++ after)
  start-is after o = record {
    foremost = winner-foremost b m now a live w e;
    takes_part = offers-take-part b m now a live w wins-among;
    free = record { running = free b.running refl (start-due b since now d).free m.running a.running; idle = subst (λ n. n ≤ now) (sym a.idle) (start-idle b since now d) };
    losers = losses-taken b now (losers b now w.node) after o.loss ∙ sym losing-lines;
  }

  behind-losses : (after : List Line) → Behind b now begun (losers b now w.node) b.requests after
  unfolding begun
  behind-losses after = told-losses b now (losers b now w.node) b.requests begun after 0 b.next (sound.nodes).0 a.waits sound.numbers
      (rise-filter (λ (q : Request). q.node) (λ r. not (r.node == w.node)) 0 (bus.offers b now) (sound.nodes).0 (offers-rise b now (sound.nodes).0 (sound.nodes).1))
      (λ r k. offers-first b now r (filter-among (λ r. not (r.node == w.node)) (bus.offers b now) r k).0)

  pub begun-follows : Follows m b.setup (start_lines b now w) (bus_after_start b now w)
  unfolding begun loss_lines
  begun-follows = record {
    agrees = subst (λ x. Agrees x (bus_after_start b now w)) (sym (ap (λ x. follow b.setup x (loss_lines b now (losers b now w.node))) first ∙ (behind-losses []).mirror)) (record {
      nodes = a.nodes ∙ sym (map-unseen (member_after_start b now (discarded b now w.node)) (λ x. refl) b.members);
      waits = refl;
      idle = a.idle;
      last = a.last;
      running = record {
        sender = refl;
        frame = refl;
        listeners = course-heard b now w ∙ ap (less (hurt_of (running_frame w (course b now w)))) (sym listening-same);
        ends = course-ends b now w;
      };
    });
    lawful = λ after o. (start-is after o, subst (λ x. Within b.setup x (loss_lines b now (losers b now w.node)) after) (sym first) (behind-losses after).lawful);
    opens = λ after o. record { loss = refl; hurt = refl };
  }
    where
      first : mirror_after b.setup m (On now b.setup.number w.node (Start w.frame)) ≡ begun
      first = own b.setup m now w.node (Start w.frame)

  pub begun-offered : Offered (bus_after_start b now w)
  begun-offered = first-filter b.requests w (λ q. not (is_gone (discarded b now w.node) q)) (offers-first b now w wins-among)
      (not_from_false (is_gone (discarded b now w.node) w) (none_from (is_same w) (discarded b now w.node) (λ r k.
      let l = filter-among (λ r. not (r.node == w.node)) (bus.offers b now) r (filter-among (discards b) (losers b now w.node) r k).0 in
      and_left (w.node == r.node) (w.number == r.number) (false_from_ne_true (w.node == r.node) (λ t.
      both_ways (r.node == w.node) (not-true (r.node == w.node) l.1) (eq-eqb r.node w.node (sym (eqb-true w.node r.node t))))))))

pub start-follows : (b : Bus) (m : Mirror) (since now : ℕ) → Sound b → Agrees m b → ((x : Member) → Among b.members x → x.live ≡ true)
    → next_due b since ≡ Some (at due.Start now) → Follows m b.setup (start b now).1 (start b now).0
unfolding start
start-follows b m since now sound a live d = go (winner b now) refl
  where
    go : (o : Option Request) → winner b now ≡ o → Follows m b.setup (start_with b now o).1 (start_with b now o).0
    go None e = follows-none m b.setup b a
    go (Some w) e = begun-follows b m since now sound a live d w e

pub start-offered : (b : Bus) (m : Mirror) (since now : ℕ) → Sound b → Agrees m b → ((x : Member) → Among b.members x → x.live ≡ true)
    → next_due b since ≡ Some (at due.Start now) → Offered b → Offered (start b now).0
unfolding start
start-offered b m since now sound a live d h = go (winner b now) refl
  where
    go : (o : Option Request) → winner b now ≡ o → Offered (start_with b now o).0
    go None e = h
    go (Some w) e = begun-offered b m since now sound a live d w e
