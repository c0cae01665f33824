-- The start of a frame keeps a sound bus sound, where it is due.
use Rattle.std.proofs.Common.{◌≡◌, ℕ, ◌+◌, ◌-◌, ◌*◌, ◌/◌, ◌<◌, ◌≤◌, ◌==◌, ◌⊎◌, Bool, true, false, not, if◌then◌else◌, min, List, [], ◌∷◌, map, filter, find, All, IfSome, Option, Some, None, is_some, arith, sym, refl, subst, inl, inr, ⊎_elim}
use Rattle.std.specs.Prelude.{◌&&◌, ◌||◌, option_map, nat_le, nat_lt}
use Rattle.std.proofs.lemmas.Bool.{and_parts, or_cases, both_ways, not-true, eqb-true, false_from_ne_true, cases_lt}
use Rattle.std.proofs.lemmas.List.Elements.{All-map}
use Rattle.std.proofs.Math.Nat.{div-mul-le_self, mul-le-mul_right}
use Rattle.frame_specs.specs.Wire.{wire_bits}
use Rattle.frame_specs.specs.Dominance.{beats}
use Rattle.bus_specs.specs.Bus.{Bus, Setup, ErrorEntry, Member, Request, LostNotice, Running, Hurt, off, among, takes_part, offers, offer, able, winner, bits}
use Rattle.bus_specs.specs.Due.{next_due, at}
use Rattle.bus_specs.specs.Due as due
use Rattle.bus_specs.specs.Start.{spans, losers, discards, discarded, is_gone, lost_by, member_after_start, listeners, node_of_entry, applies, entry_of_attempt, Course, course_to_error, course_of_frame, only_hurts, course_by_entry, course_with, course, running_frame, bus_after_start, start_with, start}
use Rattle.bus_specs.specs.Sound.{Sound, SoundMember, SoundRequest, SoundRunning, SoundHurt, SoundOutcome, IsKind, IsFrame, Rise, on, may_send}
use Rattle.bus_sound.proofs.Among.{Among, filter-among, filter_map-among}
use Rattle.bus_sound.proofs.Lists.{All-each, each-All, map-among, rise-filter, rise-filter_numbers, count-filter, any_from, any_to, none_from, find_to}
use Rattle.bus_sound.proofs.Orders.{foremost-among}
use Rattle.bus_sound.proofs.Members.{KeepsNodes, nodes-map, member_is-map, is_at, is_from, may-on, running-moves, last-moves}
use Rattle.bus_sound.proofs.Dues.{start-first, start-idle}

-- an offer is a request
pub offers-among : (b : Bus) (now : ℕ) (q : Request) → Among (offers b now) q → Among b.requests q
offers-among b now q a =
    let r = filter_map-among (λ m. offer b.requests m.node) (filter (able b now) b.members) q a in
    (filter-among (λ x. x.node == (r.0).node) b.requests q (foremost-among (λ x y. beats x.frame y.frame) (filter (λ x. x.node == (r.0).node) b.requests) q r.2)).0

pub winner-among : (b : Bus) (now : ℕ) (w : Request) → winner b now ≡ Some w → Among b.requests w
unfolding winner
winner-among b now w e = offers-among b now w (foremost-among (λ x y. beats x.frame y.frame) (offers b now) w e)

discarded-among : (b : Bus) (now n : ℕ) (q : Request) → Among (discarded b now n) q → Among b.requests q
discarded-among b now n q a = offers-among b now q
    (filter-among (λ r. not (r.node == n)) (offers b now) q (filter-among (discards b) (losers b now n) q a).0).0

-- nodes that hear a frame: on, rising, without the sender
record Hears (ms : List Member) (sender : ℕ) (heard : List ℕ) : Type 0 where
  on : All (λ n. on ms n ≡ true) heard
  rise : (last : ℕ) × Rise 0 heard last
  apart : among heard sender ≡ false

fewer : (ms : List Member) (sender : ℕ) (heard : List ℕ) (p : ℕ → Bool) → Hears ms sender heard → Hears ms sender (filter p heard)
fewer ms sender heard p h = record {
  on = All-each (λ n. on ms n ≡ true) (filter p heard) (λ n a. each-All (λ n. on ms n ≡ true) heard n h.on (filter-among p heard n a).0);
  rise = ((h.rise).0, rise-filter_numbers p 0 heard (h.rise).0 (h.rise).1);
  apart = none_from (λ n. n == sender) (filter p heard)
      (λ n a. false_from_ne_true (n == sender) (λ t. both_ways (among heard sender) h.apart (any_from (λ n. n == sender) heard n (filter-among p heard n a).0 t)));
}

-- how an attempt of a sender may end
record Ends (s : Setup) (ms : List Member) (sender : ℕ) (c : Course) : Type 0 where
  hears : Hears ms sender c.listeners
  outcome : SoundOutcome ms c.listeners c.fault
  hurt : IfSome c.hurt (SoundHurt ms c.listeners)

module _ (b : Bus) (now : ℕ) (h : Sound b) (w : Request) (on-w : on b.members w.node ≡ true) where
  all-hear : Hears b.members w.node (listeners b w.node)
  all-hear = record {
    on = All-each (λ n. on b.members n ≡ true) (listeners b w.node) (λ n a. here n (map-among (λ m. m.node) (filter hears b.members) n a));
    rise = ((h.nodes).0, rise-filter (λ (m : Member). m.node) hears 0 b.members (h.nodes).0 (h.nodes).1);
    apart = none_from (λ n. n == w.node) (listeners b w.node) (λ n a. away n (map-among (λ m. m.node) (filter hears b.members) n a));
  }
    where
      hears : Member → Bool
      hears m = takes_part m && not (m.node == w.node)

      here : (n : ℕ) → (m : Member) × Among (filter hears b.members) m × (m.node ≡ n) → on b.members n ≡ true
      here n r =
          let f = filter-among hears b.members r.0 r.1 in
          let part = (and_parts (takes_part r.0) (not ((r.0).node == w.node)) f.1).0 in
          is_from (λ m. not (off m)) b.members r.0 n f.0 r.2 (and_parts ((r.0).live && (r.0).awake) (not (off r.0)) part).1

      away : (n : ℕ) → (m : Member) × Among (filter hears b.members) m × (m.node ≡ n) → (n == w.node) ≡ false
      away n r =
          let f = filter-among hears b.members r.0 r.1 in
          let other = (and_parts (takes_part r.0) (not ((r.0).node == w.node)) f.1).1 in
          subst (λ k. (k == w.node) ≡ false) r.2 (not-true ((r.0).node == w.node) other)

  goes-on-ends : (hurt : Option Hurt) (heard : List ℕ) → Hears b.members w.node heard → IfSome hurt (SoundHurt b.members heard)
      → Ends b.setup b.members w.node (course_of_frame b now w hurt heard)
  goes-on-ends hurt [] k u = record { hears = k; outcome = (on-w, record { some = omega arith; within = omega arith }, λ e. refl); hurt = u }
  goes-on-ends hurt (n ∷ ns) k u = record { hears = k; outcome = omega arith; hurt = u }

  course_by_entry-ends : (heard : List ℕ) (e : ErrorEntry) (node : ℕ) → Hears b.members w.node heard → IsKind e.kind 4 → on b.members node ≡ true
      → Ends b.setup b.members w.node (course_by_entry b now w heard e node)
  course_by_entry-ends heard e node k kind o = go (only_hurts b w.node node)
    where
      rest : List ℕ
      rest = filter (λ n. not (n == node)) heard

      apart : among rest node ≡ false
      apart = none_from (λ n. n == node) rest (λ n a. not-true (n == node) (filter-among (λ n. not (n == node)) heard n a).1)

      hurt-case : Ends b.setup b.members w.node (course_of_frame b now w (Some (record { node = node; kind = e.kind })) rest)
      hurt-case = goes-on-ends (Some (record { node = node; kind = e.kind })) rest (fewer b.members w.node heard (λ n. not (n == node)) k)
          (record { on = o; kind = kind; apart = apart })

      go : (t : Bool) → Ends b.setup b.members w.node (if t
          then course_of_frame b now w (Some (record { node = node; kind = e.kind })) rest
          else course_to_error b now w.frame (min e.bit (wire_bits w.frame - 1)) (record { kind = e.kind; by = node }) None heard)
      go true = hurt-case
      go false = record {
        hears = k;
        outcome = (o, record { some = kind.some; within = omega (arith, kind.within) }, λ five. absurd (omega (arith, kind.within, five)));
        hurt = tt;
      }

  node_of_entry-on : (e : ErrorEntry) → applies (b.attempts + 1) w.node (listeners b w.node) e ≡ true → on b.members (node_of_entry e w.node) ≡ true
  node_of_entry-on e t = go (or_cases (node_of_entry e w.node == w.node) (among (listeners b w.node) (node_of_entry e w.node))
      (and_parts (nat_le e.first (b.attempts + 1) && nat_lt (b.attempts + 1) (e.first + e.count))
      ((node_of_entry e w.node == w.node) || among (listeners b w.node) (node_of_entry e w.node)) t).1)
    where
      go : ((node_of_entry e w.node == w.node) ≡ true) ⊎ (among (listeners b w.node) (node_of_entry e w.node) ≡ true) → on b.members (node_of_entry e w.node) ≡ true
      go (inl k) = subst (λ n. on b.members n ≡ true) (sym (eqb-true (node_of_entry e w.node) w.node k)) on-w
      go (inr k) =
          let l = any_to (λ n. n == node_of_entry e w.node) (listeners b w.node) k in
          subst (λ n. on b.members n ≡ true) (eqb-true l.0 (node_of_entry e w.node) l.2) (each-All (λ n. on b.members n ≡ true) (listeners b w.node) l.0 all-hear.on l.1)

  course-ends : Ends b.setup b.members w.node (course b now w)
  unfolding course
  course-ends = go (entry_of_attempt b w.node (listeners b w.node)) refl
    where
      go : (o : Option ErrorEntry) → entry_of_attempt b w.node (listeners b w.node) ≡ o → Ends b.setup b.members w.node (course_with b now w (listeners b w.node) o)
      go None e = goes-on-ends None (listeners b w.node) all-hear tt
      go (Some x) e =
          let f = find_to (applies (b.attempts + 1) w.node (listeners b w.node)) b.setup.errors x e in
          course_by_entry-ends (listeners b w.node) x (node_of_entry x w.node) all-hear (each-All (λ (y : ErrorEntry). IsKind y.kind 4) b.setup.errors x h.setup f.0) (node_of_entry-on x f.1)

  running_frame-sound : IsFrame b.setup w.frame → SoundRunning b.setup b.members (running_frame w (course b now w))
  running_frame-sound f = let e = course-ends in record {
    sender = on-w;
    listeners = (e.hears).on;
    rise = (e.hears).rise;
    apart = (e.hears).apart;
    outcome = e.outcome;
    hurt = e.hurt;
    frame = f;
  }

-- the occurrences behind whole spans, where no return comes before
few-seen : (idle now d n : ℕ) → idle ≤ now → now < idle + (128 - n) * d → n + (now - idle) / d ≤ 127
few-seen idle now d n i l = ⊎_elim
    (λ less. omega (arith, less))
    (λ one_more.
    let whole : (128 - n) * d ≤ (now - idle) / d * d = mul-le-mul_right d one_more in
    let part : (now - idle) / d * d ≤ now - idle = div-mul-le_self (now - idle) d in
    absurd (omega (arith, i, l, whole, part)))
    (cases_lt ((now - idle) / d) (128 - n))

-- `since` is the moment of the last event
pub bus_after_start-sound : (b : Bus) (since now : ℕ) (w : Request) → Sound b → next_due b since ≡ Some (at due.Start now) → Among b.requests w → Sound (bus_after_start b now w)
bus_after_start-sound b since now w h d a = record {
  setup = h.setup;
  nodes = ((h.nodes).0, rw (nodes-map f keeps b.members) (h.nodes).1);
  numbers = rise-filter (λ (q : Request). q.number) stays 0 b.requests b.next h.numbers;
  requests = All-each (SoundRequest b.setup (map f b.members)) (filter stays b.requests)
      (λ q c. kept q (filter-among stays b.requests q c).0);
  at_most = λ n. omega (arith, h.at_most n, count-filter (λ (q : Request). q.node == n) stays b.requests);
  members = All-map (SoundMember b.setup (Some r)) f b.members
      (All-each (λ m. SoundMember b.setup (Some r) (f m)) b.members
      (λ m c. member m c (each-All (SoundMember b.setup b.running) b.members m h.members c)));
  running = running-moves b.setup b.members (map f b.members) r (λ n k. still n k) (running_frame-sound b now h w on-w own.frame);
  last = last-moves f b.members b.last_sender keeps h.last;
}
  where
    rs : List Request
    rs = discarded b now w.node

    f : Member → Member
    f = member_after_start b now rs

    r : Running
    r = running_frame w (course b now w)

    keeps : KeepsNodes f
    keeps m = refl

    stays : Request → Bool
    stays q = not (is_gone rs q)

    own : SoundRequest b.setup b.members w
    own = each-All (SoundRequest b.setup b.members) b.requests w h.requests a

    on-w : on b.members w.node ≡ true
    on-w = may-on b.members w.node own.sender

    still : (n : ℕ) → on b.members n ≡ true → on (map f b.members) n ≡ true
    still n k = member_is-map (λ m. not (off m)) (λ m. not (off m)) f b.members n keeps (λ m c e t. t) k

    kept : (q : Request) → Among b.requests q → SoundRequest b.setup (map f b.members) q
    kept q c =
        let k = each-All (SoundRequest b.setup b.members) b.requests q h.requests c in
        record {
          sender = member_is-map (λ m. m.live && not (off m)) (λ m. m.live && not (off m)) f b.members q.node keeps (λ m c e t. t) k.sender;
          frame = k.frame;
        }

    counts : (g : ℕ → ℕ) (o : Option ℕ) (t : Bool) → is_some o ≡ t → is_some (option_map g o) ≡ t
    counts g None t e = e
    counts g (Some n) t e = e

    seen : (o : Option ℕ) → ((n : ℕ) → o ≡ Some n → n + spans b now ≤ 127) → IfSome (option_map (λ n. n + spans b now) o) (λ n. n ≤ 127)
    seen None k = tt
    seen (Some n) k = k n refl

    -- only a live node has a request that is discarded
    no-notice : (m : Member) → Among b.members m → m.live ≡ false → (o : Option Request) → find (λ q. q.node == m.node) rs ≡ o
        → (stands : Option LostNotice) → stands ≡ None → lost_by (now + bits b 1) stands (option_map (λ (q : Request). q.frame.id) o) ≡ None
    no-notice m c e None k stands n = n
    no-notice m c e (Some q) k stands n =
        let found = find_to (λ x. x.node == m.node) rs q k in
        let its = each-All (SoundRequest b.setup b.members) b.requests q h.requests (discarded-among b now w.node q found.0) in
        let here : may_send b.members m.node ≡ true = subst (λ x. may_send b.members x ≡ true) (eqb-true q.node m.node found.1) its.sender in
        let may = is_at (λ x. x.live && not (off x)) b.members m (h.nodes).0 (h.nodes).1 c here in
        absurd (both_ways m.live e (and_parts m.live (not (off m)) may).0)

    member : (m : Member) → Among b.members m → SoundMember b.setup b.running m → SoundMember b.setup (Some r) (f m)
    member m c k = record {
      tec = k.tec;
      rec = k.rec;
      off = counts (λ n. n + spans b now) m.occurrences (off m) k.off;
      seen = seen m.occurrences (λ n e. few-seen b.idle now (bits b 11) n (start-idle b since now d) (start-first b since now d m n c e));
      absent = λ e. let n = k.absent e in record {
        lost = no-notice m c e (find (λ q. q.node == m.node) rs) refl m.lost n.lost;
        format = n.format;
        wake = n.wake;
        mail = n.mail;
      };
      echo = k.echo;
      mail = k.mail;
    }

pub start-sound : (b : Bus) (since now : ℕ) → Sound b → next_due b since ≡ Some (at due.Start now) → Sound (start b now).0
unfolding start
start-sound b since now h d = go (winner b now) refl
  where
    go : (o : Option Request) → winner b now ≡ o → Sound (start_with b now o).0
    go None e = h
    go (Some w) e = bus_after_start-sound b since now w h d (winner-among b now w e)
