-- The end of a frame keeps a sound bus sound.
use Rattle.std.proofs.Common.{◌≡◌, ℕ, ◌≤◌, ◌==◌, Bool, true, false, not, if◌then◌else◌, List, map, filter, IfSome, Option, Some, None, is_some, arith, sym, refl, subst, eq-eqb}
use Rattle.std.specs.Prelude.{◌&&◌, ⊤}
use Rattle.std.proofs.lemmas.Bool.{and_parts, and_from, both_ways, not-true, not_from_false, eqb-true, false_from_ne_true}
use Rattle.std.proofs.lemmas.List.Elements.{All-map}
use Rattle.bus_specs.specs.Counters.{Counters, count, Nothing, is_off}
use Rattle.bus_specs.specs.Bus.{Bus, Setup, Member, Request, Mail, Received, Running, Fault, Hurt, off, among, member_is}
use Rattle.bus_specs.specs.Finish.{Part, Sending, Listening, Apart, Hurting, part, hurt_part, happening, mail, mail_after, one_more, occurrences, counters_after, member_after_finish, is_sent, bus_after_finish, finish_with, finish}
use Rattle.bus_specs.specs.Sound.{Sound, SoundMember, SoundRequest, SoundRunning, SoundHurt, SoundOutcome, IsMail, IsKind, Rise, on}
use Rattle.bus_sound.proofs.Among.{Among, filter-among}
use Rattle.bus_sound.proofs.Lists.{All-each, each-All, rise-filter, count-filter, any_to, none_at, among-map}
use Rattle.bus_sound.proofs.Members.{KeepsNodes, nodes_of, nodes-map, member_is-map, is_at, off-on}
use Rattle.bus_sound.proofs.Counted.{count-tec, count-rec, on-tec}

-- the kind of a hurt part is one of the script's
abbrev PartFits : Part → Type 0
PartFits Sending = ⊤
PartFits Listening = ⊤
PartFits Apart = ⊤
PartFits (Hurting kind) = IsKind kind 5

module _ (s : Setup) (ms : List Member) (r : Running) (h : SoundRunning s ms r) (below : ℕ) (rise : Rise 0 (nodes_of ms) below) where
  hurt-fits : (o : Option Hurt) → IfSome o (SoundHurt ms r.listeners) → (n : ℕ) → PartFits (hurt_part o n)
  hurt-fits None k n = tt
  hurt-fits (Some x) k n = go (x.node == n)
    where
      go : (t : Bool) → PartFits (if t then Hurting x.kind else Apart)
      go true = record { some = (k.kind).some; within = omega (arith, (k.kind).within) }
      go false = tt

  part-fits : (n : ℕ) → PartFits (part r n)
  part-fits n = go (r.sender == n) (among r.listeners n)
    where
      go : (t u : Bool) → PartFits (if t then Sending else if u then Listening else hurt_part r.hurt n)
      go true u = tt
      go false true = tt
      go false false = hurt-fits r.hurt h.hurt n

  on-here : (m : Member) → Among ms m → on ms m.node ≡ true → off m ≡ false
  on-here m a k = off-on m (is_at (λ x. not (off x)) ms m below rise a k)

  -- a node that is off has no part in a running frame
  hurt-apart : (m : Member) → Among ms m → off m ≡ true → (o : Option Hurt) → IfSome o (SoundHurt ms r.listeners) → hurt_part o m.node ≡ Apart
  hurt-apart m a e None k = refl
  hurt-apart m a e (Some x) k = go (x.node == m.node) refl
    where
      go : (t : Bool) → (x.node == m.node) ≡ t → (if t then Hurting x.kind else Apart) ≡ Apart
      go true q = absurd (both_ways (off m) (on-here m a (subst (λ n. on ms n ≡ true) (eqb-true x.node m.node q) k.on)) e)
      go false q = refl

  off-apart : (m : Member) → Among ms m → off m ≡ true → part r m.node ≡ Apart
  off-apart m a e = go (r.sender == m.node) (among r.listeners m.node) refl refl
    where
      go : (t u : Bool) → (r.sender == m.node) ≡ t → among r.listeners m.node ≡ u
          → (if t then Sending else if u then Listening else hurt_part r.hurt m.node) ≡ Apart
      go true u p q = absurd (both_ways (off m) (on-here m a (subst (λ n. on ms n ≡ true) (eqb-true r.sender m.node p) h.sender)) e)
      go false true p q =
          let l = any_to (λ n. n == m.node) r.listeners q in
          absurd (both_ways (off m) (on-here m a (subst (λ n. on ms n ≡ true) (eqb-true l.0 m.node l.2) (each-All (λ n. on ms n ≡ true) r.listeners l.0 h.listeners l.1))) e)
      go false false p q = hurt-apart m a e r.hurt h.hurt

  apart-event_step : (fault : Option Fault) (m : Member) (p : Part) → p ≡ Apart → happening fault p m ≡ Nothing
  apart-event_step None m p e = rw e refl
  apart-event_step (Some x) m p e = rw e refl

  after-tec : (m : Member) → Among ms m → SoundMember s (Some r) m → (counters_after r m).tec ≤ 263
  after-tec m a k = go (off m) refl
    where
      go : (t : Bool) → off m ≡ t → (counters_after r m).tec ≤ 263
      go true e = subst (λ x. (count m.counters x).tec ≤ 263) (sym (apart-event_step r.fault m (part r m.node) (off-apart m a e))) k.tec
      go false e = count-tec m.counters (happening r.fault (part r m.node) m) (on-tec m.counters e)

  some-off : (c : Counters) (o : Option ℕ) → is_some (occurrences c o) ≡ is_off c
  some-off c o = go (is_off c)
    where
      go : (t : Bool) → is_some (if t then Some (one_more o) else None) ≡ t
      go true = refl
      go false = refl

  after-seen : (c : Counters) (o : Option ℕ) → IfSome o (λ n. n ≤ 127) → IfSome (occurrences c o) (λ n. n ≤ 128)
  after-seen c o k = go (is_off c) o k
    where
      go : (t : Bool) (o : Option ℕ) → IfSome o (λ n. n ≤ 127) → IfSome (if t then Some (one_more o) else None) (λ n. n ≤ 128)
      go true None k = omega arith
      go true (Some n) k = omega (arith, k)
      go false o k = tt

  absent-mail : (live : Bool) (o new : Option Mail) → live ≡ false → o ≡ None → mail_after live o new ≡ None
  absent-mail live o None e n = n
  absent-mail true o (Some x) e n = absurd (both_ways true e refl)
  absent-mail false o (Some x) e n = n

  mail_after-fits : (live : Bool) (o new : Option Mail) → IfSome o (IsMail s) → IfSome new (IsMail s) → IfSome (mail_after live o new) (IsMail s)
  mail_after-fits live o None k n = k
  mail_after-fits true o (Some x) k n = n
  mail_after-fits false o (Some x) k n = k

  mail-fits : (fault : Option Fault) (p : Part) (m : Member) → IfSome fault (λ e. IsKind e.kind 5) → PartFits p → IfSome (mail r.frame fault p m) (IsMail s)
  mail-fits None Sending m e k = tt
  mail-fits None Listening m e k = go m.awake
    where
      go : (t : Bool) → IfSome (if t then Some (Received r.frame) else None) (IsMail s)
      go true = h.frame
      go false = tt
  mail-fits None Apart m e k = tt
  mail-fits None (Hurting kind) m e k = k
  mail-fits (Some x) Sending m e k = e
  mail-fits (Some x) Listening m e k = e
  mail-fits (Some x) Apart m e k = tt
  mail-fits (Some x) (Hurting kind) m e k = k

  fault-fits : (o : Option Fault) → SoundOutcome ms r.listeners o → IfSome o (λ e. IsKind e.kind 5)
  fault-fits None k = tt
  fault-fits (Some e) k = k.1

  bus_after_finish-member : (m : Member) → Among ms m → SoundMember s (Some r) m → SoundMember s None (member_after_finish r m)
  bus_after_finish-member m a k = record {
    tec = after-tec m a k;
    rec = count-rec m.counters (happening r.fault (part r m.node) m) k.rec;
    off = some-off (counters_after r m) m.occurrences;
    seen = after-seen (counters_after r m) m.occurrences k.seen;
    absent = λ e. let n = k.absent e in record {
      lost = n.lost;
      format = n.format;
      wake = n.wake;
      mail = absent-mail m.live m.mail (mail r.frame r.fault (part r m.node) m) e n.mail;
    };
    echo = k.echo;
    mail = mail_after-fits m.live m.mail (mail r.frame r.fault (part r m.node) m) k.mail
        (mail-fits r.fault (part r m.node) m (fault-fits r.fault h.outcome) (part-fits m.node));
  }

bus_after_finish-sound : (b : Bus) (now : ℕ) (r : Running) → b.running ≡ Some r → Sound b → Sound (bus_after_finish b now r)
bus_after_finish-sound b now r e h = record {
  setup = h.setup;
  nodes = ((h.nodes).0, rw (nodes-map f keeps b.members) (h.nodes).1);
  numbers = rise-filter (λ (q : Request). q.number) stays 0 b.requests b.next h.numbers;
  requests = All-each (SoundRequest b.setup (map f b.members)) (filter stays b.requests)
      (λ q a. kept q (filter-among stays b.requests q a).0 (and_parts (not (is_sent r r.fault q)) (not (member_is off (map f b.members) q.node)) (filter-among stays b.requests q a).1).1);
  at_most = λ n. omega (arith, h.at_most n, count-filter (λ (q : Request). q.node == n) stays b.requests);
  members = All-map (SoundMember b.setup None) f b.members
      (All-each (λ m. SoundMember b.setup None (f m)) b.members
      (λ m a. bus_after_finish-member b.setup b.members r running (h.nodes).0 (h.nodes).1 m a
      (subst (λ o. SoundMember b.setup o m) e (each-All (SoundMember b.setup b.running) b.members m h.members a))));
  running = tt;
  last = member_is-map (λ m. not (off m)) (λ m. true) f b.members r.sender keeps (λ m a k t. refl) running.sender;
}
  where
    f : Member → Member
    f = member_after_finish r

    keeps : KeepsNodes f
    keeps m = refl

    stays : Request → Bool
    stays q = not (is_sent r r.fault q) && not (member_is off (map f b.members) q.node)

    running : SoundRunning b.setup b.members r
    running = subst (λ o. IfSome o (SoundRunning b.setup b.members)) e h.running

    now-on : (q : Request) → not (member_is off (map f b.members) q.node) ≡ true → (m : Member) → Among (map f b.members) m → m.node ≡ q.node → off m ≡ false
    now-on q t m a s =
        let none = none_at (λ x. (x.node == q.node) && off x) (map f b.members) m (not-true (member_is off (map f b.members) q.node) t) a in
        false_from_ne_true (off m) (λ k. both_ways ((m.node == q.node) && off m) none (and_from (m.node == q.node) (off m) (eq-eqb m.node q.node s) k))

    kept : (q : Request) → Among b.requests q → not (member_is off (map f b.members) q.node) ≡ true → SoundRequest b.setup (map f b.members) q
    kept q a t =
        let k = each-All (SoundRequest b.setup b.members) b.requests q h.requests a in
        record {
          sender = member_is-map (λ m. m.live && not (off m)) (λ m. m.live && not (off m)) f b.members q.node keeps
              (λ m c s l. and_from m.live (not (off (f m))) (and_parts m.live (not (off m)) l).0
              (not_from_false (off (f m)) (now-on q t (f m) (among-map f b.members m c) s))) k.sender;
          frame = k.frame;
        }

pub finish-sound : (b : Bus) (now : ℕ) → Sound b → Sound (finish b now).0
unfolding finish
finish-sound b now h = go b.running refl
  where
    go : (o : Option Running) → b.running ≡ o → Sound (finish_with b now o).0
    go None e = h
    go (Some r) e = bus_after_finish-sound b now r e h
