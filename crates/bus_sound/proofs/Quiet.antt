-- A change of members that turns none off and ends none keeps a sound bus sound: enter, take_inbox, recover.
use Rattle.std.proofs.Common.{◌≡◌, ℕ, ◌==◌, Bool, true, false, not, if◌then◌else◌, List, map, IfSome, Option, Some, None, arith, refl}
use Rattle.std.specs.Prelude.{◌&&◌, nat_le}
use Rattle.std.proofs.lemmas.Bool.{and_parts, and_from, both_ways, not-true, not_from_false}
use Rattle.std.proofs.lemmas.List.Elements.{All-map}
use Rattle.bus_specs.specs.Bus.{Bus, Setup, Member, Running, LostNotice, FormatNotice, off, with_member}
use Rattle.bus_specs.specs.Inbox.{enter, take_inbox, member_after_inbox, later_part}
use Rattle.bus_specs.specs.Finish.{recover, member_after_return}
use Rattle.bus_specs.specs.Sound.{Sound, SoundMember, SoundRequest, IsEcho, on, may_send}
use Rattle.bus_sound.proofs.Among.{Among}
use Rattle.bus_sound.proofs.Lists.{All-each, each-All}
use Rattle.bus_sound.proofs.Members.{KeepsNodes, nodes-map, member_is-map, some-running-moves, last-moves}

pub record IsQuiet (s : Setup) (r : Option Running) (ms : List Member) (f : Member → Member) : Type 0 where
  pub node : KeepsNodes f
  pub off : (m : Member) → off m ≡ false → off (f m) ≡ false
  pub live : (m : Member) → m.live ≡ true → (f m).live ≡ true
  pub sound : (m : Member) → Among ms m → SoundMember s r m → SoundMember s r (f m)

pub quiet-on : (s : Setup) (r : Option Running) (f : Member → Member) (ms : List Member) → IsQuiet s r ms f
    → (n : ℕ) → on ms n ≡ true → on (map f ms) n ≡ true
quiet-on s r f ms q n h = member_is-map (λ m. not (off m)) (λ m. not (off m)) f ms n q.node
    (λ m a e t. not_from_false (off (f m)) (q.off m (not-true (off m) t))) h

pub quiet-may : (s : Setup) (r : Option Running) (f : Member → Member) (ms : List Member) → IsQuiet s r ms f
    → (n : ℕ) → may_send ms n ≡ true → may_send (map f ms) n ≡ true
quiet-may s r f ms q n h = member_is-map (λ m. m.live && not (off m)) (λ m. m.live && not (off m)) f ms n q.node
    (λ m a e t. let both = and_parts m.live (not (off m)) t in
    and_from (f m).live (not (off (f m))) (q.live m both.0) (not_from_false (off (f m)) (q.off m (not-true (off m) both.1)))) h

pub quiet-sound : (b : Bus) (f : Member → Member) → Sound b → IsQuiet b.setup b.running b.members f → Sound (record b { members = map f b.members })
quiet-sound b f h q = record {
  setup = h.setup;
  nodes = ((h.nodes).0, rw (nodes-map f q.node b.members) (h.nodes).1);
  numbers = h.numbers;
  requests = All-each (SoundRequest b.setup (map f b.members)) b.requests
      (λ x a. let r = each-All (SoundRequest b.setup b.members) b.requests x h.requests a in
      record { sender = quiet-may b.setup b.running f b.members q x.node r.sender; frame = r.frame });
  at_most = h.at_most;
  members = All-map (SoundMember b.setup b.running) f b.members
      (All-each (λ m. SoundMember b.setup b.running (f m)) b.members
      (λ m a. q.sound m a (each-All (SoundMember b.setup b.running) b.members m h.members a)));
  running = some-running-moves b.setup b.members (map f b.members) b.running (quiet-on b.setup b.running f b.members q) h.running;
  last = last-moves f b.members b.last_sender q.node h.last;
}

-- the same of one member
abbrev pub one : ℕ → (Member → Member) → Member → Member
one node change m = if m.node == node then change m else m

pub one-quiet : (s : Setup) (r : Option Running) (ms : List Member) (node : ℕ) (change : Member → Member) → IsQuiet s r ms change → IsQuiet s r ms (one node change)
one-quiet s r ms node change q = record {
  node = λ m. by_node m (m.node == node);
  off = λ m h. by_off m (m.node == node) h;
  live = λ m h. by_live m (m.node == node) h;
  sound = λ m a h. by_sound m a (m.node == node) h;
}
  where
    by_node : (m : Member) (t : Bool) → (if t then change m else m).node ≡ m.node
    by_node m true = q.node m
    by_node m false = refl

    by_off : (m : Member) (t : Bool) → off m ≡ false → off (if t then change m else m) ≡ false
    by_off m true h = q.off m h
    by_off m false h = h

    by_live : (m : Member) (t : Bool) → m.live ≡ true → (if t then change m else m).live ≡ true
    by_live m true h = q.live m h
    by_live m false h = h

    by_sound : (m : Member) → Among ms m → (t : Bool) → SoundMember s r m → SoundMember s r (if t then change m else m)
    by_sound m a true h = q.sound m a h
    by_sound m a false h = h

pub one-sound : (b : Bus) (node : ℕ) (change : Member → Member) → Sound b → IsQuiet b.setup b.running b.members change → Sound (with_member b node change)
one-sound b node change h q = quiet-sound b (one node change) h (one-quiet b.setup b.running b.members node change q)

pub enter-sound : (b : Bus) (node : ℕ) → Sound b → Sound (enter b node)
enter-sound b node h = one-sound b node (λ m. record m { live = true }) h (record {
  node = λ m. refl;
  off = λ m k. k;
  live = λ m k. refl;
  sound = λ m a k. record {
    tec = k.tec;
    rec = k.rec;
    off = k.off;
    seen = k.seen;
    absent = λ e. absurd (both_ways true e refl);
    echo = k.echo;
    mail = k.mail;
  };
})

later_part-none : {A : Type 0} (when : A → ℕ) (now : ℕ) (o : Option A) → o ≡ None → later_part when now o ≡ None
later_part-none when now o e = rw e refl

later_part-kept : {A : Type 0} (when : A → ℕ) (now : ℕ) (P : A → Type 0) (o : Option A) → IfSome o P → IfSome (later_part when now o) P
later_part-kept when now P None h = tt
later_part-kept {A} when now P (Some n) h = go (nat_le (when n) now)
  where
    go : (t : Bool) → IfSome (if t then None else Some n) P
    go true = tt
    go false = h

pub take_inbox-sound : (b : Bus) (now node : ℕ) → Sound b → Sound (take_inbox b now node).0
unfolding take_inbox
take_inbox-sound b now node h = one-sound b node (member_after_inbox now) h (record {
  node = λ m. refl;
  off = λ m k. k;
  live = λ m k. k;
  sound = λ m a k. record {
    tec = k.tec;
    rec = k.rec;
    off = k.off;
    seen = k.seen;
    absent = λ e. let n = k.absent e in record {
      lost = later_part-none (λ (x : LostNotice). x.due) now m.lost n.lost;
      format = later_part-none (λ (x : FormatNotice). x.due) now m.format n.format;
      wake = later_part-none (λ (x : ℕ). x) now m.wake n.wake;
      mail = refl;
    };
    echo = later_part-kept (λ (x : FormatNotice). x.due) now (λ (n : FormatNotice). IsEcho n.bytes) m.format k.echo;
    mail = tt;
  };
})

-- a return, whether due or not
pub recover-sound : (b : Bus) (now node : ℕ) → Sound b → Sound (recover b now node).0
unfolding recover
recover-sound b now node h = one-sound b node member_after_return h (record {
  node = λ m. refl;
  off = λ m k. refl;
  live = λ m k. k;
  sound = λ m a k. record {
    tec = omega arith;
    rec = omega arith;
    off = refl;
    seen = tt;
    absent = λ e. let n = k.absent e in record { lost = n.lost; format = n.format; wake = n.wake; mail = n.mail };
    echo = k.echo;
    mail = k.mail;
  };
})
