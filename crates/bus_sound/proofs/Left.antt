-- A node that leaves keeps a sound bus sound: its running frame goes on.
use Rattle.std.proofs.Common.{◌≡◌, ℕ, ◌==◌, Bool, true, false, not, if◌then◌else◌, map, filter, Option, arith, sym, refl, subst}
use Rattle.std.specs.Prelude.{◌&&◌}
use Rattle.std.proofs.lemmas.Bool.{not-true}
use Rattle.std.proofs.lemmas.List.Elements.{All-map}
use Rattle.bus_specs.specs.Bus.{Bus, Setup, Member, Request, Running, off}
use Rattle.bus_specs.specs.Inbox.{leave, member_after_leaving}
use Rattle.bus_specs.specs.Sound.{Sound, SoundMember, SoundRequest}
use Rattle.bus_sound.proofs.Among.{Among, filter-among}
use Rattle.bus_sound.proofs.Lists.{All-each, each-All, rise-filter, count-filter}
use Rattle.bus_sound.proofs.Members.{KeepsNodes, nodes-map, member_is-map, some-running-moves, last-moves}
use Rattle.bus_sound.proofs.Quiet.{one}

depart-nodes : (node : ℕ) → KeepsNodes (one node member_after_leaving)
depart-nodes node m = go (m.node == node)
  where
    go : (t : Bool) → (if t then member_after_leaving m else m).node ≡ m.node
    go true = refl
    go false = refl

depart-off : (node : ℕ) (m : Member) → not (off m) ≡ true → not (off (one node member_after_leaving m)) ≡ true
depart-off node m h = go (m.node == node)
  where
    go : (t : Bool) → not (off (if t then member_after_leaving m else m)) ≡ true
    go true = h
    go false = h

depart-other : (node : ℕ) (m : Member) → (m.node == node) ≡ false → one node member_after_leaving m ≡ m
depart-other node m e = rw e refl

depart-member : (s : Setup) (r : Option Running) (node : ℕ) (m : Member) → SoundMember s r m → SoundMember s r (one node member_after_leaving m)
depart-member s r node m k = go (m.node == node)
  where
    go : (t : Bool) → SoundMember s r (if t then member_after_leaving m else m)
    go true = record {
      tec = k.tec;
      rec = k.rec;
      off = k.off;
      seen = k.seen;
      absent = λ e. record { lost = refl; format = refl; wake = refl; mail = refl };
      echo = tt;
      mail = tt;
    }
    go false = k

pub leave-sound : (b : Bus) (node : ℕ) → Sound b → Sound (leave b node)
leave-sound b node h = record {
  setup = h.setup;
  nodes = ((h.nodes).0, rw (nodes-map f (depart-nodes node) b.members) (h.nodes).1);
  numbers = rise-filter (λ (q : Request). q.number) stays 0 b.requests b.next h.numbers;
  requests = All-each (SoundRequest b.setup (map f b.members)) (filter stays b.requests)
      (λ q a. kept q (filter-among stays b.requests q a).0 (filter-among stays b.requests q a).1);
  at_most = λ n. omega (arith, h.at_most n, count-filter (λ (q : Request). q.node == n) stays b.requests);
  members = All-map (SoundMember b.setup b.running) f b.members
      (All-each (λ m. SoundMember b.setup b.running (f m)) b.members
      (λ m a. depart-member b.setup b.running node m (each-All (SoundMember b.setup b.running) b.members m h.members a)));
  running = some-running-moves b.setup b.members (map f b.members) b.running
      (λ n k. member_is-map (λ m. not (off m)) (λ m. not (off m)) f b.members n (depart-nodes node) (λ m a e t. depart-off node m t) k) h.running;
  last = last-moves f b.members b.last_sender (depart-nodes node) h.last;
}
  where
    f : Member → Member
    f = one node member_after_leaving

    stays : Request → Bool
    stays q = not (q.node == node)

    kept : (q : Request) → Among b.requests q → stays q ≡ true → SoundRequest b.setup (map f b.members) q
    kept q a e =
        let r = each-All (SoundRequest b.setup b.members) b.requests q h.requests a in
        record {
          sender = member_is-map (λ m. m.live && not (off m)) (λ m. m.live && not (off m)) f b.members q.node (depart-nodes node)
              (λ m c s t. let other : (m.node == node) ≡ false = subst (λ k. (k == node) ≡ false) (sym s) (not-true (q.node == node) e) in
              subst (λ (x : Member). (x.live && not (off x)) ≡ true) (sym (depart-other node m other)) t) r.sender;
          frame = r.frame;
        }
