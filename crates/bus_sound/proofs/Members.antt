-- Members: a change that keeps nodes; what a sound bus says of a member by its node.
use Rattle.std.proofs.Common.{◌≡◌, ℕ, ◌==◌, Bool, true, false, not, List, [], ◌∷◌, map, IfSome, Option, Some, None, sym, refl, ap, ◌∙◌, eq-eqb}
use Rattle.std.specs.Prelude.{◌&&◌}
use Rattle.std.proofs.lemmas.Bool.{and_parts, and_from, eqb-true, not-true}
use Rattle.bus_specs.specs.Bus.{Setup, Member, Running, Fault, Hurt, member_is, off}
use Rattle.bus_specs.specs.Sound.{SoundRunning, SoundHurt, SoundOutcome, Rise, on, may_send}
use Rattle.bus_sound.proofs.Among.{Among}
use Rattle.bus_sound.proofs.Lists.{All-each, each-All, among-map, any_from, any_to, unique}

abbrev pub KeepsNodes : (Member → Member) → Type 0
KeepsNodes f = (m : Member) → (f m).node ≡ m.node

abbrev pub nodes_of : List Member → List ℕ
nodes_of ms = map (λ m. m.node) ms

pub nodes-map : (f : Member → Member) → KeepsNodes f → (ms : List Member) → nodes_of (map f ms) ≡ nodes_of ms
nodes-map f k [] = refl
nodes-map f k (m ∷ ms) = rw (k m) (ap (λ ns. m.node ∷ ns) (nodes-map f k ms))

pub is_from : (test : Member → Bool) (ms : List Member) (m : Member) (n : ℕ) → Among ms m → m.node ≡ n → test m ≡ true → member_is test ms n ≡ true
is_from test ms m n a e t = any_from (λ x. (x.node == n) && test x) ms m a (and_from (m.node == n) (test m) (eq-eqb m.node n e) t)

pub record Is (test : Member → Bool) (ms : List Member) (n : ℕ) : Type 0 where
  pub member : Member
  pub among : Among ms member
  pub node : member.node ≡ n
  pub holds : test member ≡ true

pub is_to : (test : Member → Bool) (ms : List Member) (n : ℕ) → member_is test ms n ≡ true → Is test ms n
is_to test ms n h =
    let r = any_to (λ x. (x.node == n) && test x) ms h in
    let both = and_parts ((r.0).node == n) (test r.0) r.2 in
    record { member = r.0; among = r.1; node = eqb-true (r.0).node n both.0; holds = both.1 }

-- a test that holds before a change, and another behind it
pub member_is-map : (P Q : Member → Bool) (f : Member → Member) (ms : List Member) (n : ℕ) → KeepsNodes f
    → ((m : Member) → Among ms m → m.node ≡ n → P m ≡ true → Q (f m) ≡ true)
    → member_is P ms n ≡ true → member_is Q (map f ms) n ≡ true
member_is-map P Q f ms n keeps moves h =
    let i = is_to P ms n h in
    is_from Q (map f ms) (f i.member) n (among-map f ms i.member i.among) (keeps i.member ∙ i.node) (moves i.member i.among i.node i.holds)

-- where nodes rise, a test that holds at a node holds of each member of this node
pub is_at : (test : Member → Bool) (ms : List Member) (m : Member) (below : ℕ) → Rise 0 (nodes_of ms) below → Among ms m
    → member_is test ms m.node ≡ true → test m ≡ true
is_at test ms m below rise a h =
    let i = is_to test ms m.node h in
    let same : i.member ≡ m = unique (λ (x : Member). x.node) 0 ms i.member m below rise i.among a i.node in
    ap test (sym same) ∙ i.holds

pub off-on : (m : Member) → not (off m) ≡ true → off m ≡ false
off-on m h = not-true (off m) h

pub may-on : (ms : List Member) (n : ℕ) → may_send ms n ≡ true → on ms n ≡ true
may-on ms n h =
    let i = is_to (λ m. m.live && not (off m)) ms n h in
    is_from (λ m. not (off m)) ms i.member n i.among i.node (and_parts (i.member).live (not (off i.member)) i.holds).1

-- a frame that runs among members goes on among others that are on where those were
pub outcome-moves : (ms ms' : List Member) (heard : List ℕ) (fault : Option Fault) → ((n : ℕ) → on ms n ≡ true → on ms' n ≡ true)
    → SoundOutcome ms heard fault → SoundOutcome ms' heard fault
outcome-moves ms ms' heard None moves h = h
outcome-moves ms ms' heard (Some e) moves h = (moves e.by h.0, h.1, h.2)

pub hurt-moves : (ms ms' : List Member) (heard : List ℕ) (hurt : Option Hurt) → ((n : ℕ) → on ms n ≡ true → on ms' n ≡ true)
    → IfSome hurt (SoundHurt ms heard) → IfSome hurt (SoundHurt ms' heard)
hurt-moves ms ms' heard None moves h = tt
hurt-moves ms ms' heard (Some x) moves h = record { on = moves x.node h.on; kind = h.kind; apart = h.apart }

pub running-moves : (s : Setup) (ms ms' : List Member) (r : Running) → ((n : ℕ) → on ms n ≡ true → on ms' n ≡ true)
    → SoundRunning s ms r → SoundRunning s ms' r
running-moves s ms ms' r moves h = record {
  sender = moves r.sender h.sender;
  listeners = All-each (λ n. on ms' n ≡ true) r.listeners (λ n a. moves n (each-All (λ n. on ms n ≡ true) r.listeners n h.listeners a));
  rise = h.rise;
  apart = h.apart;
  outcome = outcome-moves ms ms' r.listeners r.fault moves h.outcome;
  hurt = hurt-moves ms ms' r.listeners r.hurt moves h.hurt;
  frame = h.frame;
}

pub some-running-moves : (s : Setup) (ms ms' : List Member) (o : Option Running) → ((n : ℕ) → on ms n ≡ true → on ms' n ≡ true)
    → IfSome o (SoundRunning s ms) → IfSome o (SoundRunning s ms')
some-running-moves s ms ms' None moves h = tt
some-running-moves s ms ms' (Some r) moves h = running-moves s ms ms' r moves h

pub last-moves : (f : Member → Member) (ms : List Member) (o : Option ℕ) → KeepsNodes f
    → IfSome o (λ n. member_is (λ m. true) ms n ≡ true) → IfSome o (λ n. member_is (λ m. true) (map f ms) n ≡ true)
last-moves f ms None k h = tt
last-moves f ms (Some n) k h = member_is-map (λ m. true) (λ m. true) f ms n k (λ m a e t. refl) h
