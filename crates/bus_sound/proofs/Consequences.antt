-- What a caller learns from a sound bus.
use Rattle.std.proofs.Common.{◌≡◌, ℕ, ◌≤◌, ◌==◌, true, false, not, filter, Option, Some, None, is_some, arith, sym, refl, subst}
use Rattle.std.specs.Prelude.{◌&&◌, IfSome, nat_le}
use Rattle.std.proofs.lemmas.Bool.{and_parts, and_from, both_ways, not-true, le-leb}
use Rattle.frame_specs.specs.Dominance.{beats}
use Rattle.bus_specs.specs.Bus.{Bus, Member, Request, Running, Hurt, off, offer, offers, able, wants, ready_moment, has_request, takes_part, winner}
use Rattle.run_specs.specs.Order.{foremost}
use Rattle.bus_specs.specs.Due.{next_due, at}
use Rattle.bus_specs.specs.Due as due
use Rattle.bus_specs.specs.Sound.{Sound, SoundMember, SoundRequest, SoundRunning, SoundHurt, on, may_send}
use Rattle.bus_sound.proofs.Among.{Among, among-filter, among-filter_map}
use Rattle.bus_sound.proofs.Lists.{each-All, any_to}
use Rattle.bus_sound.proofs.Orders.{foremost-some}
use Rattle.bus_sound.proofs.Members.{is_at, off-on}
use Rattle.bus_sound.proofs.Dues.{start-due}

running-of : (b : Bus) (r : Running) → Sound b → b.running ≡ Some r → SoundRunning b.setup b.members r
running-of b r h e = subst (λ o. IfSome o (SoundRunning b.setup b.members)) e h.running

member-of : (b : Bus) (m : Member) → Sound b → Among b.members m → SoundMember b.setup b.running m
member-of b m h a = each-All (SoundMember b.setup b.running) b.members m h.members a

here : (b : Bus) (m : Member) → Sound b → Among b.members m → on b.members m.node ≡ true → off m ≡ false
here b m h a k = off-on m (is_at (λ x. not (off x)) b.members m (h.nodes).0 (h.nodes).1 a k)

-- a node that takes part in a running frame is not off
pub sender-on : (b : Bus) (r : Running) (m : Member) → Sound b → b.running ≡ Some r → Among b.members m → m.node ≡ r.sender → off m ≡ false
sender-on b r m h e a s = here b m h a (subst (λ n. on b.members n ≡ true) (sym s) (running-of b r h e).sender)

pub listener-on : (b : Bus) (r : Running) (m : Member) → Sound b → b.running ≡ Some r → Among b.members m → Among r.listeners m.node → off m ≡ false
listener-on b r m h e a l = here b m h a (each-All (λ n. on b.members n ≡ true) r.listeners m.node (running-of b r h e).listeners l)

pub hurt-on : (b : Bus) (r : Running) (x : Hurt) (m : Member) → Sound b → b.running ≡ Some r → r.hurt ≡ Some x → Among b.members m → m.node ≡ x.node → off m ≡ false
hurt-on b r x m h e k a s = here b m h a (subst (λ n. on b.members n ≡ true) (sym s) (go r.hurt k (running-of b r h e).hurt))
  where
    go : (o : Option Hurt) → o ≡ Some x → IfSome o (SoundHurt b.members r.listeners) → on b.members x.node ≡ true
    go None q i = absurd cc
    go (Some y) q i = let s : y ≡ x = cc in subst (λ z. on b.members z.node ≡ true) s i.on

pub tec-bound : (b : Bus) (m : Member) → Sound b → Among b.members m → m.counters.tec ≤ 263
tec-bound b m h a = (member-of b m h a).tec

-- what waits is of a live node that is not off
pub waits-live : (b : Bus) (q : Request) (m : Member) → Sound b → Among b.requests q → Among b.members m → m.node ≡ q.node
    → (m.live ≡ true) × (off m ≡ false)
waits-live b q m h a c s =
    let r = each-All (SoundRequest b.setup b.members) b.requests q h.requests a in
    let k = is_at (λ x. x.live && not (off x)) b.members m (h.nodes).0 (h.nodes).1 c (subst (λ n. may_send b.members n ≡ true) (sym s) r.sender) in
    let both = and_parts m.live (not (off m)) k in
    (both.0, not-true (off m) both.1)

-- where a start is due, there is a winner; this needs no soundness
pub start-wins : (b : Bus) (since now : ℕ) → next_due b since ≡ Some (at due.Start now) → is_some (winner b now) ≡ true
unfolding winner
start-wins b since now d =
    let i = start-due b since now d in
    let ready_moment-now : ready_moment b i.member ≤ now = omega (arith, i.moment) in
    let may = and_from (wants b i.member) (nat_le (ready_moment b i.member) now) i.wants (le-leb (ready_moment b i.member) now ready_moment-now) in
    let has = (and_parts (takes_part i.member) (has_request b.requests (i.member).node) i.wants).1 in
    let q = any_to (λ r. r.node == (i.member).node) b.requests has in
    let own = among-filter (λ r. r.node == (i.member).node) b.requests q.0 q.1 q.2 in
    go i.member (among-filter (able b now) b.members i.member i.among may) (offer b.requests (i.member).node) refl
    (foremost-some (λ x y. beats x.frame y.frame) (filter (λ r. r.node == (i.member).node) b.requests) q.0 own)
  where
    go : (m : Member) → Among (filter (able b now) b.members) m → (o : Option Request) → offer b.requests m.node ≡ o → is_some o ≡ true
        → is_some (foremost (λ x y. beats x.frame y.frame) (offers b now)) ≡ true
    go m a None e k = absurd (both_ways false refl k)
    go m a (Some r) e k = foremost-some (λ x y. beats x.frame y.frame) (offers b now) r
        (among-filter_map (λ x. offer b.requests x.node) (filter (able b now) b.members) m r a e)
