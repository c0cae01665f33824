-- Each step of a bus, but the entering and leaving of a node, changes members one by one and keeps them live.
use Rattle.std.proofs.Common.{◌≡◌, ℕ, ◌+◌, ◌==◌, Bool, true, false, if◌then◌else◌, List, [], ◌∷◌, map, Option, Some, None, refl, ap, ◌∙◌}
use Rattle.frame_specs.specs.Frame.{Frame}
use Rattle.bus_specs.specs.Bus.{Bus, Member, Request, Running, with_member, bits, winner, member_is}
use Rattle.bus_specs.specs.Submit.{Submission, Transmit, Keep, Discard, Wakeup, Sleep, Rate, FdRate, Declare, FormatError, Unfit, Fate, Accepted, Full, Dropped, fate, with_request, submit, member_after_wakeup, wake_notice, format_notice}
use Rattle.bus_specs.specs.Inbox.{enter, take_inbox, member_after_inbox}
use Rattle.bus_specs.specs.Start.{start, start_with, member_after_start, discarded}
use Rattle.bus_specs.specs.Finish.{finish, finish_with, recover, member_after_return, member_after_finish}
use Rattle.bus_sound.proofs.Among.{Among}
use Rattle.bus_sound.proofs.Members.{KeepsNodes, nodes-map, member_is-map}
use Rattle.bus_sound.proofs.Quiet.{one}

-- a step that changes members one by one, each staying live under its node
pub record Steady (b after : Bus) : Type 0 where
  pub setup : after.setup ≡ b.setup
  pub change : Member → Member
  pub members : after.members ≡ map change b.members
  pub node : KeepsNodes change
  pub live : (m : Member) → m.live ≡ true → (change m).live ≡ true

-- all as it was
map-same : (ms : List Member) → ms ≡ map (λ m. m) ms
map-same [] = refl
map-same (m ∷ ms) = ap (λ l. m ∷ l) (map-same ms)

still : (b after : Bus) → after.setup ≡ b.setup → after.members ≡ b.members → Steady b after
still b after e f = record { setup = e; change = λ m. m; members = f ∙ map-same b.members; node = λ m. refl; live = λ m k. k }

one-steady : (b : Bus) (node : ℕ) (change : Member → Member) → KeepsNodes change → ((m : Member) → m.live ≡ true → (change m).live ≡ true)
    → Steady b (with_member b node change)
one-steady b node change n l = record { setup = refl; change = one node change; members = refl; node = λ m. by_node m (m.node == node); live = λ m k. by_live m (m.node == node) k }
  where
    by_node : (m : Member) (t : Bool) → (if t then change m else m).node ≡ m.node
    by_node m true = n m
    by_node m false = refl

    by_live : (m : Member) (t : Bool) → m.live ≡ true → (if t then change m else m).live ≡ true
    by_live m true k = l m k
    by_live m false k = k

member_after_wakeup-steady : (b : Bus) (node due : ℕ) → Steady b (record b { members = map (member_after_wakeup node due) b.members })
member_after_wakeup-steady b node due = record { setup = refl; change = member_after_wakeup node due; members = refl; node = λ m. by_node m (m.node == node) m.live; live = λ m k. by_live m (m.node == node) m.live k }
  where
    by_node : (m : Member) (t u : Bool) → (if t then record m { awake = true } else if u then record m { wake = wake_notice due m.wake } else m).node ≡ m.node
    by_node m true u = refl
    by_node m false true = refl
    by_node m false false = refl

    by_live : (m : Member) (t u : Bool) → m.live ≡ true → (if t then record m { awake = true } else if u then record m { wake = wake_notice due m.wake } else m).live ≡ true
    by_live m true u k = k
    by_live m false true k = k
    by_live m false false k = k

fate-steady : (b : Bus) (node : ℕ) (f : Frame) (x : Fate) → Steady b (with_request b node f x)
fate-steady b node f Accepted = still b (with_request b node f Accepted) refl refl
fate-steady b node f Full = still b b refl refl
fate-steady b node f Dropped = still b b refl refl

pub submit-steady : (b : Bus) (now node : ℕ) (what : Submission) → Steady b (submit b now node what).0
unfolding submit
submit-steady b now node (Transmit f) = fate-steady b node f (fate b node)
submit-steady b now node Keep = one-steady b node (λ m. record m { discards = false }) (λ m. refl) (λ m k. k)
submit-steady b now node Discard = one-steady b node (λ m. record m { discards = true }) (λ m. refl) (λ m k. k)
submit-steady b now node Wakeup = member_after_wakeup-steady b node (now + bits b 1)
submit-steady b now node Sleep = one-steady b node (λ m. record m { awake = false }) (λ m. refl) (λ m k. k)
submit-steady b now node (Rate v) = still b b refl refl
submit-steady b now node (FdRate v) = still b b refl refl
submit-steady b now node (Declare l) = still b b refl refl
submit-steady b now node (FormatError bytes) = still b b refl refl
submit-steady b now node (Unfit bytes) = one-steady b node (λ m. record m { format = format_notice (now + bits b 1) bytes m.format }) (λ m. refl) (λ m k. k)

pub start-steady : (b : Bus) (now : ℕ) → Steady b (start b now).0
unfolding start
start-steady b now = go (winner b now)
  where
    go : (o : Option Request) → Steady b (start_with b now o).0
    go None = still b b refl refl
    go (Some w) = record { setup = refl; change = member_after_start b now (discarded b now w.node); members = refl; node = λ m. refl; live = λ m k. k }

pub finish-steady : (b : Bus) (now : ℕ) → Steady b (finish b now).0
unfolding finish
finish-steady b now = go b.running
  where
    go : (o : Option Running) → Steady b (finish_with b now o).0
    go None = still b b refl refl
    go (Some r) = record { setup = refl; change = member_after_finish r; members = refl; node = λ m. refl; live = λ m k. k }

pub recover-steady : (b : Bus) (now node : ℕ) → Steady b (recover b now node).0
unfolding recover
recover-steady b now node = one-steady b node member_after_return (λ m. refl) (λ m k. k)

pub take-steady : (b : Bus) (now node : ℕ) → Steady b (take_inbox b now node).0
unfolding take_inbox
take-steady b now node = one-steady b node (member_after_inbox now) (λ m. refl) (λ m k. k)

-- a live member stays one
pub steady-live : (b after : Bus) (node : ℕ) → Steady b after → member_is (λ m. m.live) b.members node ≡ true
    → member_is (λ m. m.live) after.members node ≡ true
steady-live b after node s h = ap (λ ms. member_is (λ m. m.live) ms node) s.members
    ∙ member_is-map (λ m. m.live) (λ m. m.live) s.change b.members node s.node (λ m a e t. s.live m t) h

-- a member stays one
pub steady-member : (b after : Bus) (node : ℕ) → Steady b after → member_is (λ m. true) b.members node ≡ true
    → member_is (λ m. true) after.members node ≡ true
steady-member b after node s h = ap (λ ms. member_is (λ m. true) ms node) s.members
    ∙ member_is-map (λ m. true) (λ m. true) s.change b.members node s.node (λ m a e t. refl) h

-- a node that enters
pub enter-steady : (b : Bus) (node : ℕ) → Steady b (enter b node)
enter-steady b node = one-steady b node (λ m. record m { live = true }) (λ m. refl) (λ m k. refl)
