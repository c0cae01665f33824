-- A start: who wins, and what the bus is behind it.
use Rattle.std.proofs.Common.{◌≡◌, ◌≤◌, ◌+◌, ◌^◌, ℕ, List, [], ◌∷◌, ◌++◌, take, drop, length, true, false, not, Option, Some, None, map, filter, ap, sym, ◌∙◌, arith, refl}
use Rattle.std.specs.Prelude.{is_some, option_map}
use Rattle.std.proofs.lemmas.Bool.{false≢true}
use Rattle.std.proofs.lemmas.List.{take_all, drop_all, append-nil}
use Rattle.run_specs.specs.Order.{foremost}
use Rattle.bus_specs.specs.Bus.{Bus, Member, Request, Running, offers, winner, bits}
use Rattle.bus_specs.specs.Due.{next_due, at}
use Rattle.bus_specs.specs.Due as due
use Rattle.bus_specs.specs.Start.{spans, course, running_frame, discarded, member_after_start, is_gone, lost_by, bus_after_start, start_lines, start_with, start}
use Rattle.bus_sound.proofs.Consequences.{start-wins}
use Rattle.bus_sound.proofs.Started.{start-sound}
use Rattle.log_specs.specs.Line as log
use Rattle.log_specs.specs.Line.{Line, On}
use Rattle.bus_medium.specs.Offers.{request_at, somes}
use Rattle.bus_medium.specs.Losers.{gone_of, gone_from, loser_lines, is_among_gone, member_from}
use Rattle.bus_medium.specs.Setups.{IsKept}
use Rattle.bus_medium.specs.declared.starting.Gone.{Gone}
use Rattle.bus_medium.proofs.Offering.{before}
use Rattle.bus_medium.proofs.Losing.{gone_id-is, is_among_gone-is}

pub winner-by : (b : Bus) (now : ℕ) → foremost before (offers b now) ≡ winner b now
unfolding winner
winner-by b now = refl

pub won : (b : Bus) (now : ℕ) → (d : (since : ℕ) × (next_due b since ≡ Some (at due.Start now))) → (w : Request) × (winner b now ≡ Some w)
won b now d = go (winner b now) refl (start-wins b d.0 now d.1)
  where
    go : (o : Option Request) → winner b now ≡ o → is_some o ≡ true → (w : Request) × (winner b now ≡ Some w)
    go None e h = absurd (false≢true h)
    go (Some w) e h = (w, e)

pub not-lost : (b : Bus) (now : ℕ) → (d : (since : ℕ) × (next_due b since ≡ Some (at due.Start now))) → winner b now ≡ None → ⊥
not-lost b now d e = let h : true ≡ false = sym (start-wins b d.0 now d.1) ∙ ap is_some e in false≢true (sym h)

module _ (b : Bus) (now : ℕ) (rs : List Request) where
  member-is : (m : Member) → member_from (spans b now) (now + bits b 1) (map gone_of rs) m ≡ member_after_start b now rs m
  member-is m = ap (λ o. record m { occurrences = option_map (λ n. n + spans b now) m.occurrences; lost = lost_by (now + bits b 1) m.lost o }) (gone_id-is rs m.node)

  members-are : (ms : List Member) → map (member_from (spans b now) (now + bits b 1) (map gone_of rs)) ms ≡ map (member_after_start b now rs) ms
  members-are [] = refl
  members-are (m ∷ ms) =
      ap (λ l. member_from (spans b now) (now + bits b 1) (map gone_of rs) m ∷ l) (members-are ms)
      ∙ ap (λ x. x ∷ map (member_after_start b now rs) ms) (member-is m)

  requests-are : (qs : List Request) → filter (λ q. not (is_among_gone (map gone_of rs) q)) qs ≡ filter (λ q. not (is_gone rs q)) qs
  requests-are [] = refl
  requests-are (q ∷ qs) = rw (is_among_gone-is rs q, requests-are qs) refl

-- the bus behind a start, by what is taken down of it
abbrev pub behind : Bus → ℕ → List Gone → Running → Bus
behind b now gone r = record b {
  members = map (member_from (spans b now) (now + bits b 1) gone) b.members;
  requests = filter (λ q. not (is_among_gone gone q)) b.requests;
  attempts = b.attempts + 1;
  running = Some r;
}

pub start-state : (b : Bus) (now : ℕ) (w : Request) (gone : List Gone) (r : Running) → winner b now ≡ Some w
    → gone ≡ map gone_of (discarded b now w.node) → r ≡ running_frame w (course b now w) → behind b now gone r ≡ (start b now).0
unfolding start
start-state b now w gone r e g run =
    ap (λ x. behind b now x r) g
    ∙ ap (λ x. behind b now (map gone_of (discarded b now w.node)) x) run
    ∙ ap (λ ms. record (behind b now (map gone_of (discarded b now w.node)) (running_frame w (course b now w))) { members = ms }) (members-are b now (discarded b now w.node) b.members)
    ∙ ap (λ qs. record (bus_after_start b now w) { requests = qs }) (requests-are b now (discarded b now w.node) b.requests)
    ∙ ap (λ o. (start_with b now o).0) (sym e)

pub start-log : (b : Bus) (now : ℕ) (w : Request) → winner b now ≡ Some w → start_lines b now w ≡ (start b now).1
unfolding start
start-log b now w e = ap (λ o. (start_with b now o).1) (sym e)

pub start-kept : (b : Bus) (now : ℕ) → IsKept b → (d : (since : ℕ) × (next_due b since ≡ Some (at due.Start now))) → IsKept (start b now).0
unfolding start
start-kept b now k d = record { sound = start-sound b d.0 now k.sound d.1; idle = go (winner b now) }
  where
    go : (o : Option Request) → (start_with b now o).0.idle ≤ 2 ^ 63 + 2 ^ 42
    go None = k.idle
    go (Some w) = k.idle

-- what is chosen at a place wins
pub chosen-wins : (b : Bus) (now : ℕ) (rs : List Request) (os os' : List (Option ℕ)) (o : Option Request) → rs ≡ b.requests → os' ≡ os
    → somes (map (request_at b.requests) os) ≡ offers b now → o ≡ foremost before (somes (map (request_at rs) os')) → o ≡ winner b now
chosen-wins b now rs os os' o all two offered best =
    best ∙ ap (λ l. foremost before (somes (map (request_at l) os'))) all ∙ ap (λ l. foremost before (somes (map (request_at b.requests) l))) two
    ∙ ap (foremost before) offered ∙ winner-by b now

pub same-winner : (b : Bus) (now : ℕ) (v w : Request) → Some v ≡ winner b now → winner b now ≡ Some w → v ≡ w
same-winner b now v w d e = let s : Some v ≡ Some w = d ∙ e in cc

pub lines-of : (b : Bus) (now : ℕ) (v w : Request) (os os' : List (Option ℕ)) (ls : List Line) → v ≡ w → os' ≡ os
    → somes (map (request_at b.requests) os) ≡ offers b now
    → ls ≡ On now b.setup.number v.node (log.Start v.frame) ∷ loser_lines b now v.node (somes (map (request_at b.requests) os'))
    → ls ≡ start_lines b now w
lines-of b now v w os os' ls same two offered e =
    e ∙ ap (λ l. On now b.setup.number v.node (log.Start v.frame) ∷ loser_lines b now v.node (somes (map (request_at b.requests) l))) two
    ∙ ap (λ l. On now b.setup.number v.node (log.Start v.frame) ∷ loser_lines b now v.node l) offered
    ∙ ap (λ x. start_lines b now x) same

pub gone-of : (b : Bus) (now : ℕ) (v w : Request) (os os' : List (Option ℕ)) (gone : List Gone) → v ≡ w → os' ≡ os
    → somes (map (request_at b.requests) os) ≡ offers b now → gone ≡ gone_from b v.node (somes (map (request_at b.requests) os'))
    → gone ≡ map gone_of (discarded b now w.node)
gone-of b now v w os os' gone same two offered e =
    e ∙ ap (λ l. gone_from b v.node (somes (map (request_at b.requests) l))) two
    ∙ ap (gone_from b v.node) offered
    ∙ ap (λ (x : Request). map gone_of (discarded b now x.node)) same

-- what a slice of all elements leaves
pub whole-slice : (old new : List Member) (n : ℕ) → n ≡ length old → length new ≡ length old → take n (new ++ drop (length new) old) ≡ new
whole-slice old new n e k =
    ap (λ l. take n (new ++ l)) (drop_all (length new) old (omega (arith, k)))
    ∙ ap (take n) (append-nil new)
    ∙ take_all n new (omega (arith, e, k))

-- the bus behind a start, with its parts as they are found
pub start-found : (b : Bus) (now : ℕ) (w : Request) (gone : List Gone) (r : Running) (ms : List Member) (qs : List Request) (n t : ℕ)
    → winner b now ≡ Some w → gone ≡ map gone_of (discarded b now w.node) → r ≡ running_frame w (course b now w)
    → n ≡ spans b now → t ≡ bits b 1 → ms ≡ map (member_from n (now + t) gone) b.members → qs ≡ filter (λ q. not (is_among_gone gone q)) b.requests
    → record b { members = ms; requests = qs; attempts = b.attempts + 1; running = Some r } ≡ (start b now).0
start-found b now w gone r ms qs n t e g run ns ts members requests =
    ap (λ x. record b { members = x; requests = qs; attempts = b.attempts + 1; running = Some r })
    (members ∙ ap (λ x. map (member_from x (now + t) gone) b.members) ns ∙ ap (λ x. map (member_from (spans b now) (now + x) gone) b.members) ts)
    ∙ ap (λ x. record (behind b now gone r) { requests = x }) requests
    ∙ start-state b now w gone r e g run
