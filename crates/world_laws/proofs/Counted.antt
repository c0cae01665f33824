-- How many attempts and request numbers there are: an attempt an event at most, and 256 numbers an event and a node.
use Rattle.std.proofs.Common.{◌≡◌, ◌≤◌, ◌<◌, ℕ, suc, ◌+◌, ◌*◌, ◌==◌, not, Bool, true, false, if◌then◌else◌, cond, List, [], ◌∷◌, ◌++◌, map, fold, length, Option, Some, None, All, arith, sym, refl, ap, subst, eq-eqb}
use Rattle.std.specs.Prelude.{nat_le}
use Rattle.std.specs.List.{cons_option}
use Rattle.std.proofs.lemmas.Bool.{leb-false, eqb-true}
use Rattle.std.proofs.lemmas.List.{length-map}
use Rattle.std.proofs.lemmas.List.Sums.{sum_by-append, sum_by-cons}
use Rattle.log_specs.specs.Line.{Line}
use Rattle.operation_specs.specs.Reading.{Item}
use Rattle.session_specs.specs.Outcome.{End}
use Rattle.session_specs.specs.Outcome as session
use Rattle.run_specs.specs.Run.{behind}
use Rattle.bus_specs.specs.Bus.{Bus, Request, new_bus, off, member_is, waiting}
use Rattle.bus_specs.specs.Start.{start}
use Rattle.bus_specs.specs.Finish.{finish, recover}
use Rattle.bus_specs.specs.Submit.{Submission, Transmit, Keep, Discard, Wakeup, Sleep, Rate, FdRate, Declare, FormatError, Unfit, Fate, Accepted, Full, Dropped, fate, with_request, submission_of, submit}
use Rattle.bus_specs.specs.Inbox.{take_inbox, enter}
use Rattle.bus_specs.specs.Sound.{Sound}
use Rattle.bus_sound.proofs.Among.{Among}
use Rattle.bus_sound.proofs.Lists.{All-each, each-All, map-among, count-filter}
use Rattle.bus_sound.proofs.Counts.{start-rises, finish-rises}
use Rattle.world_specs.specs.Units.{Units}
use Rattle.world_specs.specs.World.{World, Node}
use Rattle.world_specs.specs.Next.{What, Finish, Return, Sessions, Start, Event}
use Rattle.world_specs.specs.Sessions.{Turn, turn_of, turns, is_new, items_on, submission_step, emission_step, node_after}
use Rattle.world_specs.specs.Step.{outcome_of, world_behind}
use Rattle.world_specs.specs.Network.{network}
use Rattle.world_specs.specs.Plan.{Plan, new_nodes, opening_of}
use Rattle.world_specs.specs.Fits.{UnitsFit, Fits}
use Rattle.world_laws.specs.Words.{IsCounted, AllCounted}
use Rattle.world_laws.proofs.Changed.{along}
use Rattle.world_laws.proofs.OneBus.{entry, by_end, turn_on, turns_on, bus_behind, each-bus}
use Rattle.world_laws.proofs.Fitting.{fits-step}

-- no node has more than 256 requests
abbrev Few : Bus → Type 0
Few b = (node : ℕ) → waiting b.requests node ≤ 256

waiting-push : (rs : List Request) (q : Request) (n : ℕ) → waiting (rs ++ q ∷ []) n ≡ waiting rs n + cond (q.node == n) 1 0
waiting-push rs q n =
    let a = sum_by-append (λ (r : Request). cond (r.node == n) 1 0) rs (q ∷ []) in
    let c = sum_by-cons (λ (r : Request). cond (r.node == n) 1 0) q [] in
    omega (arith, a, c)

accepted-fewer : (b : Bus) (node : ℕ) → fate b node ≡ Accepted → waiting b.requests node < 256
accepted-fewer b node e = go (member_is off b.members node) (nat_le 256 (waiting b.requests node)) refl e
  where
    go : (t u : Bool) → nat_le 256 (waiting b.requests node) ≡ u → (if t then Dropped else if u then Full else Accepted) ≡ Accepted → waiting b.requests node < 256
    go true u q e = absurd cc
    go false true q e = absurd cc
    go false false q e = leb-false 256 (waiting b.requests node) q

-- each number that is given out is of a request of the node
record Gives (node : ℕ) (b after : Bus) : Type 0 where
  next : after.next + waiting b.requests node ≤ b.next + waiting after.requests node
  attempts : after.attempts ≤ b.attempts
  few : Few b → Few after

gives-none : (node : ℕ) (b after : Bus) → after.next ≡ b.next → after.attempts ≡ b.attempts → after.requests ≡ b.requests → Gives node b after
gives-none node b after n a r = record {
  next = let w : waiting after.requests node ≡ waiting b.requests node = ap (λ rs. waiting rs node) r in omega (arith, n, w);
  attempts = omega (arith, a);
  few = λ h m. let w : waiting after.requests m ≡ waiting b.requests m = ap (λ rs. waiting rs m) r in let l = h m in omega (arith, w, l);
}

own-one : (n : ℕ) → ◌≡◌ {A = ℕ} (cond (n == n) 1 0) 1
own-one n = rw (eq-eqb n n refl) refl

submit-gives : (t node : ℕ) (b : Bus) (what : Submission) → Gives node b (submit b t node what).0
unfolding submit
submit-gives t node b (Transmit f) = go (fate b node) refl
  where
    request : Request
    request = record { node = node; number = b.next; frame = f }

    go : (x : Fate) → fate b node ≡ x → Gives node b (with_request b node f x)
    go Full e = gives-none node b b refl refl refl
    go Dropped e = gives-none node b b refl refl refl
    go Accepted e = record {
      next = let w = waiting-push b.requests request node in let one = own-one node in omega (arith, w, one);
      attempts = omega arith;
      few = λ h m. let w = waiting-push b.requests request m in by m (node == m) refl w (h m);
    }
      where
        by : (m : ℕ) (q : Bool) → (node == m) ≡ q → waiting (b.requests ++ request ∷ []) m ≡ waiting b.requests m + cond (node == m) 1 0 → waiting b.requests m ≤ 256
            → waiting (b.requests ++ request ∷ []) m ≤ 256
        by m true q w l =
            let s : node ≡ m = eqb-true node m q in
            let less : waiting b.requests m < 256 = subst (λ k. waiting b.requests k < 256) s (accepted-fewer b node e) in
            let one : ◌≡◌ {A = ℕ} (cond (node == m) 1 0) 1 = rw q refl in omega (arith, w, one, less)
        by m false q w l = let none : ◌≡◌ {A = ℕ} (cond (node == m) 1 0) 0 = rw q refl in omega (arith, w, none, l)
submit-gives t node b Keep = gives-none node b _ refl refl refl
submit-gives t node b Discard = gives-none node b _ refl refl refl
submit-gives t node b Wakeup = gives-none node b _ refl refl refl
submit-gives t node b Sleep = gives-none node b _ refl refl refl
submit-gives t node b (Rate v) = gives-none node b b refl refl refl
submit-gives t node b (FdRate v) = gives-none node b b refl refl refl
submit-gives t node b (Declare l) = gives-none node b b refl refl refl
submit-gives t node b (FormatError bytes) = gives-none node b b refl refl refl
submit-gives t node b (Unfit bytes) = gives-none node b _ refl refl refl

then-gives : (node : ℕ) (b c d : Bus) → Gives node b c → Gives node c d → Gives node b d
then-gives node b c d x y = let m = x.next in let n = y.next in let i = x.attempts in let j = y.attempts in
    record { next = omega (arith, m, n); attempts = omega (arith, i, j); few = λ h. y.few (x.few h) }

items-give : (t node : ℕ) (items : List Item) (p : Bus × List Line) → Gives node p.0 (fold (submission_step t node) p items).0
items-give t node [] p = gives-none node p.0 p.0 refl refl refl
items-give t node (i ∷ items) p =
    then-gives node p.0 (submission_step t node p i).0 (fold (submission_step t node) p (i ∷ items)).0 (submit-gives t node p.0 (submission_of p.0.setup i)) (items-give t node items (submission_step t node p i))

take-gives : (t node : ℕ) (b : Bus) → Gives node b (take_inbox b t node).0
unfolding take_inbox
take-gives t node b = gives-none node b _ refl refl refl

-- so many numbers at most
record Within (n : ℕ) (b after : Bus) : Type 0 where
  next : after.next ≤ b.next + n
  attempts : after.attempts ≤ b.attempts
  few : Few after

end-within : (n : ℕ) (b : Bus) (e : End) (k : ℕ) (c : Bus) → Within n b c → Within n b (by_end e k c)
end-within n b session.Live k c h = h
end-within n b session.Over k c h = record { next = h.next; attempts = h.attempts; few = λ m. let l = h.few m in let f = count-filter (λ r. r.node == m) (λ q. not (q.node == k)) c.requests in omega (arith, l, f) }
end-within n b (session.Down cause) k c h = record { next = h.next; attempts = h.attempts; few = λ m. let l = h.few m in let f = count-filter (λ r. r.node == m) (λ q. not (q.node == k)) c.requests in omega (arith, l, f) }

turn-within : {S : Type 0} (t : ℕ) (x : Turn S) (b : Bus) → Few b → Within 256 b (turn_on t b x)
turn-within t x b few =
    let taken : Bus = (take_inbox b t x.node.number).0 in
    let emitted : Bus = (emission_step t x taken).0 in
    let g = then-gives x.node.number b taken emitted (take-gives t x.node.number b) (items-give t x.node.number (items_on x taken.setup.number) (taken, [])) in
    let m = g.next in
    let l = (g.few few) x.node.number in
    end-within 256 b x.out.end x.node.number emitted (record { next = omega (arith, m, l); attempts = g.attempts; few = g.few few })

all-within : {S : Type 0} (t : ℕ) (xs : List (Turn S)) (b : Bus) → Few b → Within (256 * length xs) b (fold (turn_on t) b xs)
all-within t [] b few = record { next = omega arith; attempts = omega arith; few = few }
all-within t (x ∷ xs) b few =
    let one = turn-within t x b few in
    let more = all-within t xs (turn_on t b x) one.few in
    let m = one.next in let n = more.next in let i = one.attempts in let j = more.attempts in
    record { next = omega (arith, m, n); attempts = omega (arith, i, j); few = more.few }

entries-within : {S : Type 0} (xs : List (Turn S)) (b : Bus) → Few b → Within 0 b (fold entry b xs)
entries-within [] b few = record { next = omega arith; attempts = omega arith; few = few }
entries-within (x ∷ xs) b few =
    let one = go (is_new x.node.standing) in
    let more = entries-within xs (entry b x) one.few in
    let m = one.next in let n = more.next in let i = one.attempts in let j = more.attempts in
    record { next = omega (arith, m, n); attempts = omega (arith, i, j); few = more.few }
  where
    go : (q : Bool) → Within 0 b (if q then enter b x.node.number else b)
    go true = record { next = omega arith; attempts = omega arith; few = few }
    go false = record { next = omega arith; attempts = omega arith; few = few }

turns-within : {S : Type 0} (t : ℕ) (xs : List (Turn S)) (b : Bus) → Few b → Within (256 * length xs) b (turns_on t xs b)
turns-within t xs b few =
    let one = entries-within xs b few in
    let more = all-within t xs (fold entry b xs) one.few in
    let m = one.next in let n = more.next in let i = one.attempts in let j = more.attempts in
    record { next = omega (arith, m, n); attempts = omega (arith, i, j); few = more.few }

-- no more turns than nodes
pub turn-count : {S : Type 0} (u : Units S) (bs : List Bus) (t : ℕ) (ns : List (Node S)) → length (turns u bs t ns) ≤ length ns
turn-count u bs t [] = omega arith
turn-count {S} u bs t (n ∷ ns) = go (turn_of u bs t n) (turn-count u bs t ns)
  where
    go : (o : Option (Turn S)) → length (turns u bs t ns) ≤ length ns → length (cons_option o (turns u bs t ns)) ≤ suc (length ns)
    go None h = omega (arith, h)
    go (Some x) h = omega (arith, h)

recovered : (t node : ℕ) (b : Bus) → ((recover b t node).0.attempts ≤ b.attempts + 1) × ((recover b t node).0.next ≤ b.next)
unfolding recover
recovered t node b = (omega arith, omega arith)

-- one event more
more-events : (e m : ℕ) → (e + 1) * m ≡ e * m + m
more-events e m = omega arith

module _ {S : Type 0} (u : Units S) (w : World S) (h : Fits w) (most : ℕ) (few : length w.nodes ≤ most) where
  bus-counted : (t : ℕ) (k : What) (b : Bus) → Among w.buses b → IsCounted most w.events b
      → IsCounted most (w.events + 1) (bus_behind u w t k b)
  bus-counted t k b a c = go k
    where
      m : ℕ
      m = 256 * most

      by : (after : Bus) → after.attempts ≤ b.attempts + 1 → after.next ≤ b.next + m → IsCounted most (w.events + 1) after
      by after i j = let x = c.attempts in let y = c.numbers in let z = more-events w.events m in
          record { attempts = omega (arith, i, x); numbers = omega (arith, j, y, z) }

      either : (q : Bool) (after : Bus) → after.attempts ≤ b.attempts + 1 → after.next ≤ b.next
          → IsCounted most (w.events + 1) (if q then after else b)
      either true after i j = by after i (omega (arith, j))
      either false after i j = by b (omega arith) (omega arith)

      go : (k : What) → IsCounted most (w.events + 1) (bus_behind u w t k b)
      go (Finish bus) =
          let r = finish-rises b t in let i = r.attempts in let j = r.next in
          either (b.setup.number == bus) (finish b t).0 (omega (arith, i)) (omega (arith, j))
      go (Return bus node) = either (b.setup.number == bus) (recover b t node).0 (recovered t node b).0 (recovered t node b).1
      go (Start bus) =
          let r = start-rises b t in let i = r.attempts in let j = r.next in
          either (b.setup.number == bus) (start b t).0 (omega (arith, i)) (omega (arith, j))
      go Sessions =
          let r = turns-within t (turns u w.buses t w.nodes) b (each-All Sound w.buses b h.sound a).at_most in
          let n = turn-count u w.buses t w.nodes in
          let i = r.attempts in let j = r.next in
          by (turns_on t (turns u w.buses t w.nodes) b) (omega (arith, i)) (omega (arith, j, n, few))

-- an event gives out so many numbers at most as this many nodes could be given
pub counted-within : {S : Type 0} (u : Units S) (w : World S) (e : Event) (most : ℕ) → length w.nodes ≤ most → Fits w
    → All (IsCounted most w.events) w.buses → All (IsCounted most (w.events + 1)) (world_behind u w e).buses
counted-within u w e most few h c = each-bus u w e.moment e.what (IsCounted most w.events) (IsCounted most (w.events + 1))
    (λ b a i. bus-counted u w h most few e.moment e.what b a i) c

node-count : {S : Type 0} (u : Units S) (w : World S) (t : ℕ) (k : What) → length (outcome_of u w t k).nodes ≡ length w.nodes
node-count u w t (Finish bus) = refl
node-count u w t (Return bus node) = refl
node-count u w t (Start bus) = refl
node-count u w t Sessions = length-map w.nodes (node_after u w.buses t)

pub counted-step : {S : Type 0} (u : Units S) (w : World S) (e : Event) → Fits w → AllCounted w → AllCounted (world_behind u w e)
counted-step u w e h c =
    subst (λ n. All (IsCounted n (w.events + 1)) (outcome_of u w e.moment e.what).buses) (sym (node-count u w e.moment e.what))
    (counted-within u w e (length w.nodes) (omega arith) h c)

pub counted-opens : {S : Type 0} (p : Plan) (states : List S) → AllCounted (opening_of p states)
counted-opens p states = All-each (IsCounted (length (new_nodes 0 p.nodes states)) 0) (map (λ b. new_bus b.setup b.members) p.buses)
    (λ b a. let r = map-among (λ b. new_bus b.setup b.members) p.buses b a in
    subst (IsCounted (length (new_nodes 0 p.nodes states)) 0) r.2 (record { attempts = omega arith; numbers = omega arith }))

record Both {S : Type 0} (w : World S) : Type 0 where
  fits : Fits w
  counted : AllCounted w

pub counted-along : {S : Type 0} (u : Units S) (stop events : ℕ) (w : World S) → UnitsFit u → Fits w → AllCounted w → AllCounted (behind (network u stop) events w)
counted-along u stop events w fit h c = (along u stop Both (λ v e n i. record { fits = fits-step u stop v e fit i.fits n; counted = counted-step u v e i.fits i.counted }) events w (record { fits = h; counted = c })).counted
