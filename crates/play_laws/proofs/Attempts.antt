-- How the attempt that starts on a sound bus ends, and who takes part in it.
use Rattle.std.proofs.Common.{◌≡◌, ℕ, ◌+◌, ◌-◌, ◌==◌, ◌⊎◌, Bool, true, false, not, if◌then◌else◌, min, List, [], ◌∷◌, map, filter, IfSome, Contains, Option, Some, None, is_some, refl, arith, sym, ap, ◌∙◌, subst, inl, inr, eq-eqb}
use Rattle.std.specs.Prelude.{◌&&◌, ◌||◌, length, nat_le, nat_lt}
use Rattle.std.proofs.lemmas.Bool.{and_parts, and_cases, or_cases, both_ways, not_from_false, eqb-true, false_from_ne_true}
use Rattle.frame_specs.specs.Dominance.{beats}
use Rattle.frame_specs.specs.Wire.{wire_bits}
use Rattle.bus_specs.specs.Bus.{Bus, ErrorEntry, Member, Request, Running, Fault, Hurt, off, passive, among, takes_part, wants, able, ready_moment, has_request, offer, offers, winner, member_is}
use Rattle.bus_specs.specs.Start.{discarded, member_after_start, listeners, node_of_entry, applies, entry_of_attempt, Course, course_to_error, course_of_frame, only_hurts, course_with, course, running_frame, start_with, start}
use Rattle.bus_specs.specs.Sound.{Sound, SoundRunning, SoundOutcome, on}
use Rattle.bus_sound.proofs.Among.{Among, Contains-among, among-filter, filter-among, filter_map-among}
use Rattle.bus_sound.proofs.Lists.{map-among, any_to, find_to, unique}
use Rattle.bus_sound.proofs.Orders.{foremost-among}
use Rattle.bus_sound.proofs.Members.{is_to, is_from, off-on}
use Rattle.bus_sound.proofs.Consequences.{start-wins}
use Rattle.bus_sound.proofs.Started.{start-sound}
use Rattle.play_laws.specs.Steps.{Starts, TakesPart, unacknowledged}

pub record Started (b : Bus) (now : ℕ) (r : Running) : Type 0 where
  pub first : Request
  pub wins : winner b now ≡ Some first
  pub it : running_frame first (course b now first) ≡ r

pub started : (b : Bus) (since now : ℕ) (r : Running) → Starts b since now r → Started b now r
unfolding start
started b since now r s = go (winner b now) refl s.runs (start-wins b since now s.due)
  where
    go : (o : Option Request) → winner b now ≡ o → ((start_with b now o).0).running ≡ Some r → is_some (winner b now) ≡ true → Started b now r
    go None e k t = absurd (both_ways (is_some (winner b now)) (ap is_some e) t)
    go (Some w) e k t = let same : running_frame w (course b now w) ≡ r = cc in record { first = w; wins = e; it = same }

parts : (m : Member) → takes_part m ≡ true → TakesPart m
parts m e =
    let outer = and_parts (m.live && m.awake) (not (off m)) e in
    let inner = and_parts m.live m.awake outer.0 in
    record { live = inner.0; awake = inner.1; on = off-on m outer.1 }

same-member : (b : Bus) (x m : Member) → Sound b → Among b.members x → Among b.members m → x.node ≡ m.node → x ≡ m
same-member b x m h a c e = unique (λ (y : Member). y.node) 0 b.members x m (h.nodes).0 (h.nodes).1 a c e

-- the winner is of an able node
winner-part : (b : Bus) (now : ℕ) (w : Request) (m : Member) → Sound b → winner b now ≡ Some w → Among b.members m → m.node ≡ w.node → takes_part m ≡ true
unfolding winner
winner-part b now w m h e a s =
    let r = filter_map-among (λ (x : Member). offer b.requests x.node) (filter (able b now) b.members) w (foremost-among (λ x y. beats x.frame y.frame) (offers b now) w e) in
    let f = filter-among (able b now) b.members r.0 r.1 in
    let own = filter-among (λ (x : Request). x.node == (r.0).node) b.requests w (foremost-among (λ x y. beats x.frame y.frame) (filter (λ x. x.node == (r.0).node) b.requests) w r.2) in
    let same : r.0 ≡ m = same-member b r.0 m h f.0 a (sym (eqb-true w.node (r.0).node own.1) ∙ sym s) in
    subst (λ x. takes_part x ≡ true) same
    (and_parts (takes_part r.0) (has_request b.requests (r.0).node) (and_parts (wants b r.0) (nat_le (ready_moment b r.0) now) f.1).0).0

pub sender-part : (b : Bus) (since now : ℕ) (r : Running) (m : Member) → Starts b since now r → Among b.members m → m.node ≡ r.sender → TakesPart m
sender-part b since now r m s a e =
    let x = started b since now r s in
    parts m (winner-part b now x.first m s.sound x.wins a (e ∙ sym (ap (λ (y : Running). y.sender) x.it)))

module _ (b : Bus) (now : ℕ) (w : Request) where
  frame-heard : (hurt : Option Hurt) (heard : List ℕ) → (course_of_frame b now w hurt heard).listeners ≡ heard
  frame-heard hurt [] = refl
  frame-heard hurt (n ∷ ns) = refl

  frame-hurt : (hurt : Option Hurt) (heard : List ℕ) → (course_of_frame b now w hurt heard).hurt ≡ hurt
  frame-hurt hurt [] = refl
  frame-hurt hurt (n ∷ ns) = refl

  frame-delivered : (hurt : Option Hurt) (heard : List ℕ) (n : ℕ) → Among heard n → (course_of_frame b now w hurt heard).fault ≡ None
  frame-delivered hurt [] n a = absurd a
  frame-delivered hurt (x ∷ ns) n a = refl

  others : ℕ → List ℕ → List ℕ
  others node heard = filter (λ n. not (n == node)) heard

  -- who hears the frame is a listener
  course-heard : (heard : List ℕ) (o : Option ErrorEntry) (n : ℕ) → Among (course_with b now w heard o).listeners n → Among heard n
  unfolding others
  course-heard heard None n a = subst (λ l. Among l n) (frame-heard None heard) a
  course-heard heard (Some e) n a = go (only_hurts b w.node (node_of_entry e w.node)) a
    where
      go : (t : Bool) → Among (if t
          then course_of_frame b now w (Some (record { node = node_of_entry e w.node; kind = e.kind })) (others (node_of_entry e w.node) heard)
          else course_to_error b now w.frame (min e.bit (wire_bits w.frame - 1)) (record { kind = e.kind; by = node_of_entry e w.node }) None heard).listeners n
          → Among heard n
      go true k = (filter-among (λ x. not (x == node_of_entry e w.node)) heard n
          (subst (λ l. Among l n) (frame-heard (Some (record { node = node_of_entry e w.node; kind = e.kind })) (others (node_of_entry e w.node) heard)) k)).0
      go false k = k

  -- a frame that hurts a listener goes on among the others
  hurt-course : (heard : List ℕ) (o : Option ErrorEntry) (x : Hurt) → (course_with b now w heard o).hurt ≡ Some x
      → course_with b now w heard o ≡ course_of_frame b now w (Some x) (others x.node heard)
  unfolding others
  hurt-course heard None x e = absurd (let z : None ≡ Some x = sym (frame-hurt None heard) ∙ e in cc)
  hurt-course heard (Some y) x e = go (only_hurts b w.node (node_of_entry y w.node)) e
    where
      it : Hurt
      it = record { node = node_of_entry y w.node; kind = y.kind }

      by : Bool → Course
      by t = if t then course_of_frame b now w (Some it) (others it.node heard)
          else course_to_error b now w.frame (min y.bit (wire_bits w.frame - 1)) (record { kind = y.kind; by = node_of_entry y w.node }) None heard

      go : (t : Bool) → (by t).hurt ≡ Some x → by t ≡ course_of_frame b now w (Some x) (others x.node heard)
      go true k =
          let z : Some it ≡ Some x = sym (frame-hurt (Some it) (others it.node heard)) ∙ k in
          let same : it ≡ x = cc in
          ap (λ (h : Hurt). course_of_frame b now w (Some h) (others h.node heard)) same
      go false k = absurd (let z : None ≡ Some x = k in cc)

  alone-fault : (x : Hurt) (heard : List ℕ) → heard ≡ x.node ∷ [] → (course_of_frame b now w (Some x) (others x.node heard)).fault ≡ Some (unacknowledged w.node)
  unfolding others
  alone-fault x heard e =
      let none : others x.node (x.node ∷ []) ≡ [] = rw (eq-eqb x.node x.node refl) refl in
      ap (λ l. (course_of_frame b now w (Some x) l).fault) (ap (others x.node) e ∙ none)

  heard-fault : (x : Hurt) (heard : List ℕ) (n : ℕ) → Among heard n → (n ≡ x.node → ⊥) → (course_of_frame b now w (Some x) (others x.node heard)).fault ≡ None
  unfolding others
  heard-fault x heard n a ne = frame-delivered (Some x) (others x.node heard) n (among-filter (λ y. not (y == x.node)) heard n a
      (not_from_false (n == x.node) (false_from_ne_true (n == x.node) (λ t. ne (eqb-true n x.node t)))))

  -- who detects a failure
  record Blames (heard : List ℕ) (c : Course) : Type 0 where
    by : (e : Fault) → c.fault ≡ Some e → (e.by ≡ w.node) ⊎ Among c.listeners e.by
    passive : (e : Fault) → c.fault ≡ Some e → (e.by ≡ w.node) ⊎ (member_is passive b.members e.by ≡ false)

  frame-blames : (all : List ℕ) (hurt : Option Hurt) (heard : List ℕ) → Blames all (course_of_frame b now w hurt heard)
  frame-blames all hurt [] = record {
    by = λ e k. let same : unacknowledged w.node ≡ e = cc in inl (sym (ap (λ (f : Fault). f.by) same));
    passive = λ e k. let same : unacknowledged w.node ≡ e = cc in inl (sym (ap (λ (f : Fault). f.by) same));
  }
  frame-blames all hurt (n ∷ ns) = record {
    by = λ e k. absurd (let z : None ≡ Some e = k in cc);
    passive = λ e k. absurd (let z : None ≡ Some e = k in cc);
  }

  course-blames : (heard : List ℕ) (o : Option ErrorEntry) → IfSome o (λ y. applies (b.attempts + 1) w.node heard y ≡ true) → Blames heard (course_with b now w heard o)
  unfolding others
  course-blames heard None t = frame-blames heard None heard
  course-blames heard (Some y) t = go (only_hurts b w.node node) refl
    where
      node : ℕ
      node = node_of_entry y w.node

      it : Fault
      it = record { kind = y.kind; by = node }

      own : (node ≡ w.node) ⊎ Among heard node
      own = by_case (or_cases (node == w.node) (among heard node)
          (and_parts (nat_le y.first (b.attempts + 1) && nat_lt (b.attempts + 1) (y.first + y.count)) ((node == w.node) || among heard node) t).1)
        where
          by_case : ((node == w.node) ≡ true) ⊎ (among heard node ≡ true) → (node ≡ w.node) ⊎ Among heard node
          by_case (inl k) = inl (eqb-true node w.node k)
          by_case (inr k) = let l = any_to (λ n. n == node) heard k in inr (subst (λ n. Among heard n) (eqb-true l.0 node l.2) l.1)

      acts : only_hurts b w.node node ≡ false → (node ≡ w.node) ⊎ (member_is passive b.members node ≡ false)
      acts k = by_case (and_cases (not (node == w.node)) (member_is passive b.members node) k)
        where
          is-own : (t : Bool) → not t ≡ false → t ≡ true
          is-own true q = refl
          is-own false q = absurd (both_ways true q refl)

          by_case : (not (node == w.node) ≡ false) ⊎ (member_is passive b.members node ≡ false) → (node ≡ w.node) ⊎ (member_is passive b.members node ≡ false)
          by_case (inl q) = inl (eqb-true node w.node (is-own (node == w.node) q))
          by_case (inr q) = inr q

      go : (t : Bool) → only_hurts b w.node node ≡ t → Blames heard (if t
          then course_of_frame b now w (Some (record { node = node; kind = y.kind })) (others node heard)
          else course_to_error b now w.frame (min y.bit (wire_bits w.frame - 1)) it None heard)
      go true k = frame-blames heard (Some (record { node = node; kind = y.kind })) (others node heard)
      go false k = record {
        by = λ e q. let same : it ≡ e = cc in subst (λ (f : Fault). (f.by ≡ w.node) ⊎ Among heard f.by) same own;
        passive = λ e q. let same : it ≡ e = cc in subst (λ (f : Fault). (f.by ≡ w.node) ⊎ (member_is passive b.members f.by ≡ false)) same (acts k);
      }

  whole-course : course b now w ≡ course_with b now w (listeners b w.node) (entry_of_attempt b w.node (listeners b w.node))
  unfolding course
  whole-course = refl

  course-found : (o : Option ErrorEntry) → entry_of_attempt b w.node (listeners b w.node) ≡ o → IfSome o (λ y. applies (b.attempts + 1) w.node (listeners b w.node) y ≡ true)
  course-found None e = tt
  course-found (Some y) e = (find_to (applies (b.attempts + 1) w.node (listeners b w.node)) b.setup.errors y e).1

  blames : Blames (listeners b w.node) (course b now w)
  blames = subst (λ c. Blames (listeners b w.node) c) (sym whole-course)
      (course-blames (listeners b w.node) (entry_of_attempt b w.node (listeners b w.node)) (course-found (entry_of_attempt b w.node (listeners b w.node)) refl))

module _ (b : Bus) (since now : ℕ) (r : Running) (s : Starts b since now r) where
  begun : Started b now r
  begun = started b since now r s

  whole : Course
  whole = course b now (begun).first

  pub listener-part : (m : Member) → Among b.members m → Among r.listeners m.node → TakesPart m
  listener-part m a l =
      let w = begun.first in
      let l' : Among (course b now w).listeners m.node = subst (λ (x : Running). Among x.listeners m.node) (sym begun.it) l in
      let heard = course-heard b now w (listeners b w.node) (entry_of_attempt b w.node (listeners b w.node)) m.node (subst (λ (c : Course). Among c.listeners m.node) (whole-course b now w) l') in
      let x = map-among (λ (m : Member). m.node) (filter (λ m. takes_part m && not (m.node == w.node)) b.members) m.node heard in
      let f = filter-among (λ m. takes_part m && not (m.node == w.node)) b.members x.0 x.1 in
      parts m (subst (λ y. takes_part y ≡ true) (same-member b x.0 m s.sound f.0 a x.2) (and_parts (takes_part x.0) (not ((x.0).node == w.node)) f.1).0)

  fault-of : (e : Fault) → r.fault ≡ Some e → (course b now begun.first).fault ≡ Some e
  fault-of e k = ap (λ (x : Running). x.fault) begun.it ∙ k

  sender-of : (begun.first).node ≡ r.sender
  sender-of = ap (λ (x : Running). x.sender) begun.it

  pub detected : (e : Fault) → r.fault ≡ Some e → (e.by ≡ r.sender) ⊎ Contains r.listeners e.by
  detected e k = go ((blames b now begun.first).by e (fault-of e k))
    where
      go : (e.by ≡ (begun.first).node) ⊎ Among (course b now begun.first).listeners e.by → (e.by ≡ r.sender) ⊎ Contains r.listeners e.by
      go (inl q) = inl (q ∙ sender-of)
      go (inr q) = inr (Contains-among r.listeners e.by (subst (λ (x : Running). Among x.listeners e.by) begun.it q))

  pub passive-own : (e : Fault) (m : Member) → r.fault ≡ Some e → Among b.members m → m.node ≡ e.by → passive m ≡ true → e.by ≡ r.sender
  passive-own e m k a n p = go ((blames b now begun.first).passive e (fault-of e k))
    where
      go : (e.by ≡ (begun.first).node) ⊎ (member_is passive b.members e.by ≡ false) → e.by ≡ r.sender
      go (inl q) = q ∙ sender-of
      go (inr q) = absurd (both_ways (member_is passive b.members e.by) q (is_from passive b.members m e.by a n p))

  outcome : SoundOutcome ((start b now).0).members r.listeners r.fault
  outcome = (subst (λ o. IfSome o (SoundRunning ((start b now).0).setup ((start b now).0).members)) s.runs (start-sound b since now s.sound s.due).running).outcome

  pub unheard : r.listeners ≡ [] → is_some r.fault ≡ true
  unheard e = go r.fault outcome
    where
      go : (o : Option Fault) → SoundOutcome ((start b now).0).members r.listeners o → is_some o ≡ true
      go None k = absurd (omega (arith, k, ap {B = ℕ} length e))
      go (Some x) k = refl

  changed : Member → Member
  changed m = member_after_start b now (discarded b now (begun.first).node) m

  started-members : ((start b now).0).members ≡ map changed b.members
  unfolding start changed
  started-members = ap (λ o. ((start_with b now o).0).members) begun.wins

  pub able-by : (e : Fault) → r.fault ≡ Some e → on b.members e.by ≡ true
  unfolding changed
  able-by e k =
      let i = is_to (λ m. not (off m)) (map changed b.members) e.by (subst (λ ms. on ms e.by ≡ true) started-members (go r.fault k outcome)) in
      let x = map-among changed b.members i.member i.among in
      is_from (λ m. not (off m)) b.members x.0 e.by x.1 (ap (λ (m : Member). m.node) x.2 ∙ i.node) (ap (λ m. not (off m)) x.2 ∙ i.holds)
    where
      go : (o : Option Fault) → o ≡ Some e → SoundOutcome ((start b now).0).members r.listeners o → on ((start b now).0).members e.by ≡ true
      go None q o = absurd cc
      go (Some y) q o = let same : y ≡ e = cc in subst (λ (z : Fault). on ((start b now).0).members z.by ≡ true) same o.0

  hurt-of : (x : Hurt) → r.hurt ≡ Some x → course b now begun.first ≡ course_of_frame b now begun.first (Some x) (others b now begun.first x.node (listeners b (begun.first).node))
  hurt-of x k =
      let w = begun.first in
      whole-course b now w ∙ hurt-course b now w (listeners b w.node) (entry_of_attempt b w.node (listeners b w.node)) x
      (sym (ap (λ (c : Course). c.hurt) (whole-course b now w)) ∙ ap (λ (y : Running). y.hurt) begun.it ∙ k)

  fault-is : (o : Option Fault) → (course b now begun.first).fault ≡ o → r.fault ≡ o
  fault-is o k = sym (ap (λ (x : Running). x.fault) begun.it) ∙ k

  pub alone : (x : Hurt) → r.hurt ≡ Some x → listeners b r.sender ≡ x.node ∷ [] → r.fault ≡ Some (unacknowledged r.sender)
  alone x k l = fault-is (Some (unacknowledged r.sender)) (ap (λ (c : Course). c.fault) (hurt-of x k)
      ∙ alone-fault b now begun.first x (listeners b (begun.first).node) (ap (listeners b) sender-of ∙ l) ∙ ap (λ n. Some (unacknowledged n)) sender-of)

  pub heard : (x : Hurt) (n : ℕ) → r.hurt ≡ Some x → Among (listeners b r.sender) n → (n ≡ x.node → ⊥) → r.fault ≡ None
  heard x n k a ne = fault-is None (ap (λ (c : Course). c.fault) (hurt-of x k)
      ∙ heard-fault b now begun.first x (listeners b (begun.first).node) n (subst (λ l. Among (listeners b l) n) (sym sender-of) a) ne)
