-- Of two events at one moment the second is of no earlier kind, and so are their lines.
use Rattle.std.proofs.Common.{◌≡◌, ℕ, ◌+◌, ◌<◌, ◌≤◌, ◌⊎◌, Bool, true, false, if◌then◌else◌, List, [], ◌∷◌, ◌++◌, filter, flat_map, max, IfSome, Option, Some, None, is_some, arith, refl, ap, ◌∙◌, sym, subst, inl, inr}
use Rattle.std.specs.Prelude.{◌||◌, option_map, option_to_list, nat_le}
use Rattle.std.proofs.lemmas.Bool.{both_ways, or_from, leb-true, false_from_ne_true}
use Rattle.frame_specs.specs.Frame.{Frame}
use Rattle.bus_specs.specs.Bus.{Bus, Member, Request, Running, Fault, LostNotice, FormatNotice, bits, winner, wants, ready_moment}
use Rattle.bus_specs.specs.Inbox.{due, due_format, due_wake, has_notice}
use Rattle.bus_specs.specs.Start.{discarded, lost_by, lost_id, member_after_start, course, running_frame, start_with, start}
use Rattle.bus_specs.specs.Finish.{recover}
use Rattle.bus_specs.specs.Due.{Due, What, Finish, Return, Notices, Start, rank, precedes, at, notice_moments, notices, returns, starts, dues, next_due}
use Rattle.run_specs.specs.Order.{foremost}
use Rattle.play_specs.specs.Scenario.{Action, World, left_ahead, or_asked, up_to, next_event, moment_step, event_step, world_behind}
use Rattle.bus_sound.proofs.Among.{Among, among-append_left}
use Rattle.bus_sound.proofs.Lists.{map-among, among-map, append-among, among-append_right, among-flat_map}
use Rattle.bus_sound.proofs.Orders.{foremost-among, foremost-unbeaten, foremost-some}
use Rattle.bus_sound.proofs.Dues.{precedes-order, not-before, start-due}
use Rattle.bus_sound.proofs.Consequences.{start-wins}
use Rattle.log_laws.specs.Deliveries.{data_bit}
use Rattle.log_laws.proofs.Lawful.{EndsBy}
use Rattle.log_laws.proofs.Begun.{course-ends}
use Rattle.log_laws.proofs.Due.{Asked, due-or-asked, Ends, own-finish, Noticed, notices-due}
use Rattle.log_laws.proofs.KindOrder.{SameCourse, moment-course, takes-time}

-- nothing due or asked precedes what happens next
record FirstOf (w : World) (d : Due) : Type 0 where
  all : (x : Due) → Among (dues w.bus w.now w.bus.running) x → precedes x d ≡ false
  asked : (a : Action) (rest : List Action) → w.ahead ≡ a ∷ rest → precedes (at Notices a.moment) d ≡ false

first-of : (stop : ℕ) (w : World) (d : Due) → next_event stop w ≡ Some d → FirstOf w d
unfolding next_event next_due
first-of stop w d e = asks w.ahead refl (foremost precedes (dues w.bus w.now w.bus.running)) refl (below (or_asked (next_due w.bus w.now) w.ahead) e)
  where
    below : (o : Option Due) → up_to stop o ≡ Some d → o ≡ Some d
    below None k = absurd cc
    below (Some c) k = go (nat_le c.moment stop) k
      where
        go : (t : Bool) → (if t then Some c else None) ≡ Some d → Some c ≡ Some d
        go true q = q
        go false q = absurd cc

    itself : (a : Action) → at Notices a.moment ≡ d → precedes (at Notices a.moment) d ≡ false
    itself a s = subst (λ x. precedes (at Notices a.moment) x ≡ false) s (precedes-order.itself (at Notices a.moment))

    same-head : (a b : Action) (as' bs : List Action) → w.ahead ≡ a ∷ as' → w.ahead ≡ b ∷ bs → a ≡ b
    same-head a b as' bs p q = let k : a ∷ as' ≡ b ∷ bs = sym p ∙ q in cc

    asks : (as' : List Action) → w.ahead ≡ as' → (o : Option Due) → foremost precedes (dues w.bus w.now w.bus.running) ≡ o → or_asked o as' ≡ Some d → FirstOf w d
    asks [] q o p k = record {
      all = λ x a. foremost-unbeaten precedes precedes-order (dues w.bus w.now w.bus.running) d x (p ∙ k) a;
      asked = λ a rest r. absurd (let z : [] ≡ a ∷ rest = sym q ∙ r in cc);
    }
    asks (a ∷ as') q None p k = record {
      all = λ x i. absurd (both_ways false refl (subst (λ o. is_some o ≡ true) p (foremost-some precedes (dues w.bus w.now w.bus.running) x i)));
      asked = λ b rest r. subst (λ z. precedes (at Notices z.moment) d ≡ false) (same-head a b as' rest q r) (itself a cc);
    }
    asks (a ∷ as') q (Some c) p k = go (precedes (at Notices a.moment) c) refl k
      where
        go : (t : Bool) → precedes (at Notices a.moment) c ≡ t → (if t then Some (at Notices a.moment) else Some c) ≡ Some d → FirstOf w d
        go true r z =
            let s : at Notices a.moment ≡ d = cc in
            record {
              all = λ x i. false_from_ne_true (precedes x d) (λ t. both_ways (precedes x c) (foremost-unbeaten precedes precedes-order (dues w.bus w.now w.bus.running) c x p i)
                  (precedes-order.through x (at Notices a.moment) c (subst (λ y. precedes x y ≡ true) (sym s) t) r));
              asked = λ b rest u. subst (λ y. precedes (at Notices y.moment) d ≡ false) (same-head a b as' rest q u) (itself a s);
            }
        go false r z =
            let s : c ≡ d = cc in
            record {
              all = λ x i. foremost-unbeaten precedes precedes-order (dues w.bus w.now w.bus.running) d x (p ∙ ap Some s) i;
              asked = λ b rest u. subst (λ y. precedes (at Notices y.moment) d ≡ false) (same-head a b as' rest q u) (subst (λ y. precedes (at Notices a.moment) y ≡ false) s r);
            }

-- what doesn't precede at the same moment is of no earlier kind
no-earlier : (x d : Due) → precedes x d ≡ false → x.moment ≡ d.moment → rank d.what ≤ rank x.what
no-earlier x d h e = go (not-before x d h)
  where
    go : (d.moment < x.moment) ⊎ ((d.moment ≡ x.moment) × (rank d.what ≤ rank x.what)) → rank d.what ≤ rank x.what
    go (inl l) = absurd (omega (arith, l, e))
    go (inr l) = l.1

-- a return is due only while no frame runs
record Returns (b : Bus) (d : Due) : Type 0 where
  free : b.running ≡ None
  among : Among (returns b) d

return-due : (b : Bus) (since : ℕ) (d : Due) → next_due b since ≡ Some d → rank d.what ≡ 1 → Returns b d
unfolding next_due
return-due b since d h k = go b.running refl (foremost-among precedes (dues b since b.running) d h)
  where
    two : Among (notices b) d → ⊥
    two a = let i = map-among (at Notices) (flat_map notice_moments b.members) d a in
        let q : 2 ≡ rank d.what = ap (λ (x : Due). rank x.what) i.2 in omega (arith, q, k)

    go : (o : Option Running) → b.running ≡ o → Among (dues b since o) d → Returns b d
    go (Some r) e (inl s) = absurd (let q : 0 ≡ rank d.what = ap (λ (x : Due). rank x.what) s in omega (arith, q, k))
    go (Some r) e (inr a) = absurd (two a)
    go None e a = first (append-among (returns b ++ notices b) (starts b since) d a)
      where
        first : Among (returns b ++ notices b) d ⊎ Among (starts b since) d → Returns b d
        first (inl i) = second (append-among (returns b) (notices b) d i)
          where
            second : Among (returns b) d ⊎ Among (notices b) d → Returns b d
            second (inl j) = record { free = e; among = j }
            second (inr j) = absurd (two j)
        first (inr i) = absurd (let j = map-among (λ m. at Start (max since (ready_moment b m))) (filter (wants b) b.members) d i in
            let q : 3 ≡ rank d.what = ap (λ (x : Due). rank x.what) j.2 in omega (arith, q, k))

-- no notice is due at a start, nor behind it
not-due : (n now : ℕ) → now < n → nat_le n now ≡ false
not-due n now l = false_from_ne_true (nat_le n now) (λ t. let k = leb-true n now t in omega (arith, k, l))

later-none : {A : Type 0} (when : A → ℕ) (now : ℕ) (o : Option A) → IfSome o (λ n. now < when n) → is_some (due when now o) ≡ false
later-none when now None h = refl
later-none when now (Some n) h = rw (not-due (when n) now h) refl

some-later : {A : Type 0} (when : A → ℕ) (now : ℕ) (o : Option A) → ((t : ℕ) → Among (option_to_list (option_map when o)) t → now < t) → IfSome o (λ n. now < when n)
some-later when now None h = tt
some-later when now (Some n) h = h (when n) (inl refl)

module _ (stop : ℕ) (w : World) (d : Due) (e : next_event stop w ≡ Some d) (bit : 1 ≤ w.bus.setup.nominal) where
  -- what next comes at this moment is of no earlier kind
  Settled : What → Type 0
  Settled what = (d' : Due) → next_event stop (record { events = w.events + 1; now = d.moment; ahead = left_ahead w d.moment what; bus = (event_step w d.moment what).0 }) ≡ Some d'
      → d'.moment ≡ d.moment → rank what ≤ rank d'.what

  now-notice : d.what ≡ Start → (m : Member) → Among w.bus.members m → (t : ℕ) → Among (notice_moments m) t → w.bus.running ≡ None → d.moment < t
  now-notice q m a t k free =
      let x : Due = at Notices t in
      let i : Among (notices w.bus) x = among-map (at Notices) (flat_map notice_moments w.bus.members) t (among-flat_map notice_moments w.bus.members m t a k) in
      let j : Among (dues w.bus w.now None) x = among-append_left (returns w.bus ++ notices w.bus) (starts w.bus w.now) x (among-append_right (returns w.bus) (notices w.bus) x i) in
      let f = (first-of stop w d e).all x (subst (λ o. Among (dues w.bus w.now o) x) (sym free) j) in
      go (not-before x d f)
    where
      three : rank d.what ≡ 3
      three = ap rank q

      go : (d.moment < t) ⊎ ((d.moment ≡ t) × (rank d.what ≤ 2)) → d.moment < t
      go (inl l) = l
      go (inr l) = absurd (omega (arith, l.1, three))

  lost-later : (o : Option LostNotice) (id : Option ℕ) → IfSome o (λ n. d.moment < n.due) → IfSome (lost_by (d.moment + bits w.bus 1) o id) (λ n. d.moment < n.due)
  lost-later o None h = h
  lost-later o (Some id) h = omega (arith, bit)

  started-none : d.what ≡ Start → w.bus.running ≡ None → (rs : List Request) (m : Member) → Among w.bus.members m → has_notice d.moment (member_after_start w.bus d.moment rs m) ≡ false
  started-none q free rs m a =
      let lost = some-later (λ (n : LostNotice). n.due) d.moment m.lost (λ t k. now-notice q m a t
      (among-append_left (option_to_list (option_map (λ (n : LostNotice). n.due) m.lost) ++ option_to_list (option_map (λ (n : FormatNotice). n.due) m.format)) (option_to_list m.wake) t
      (among-append_left (option_to_list (option_map (λ (n : LostNotice). n.due) m.lost)) (option_to_list (option_map (λ (n : FormatNotice). n.due) m.format)) t k)) free) in
      let format = some-later (λ (n : FormatNotice). n.due) d.moment m.format (λ t k. now-notice q m a t
      (among-append_left (option_to_list (option_map (λ (n : LostNotice). n.due) m.lost) ++ option_to_list (option_map (λ (n : FormatNotice). n.due) m.format)) (option_to_list m.wake) t
      (among-append_right (option_to_list (option_map (λ (n : LostNotice). n.due) m.lost)) (option_to_list (option_map (λ (n : FormatNotice). n.due) m.format)) t k)) free) in
      let wake = some-later (λ (n : ℕ). n) d.moment m.wake (λ t k. now-notice q m a t
      (among-append_right (option_to_list (option_map (λ (n : LostNotice). n.due) m.lost) ++ option_to_list (option_map (λ (n : FormatNotice). n.due) m.format)) (option_to_list m.wake) t (plain m.wake t k)) free) in
      let new : Option LostNotice = lost_by (d.moment + bits w.bus 1) m.lost (lost_id rs m.node) in
      or_from (is_some (due (λ (n : LostNotice). n.due) d.moment new) || is_some (due_format d.moment m)) (is_some (due_wake d.moment m))
      (or_from (is_some (due (λ (n : LostNotice). n.due) d.moment new)) (is_some (due_format d.moment m))
      (later-none (λ (n : LostNotice). n.due) d.moment new (lost-later m.lost (lost_id rs m.node) lost))
      (later-none (λ (n : FormatNotice). n.due) d.moment m.format format)) (later-none (λ (n : ℕ). n) d.moment m.wake wake)
    where
      plain : (o : Option ℕ) (t : ℕ) → Among (option_to_list (option_map (λ (n : ℕ). n) o)) t → Among (option_to_list o) t
      plain None t k = k
      plain (Some n) t k = k

  -- a frame that starts ends later
  ends-later : (o : Option Fault) (f : Frame) (end : ℕ) → EndsBy w.bus.setup d.moment f o end → d.moment < end
  ends-later None f end k = let l = takes-time f w.bus.setup.nominal (data_bit w.bus.setup) bit in omega (arith, k, l)
  ends-later (Some x) f end k = omega (arith, k.1, bit)

  behind_bus : Bus → List Action → World
  behind_bus b ahead = record { events = w.events + 1; now = d.moment; ahead = ahead; bus = b }

  due-itself : (rank d.what ≡ 2 → ⊥) → next_due w.bus w.now ≡ Some d
  due-itself n = go (due-or-asked stop w d e)
    where
      go : (next_due w.bus w.now ≡ Some d) ⊎ Asked w d → next_due w.bus w.now ≡ Some d
      go (inl h) = h
      go (inr k) = absurd (n (ap (λ (x : Due). rank x.what) k.due))

  settled-return : (n : ℕ) → d.what ≡ Return n → (d' : Due) → next_event stop (behind_bus (recover w.bus d.moment n).0 w.ahead) ≡ Some d' → 1 ≤ rank d'.what
  unfolding recover behind_bus
  settled-return n q d' e' = go d'.what refl
    where
      one : rank d.what ≡ 1
      one = ap rank q

      free : w.bus.running ≡ None
      free = (return-due w.bus w.now d (due-itself (λ k. omega (arith, k, one))) one).free

      go : (x : What) → d'.what ≡ x → 1 ≤ rank x
      go Finish s = absurd (let r = own-finish stop (behind_bus (recover w.bus d.moment n).0 w.ahead) d' e' s in let z : Some r.frame ≡ None = sym r.runs ∙ free in cc)
      go (Return k) s = omega arith
      go Notices s = omega arith
      go Start s = omega arith

  settled-notices : d.what ≡ Notices → (ahead : List Action) (d' : Due) → next_event stop (behind_bus (moment_step w d.moment).0 ahead) ≡ Some d' → d'.moment ≡ d.moment → 2 ≤ rank d'.what
  unfolding behind_bus
  settled-notices q ahead d' e' t = go d'.what refl
    where
      two : rank d.what ≡ 2
      two = ap rank q

      c : SameCourse w.bus (moment_step w d.moment).0
      c = moment-course w d.moment

      ended : Ends (moment_step w d.moment).0 d'.moment → ⊥
      ended r =
          let x : Due = at Finish r.frame.end in
          let runs : w.bus.running ≡ Some r.frame = sym c.running ∙ r.runs in
          let k = no-earlier x d ((first-of stop w d e).all x (subst (λ o. Among (dues w.bus w.now o) x) (sym runs) (inl refl))) (r.end ∙ t) in
          omega (arith, k, two)

      returned : (n : ℕ) → d'.what ≡ Return n → (next_due (moment_step w d.moment).0 d.moment ≡ Some d') ⊎ Asked (behind_bus (moment_step w d.moment).0 ahead) d' → ⊥
      returned n s (inl h) =
          let one : rank d'.what ≡ 1 = ap rank s in
          let r = return-due (moment_step w d.moment).0 d.moment d' h one in
          let free : w.bus.running ≡ None = sym c.running ∙ r.free in
          let there : Among (returns w.bus) d' = subst (λ l. Among l d') c.returns r.among in
          let due : Among (dues w.bus w.now None) d' = among-append_left (returns w.bus ++ notices w.bus) (starts w.bus w.now) d' (among-append_left (returns w.bus) (notices w.bus) d' there) in
          let k = no-earlier d' d ((first-of stop w d e).all d' (subst (λ o. Among (dues w.bus w.now o) d') (sym free) due)) t in
          omega (arith, k, two, one)
      returned n s (inr k) = let one : rank d'.what ≡ 1 = ap rank s in let y : rank d'.what ≡ 2 = ap (λ (x : Due). rank x.what) k.due in omega (arith, one, y)

      go : (x : What) → d'.what ≡ x → 2 ≤ rank x
      go Finish s = absurd (ended (own-finish stop (behind_bus (moment_step w d.moment).0 ahead) d' e' s))
      go (Return k) s = absurd (returned k s (due-or-asked stop (behind_bus (moment_step w d.moment).0 ahead) d' e'))
      go Notices s = omega arith
      go Start s = omega arith

  settled-start : d.what ≡ Start → (o : Option Request) → is_some o ≡ true → (d' : Due) → next_event stop (behind_bus (start_with w.bus d.moment o).0 w.ahead) ≡ Some d' → d'.moment ≡ d.moment → 3 ≤ rank d'.what
  unfolding behind_bus
  settled-start q None s d' e' t = absurd (both_ways false refl s)
  settled-start q (Some r) s d' e' t = go d'.what refl (due-or-asked stop (behind_bus after w.ahead) d' e')
    where
      after : Bus
      after = (start_with w.bus d.moment (Some r)).0

      three : rank d.what ≡ 3
      three = ap rank q

      free : w.bus.running ≡ None
      free = (start-due w.bus w.now d.moment (due-itself (λ k. omega (arith, k, three)) ∙ ap (λ x. Some (at x d.moment)) q)).free

      ended : Ends after d'.moment → ⊥
      ended x =
          let same : running_frame r (course w.bus d.moment r) ≡ x.frame = some x.runs in
          let l = ends-later (course w.bus d.moment r).fault r.frame (course w.bus d.moment r).end (course-ends w.bus d.moment r) in
          let k : (course w.bus d.moment r).end ≡ d'.moment = ap (λ (y : Running). y.end) same ∙ x.end in omega (arith, l, k, t)
        where
          some : {x y : Running} → Some x ≡ Some y → x ≡ y
          some p = cc

      noticed : Noticed after d'.moment → ⊥
      noticed x =
          let i = map-among (member_after_start w.bus d.moment (discarded w.bus d.moment r.node)) w.bus.members x.member x.among in
          both_ways (has_notice d.moment x.member) (subst (λ m. has_notice d.moment m ≡ false) i.2 (started-none q free (discarded w.bus d.moment r.node) i.0 i.1))
          (subst (λ n. has_notice n x.member ≡ true) t x.has)

      late : (k : Asked (behind_bus after w.ahead) d') → ⊥
      late k =
          let f = (first-of stop w d e).asked k.action k.rest k.ahead in
          let m : k.action.moment ≡ d.moment = sym (ap (λ (x : Due). x.moment) k.due) ∙ t in
          let l = no-earlier (at Notices k.action.moment) d f m in omega (arith, l, three)

      go : (x : What) → d'.what ≡ x → (next_due after d.moment ≡ Some d') ⊎ Asked (behind_bus after w.ahead) d' → 3 ≤ rank x
      go Finish u k = absurd (ended (own-finish stop (behind_bus after w.ahead) d' e' u))
      go (Return n) u (inl k) = absurd (let y = (return-due after d.moment d' k (ap rank u)).free in let z : Some (running_frame r (course w.bus d.moment r)) ≡ None = y in cc)
      go (Return n) u (inr k) = absurd (late k)
      go Notices u (inl k) = absurd (noticed (notices-due after d.moment d' k u))
      go Notices u (inr k) = absurd (late k)
      go Start u k = omega arith

  pub settled : (d' : Due) → next_event stop (world_behind w d).0 ≡ Some d' → d'.moment ≡ d.moment → rank d.what ≤ rank d'.what
  unfolding start behind_bus
  settled d' e' t = go d.what refl e'
    where
      go : (what : What) → d.what ≡ what → next_event stop (behind_bus (event_step w d.moment what).0 (left_ahead w d.moment what)) ≡ Some d' → rank d.what ≤ rank d'.what
      go Finish q k = let z : rank d.what ≡ 0 = ap rank q in omega (arith, z)
      go (Return n) q k = let z : rank d.what ≡ 1 = ap rank q in let l = settled-return n q d' k in omega (arith, z, l)
      go Notices q k = let z : rank d.what ≡ 2 = ap rank q in let l = settled-notices q (left_ahead w d.moment Notices) d' k t in omega (arith, z, l)
      go Start q k = let z : rank d.what ≡ 3 = ap rank q in
          let h = due-itself (λ y. omega (arith, y, z)) ∙ ap (λ x. Some (at x d.moment)) q in
          let l = settled-start q (winner w.bus d.moment) (start-wins w.bus w.now d.moment h) d' k t in omega (arith, z, l)
