-- What is due on a bus, by what it is due for; and what the next event of a network says of its bus.
use Rattle.std.proofs.Common.{◌≡◌, ◌<◌, ◌≤◌, ℕ, ◌⊎◌, true, false, max, ◌++◌, map, filter, flat_map, filter_map, Option, Some, None, is_some, arith, sym, refl, ap, ◌∙◌, subst, inl, inr}
use Rattle.std.specs.Prelude.{option_map}
use Rattle.std.proofs.lemmas.Bool.{both_ways}
use Rattle.bus_specs.specs.Bus.{Bus, Member, Running, wants, ready_moment}
use Rattle.bus_specs.specs.Finish.{return_moment}
use Rattle.bus_specs.specs.Due.{Due, notice_moments, notices, returns, starts, dues, next_due}
use Rattle.bus_specs.specs.Due as due
use Rattle.bus_sound.proofs.Among.{Among, filter-among, among-filter, filter_map-among, among-filter_map, among-append_left}
use Rattle.bus_sound.proofs.Lists.{map-among, among-map, append-among, among-append_right, flat_map-among, among-flat_map}
use Rattle.bus_sound.proofs.Orders.{foremost-some, foremost-among, foremost-unbeaten}
use Rattle.bus_sound.proofs.Dues.{not-before, precedes-order}
use Rattle.world_specs.specs.World.{World, AreDistinct, Standing, New, Live, Down, Over}
use Rattle.world_specs.specs.Next.{What, Finish, Return, Sessions, Start, Event, at, what_of, event_of, rank, comes_before, precedes, of_standing, next_event}
use Rattle.world_laws.proofs.Lists.{one-of-number}
use Rattle.world_laws.proofs.Order.{next-among, next-unbeaten, no-earlier, strictly-later}
use Rattle.world_laws.proofs.Sources.{Source, OfBus, OfMail, OfNode, source, due-enabled}

pub data DueSource (b : Bus) (now : ℕ) (d : Due) : Type 0 where
  Ends : (r : Running) → b.running ≡ Some r → due.at due.Finish r.end ≡ d → DueSource b now d
  Noticed : (m : Member) → Among b.members m → (u : ℕ) → Among (notice_moments m) u → due.at due.Notices u ≡ d → DueSource b now d
  Returns : b.running ≡ None → (m : Member) → Among b.members m → (n : ℕ) → m.occurrences ≡ Some n → due.at (due.Return m.node) (return_moment b n) ≡ d → DueSource b now d
  Starts : b.running ≡ None → (m : Member) → Among b.members m → wants b m ≡ true → due.at due.Start (max now (ready_moment b m)) ≡ d → DueSource b now d

module _ (b : Bus) (now : ℕ) where
  noticed : (d : Due) → Among (notices b) d → DueSource b now d
  noticed d a =
      let r = map-among (due.at due.Notices) (flat_map notice_moments b.members) d a in
      let m = flat_map-among notice_moments b.members r.0 r.1 in
      Noticed m.0 m.1 r.0 m.2 r.2

  returning : b.running ≡ None → (d : Due) → Among (returns b) d → DueSource b now d
  returning free d a =
      let r = filter_map-among (λ (m : Member). option_map (λ seen. due.at (due.Return m.node) (return_moment b seen)) m.occurrences) b.members d a in
      go r.0 r.1 (r.0.occurrences) refl r.2
    where
      go : (m : Member) → Among b.members m → (o : Option ℕ) → m.occurrences ≡ o → option_map (λ seen. due.at (due.Return m.node) (return_moment b seen)) m.occurrences ≡ Some d → DueSource b now d
      go m i None e k = absurd (none (sym (ap (option_map (λ seen. due.at (due.Return m.node) (return_moment b seen))) e) ∙ k))
        where
          none : None ≡ Some d → ⊥
          none q = cc
      go m i (Some n) e k = Returns free m i n e (some (sym (ap (option_map (λ seen. due.at (due.Return m.node) (return_moment b seen))) e) ∙ k))
        where
          some : Some (due.at (due.Return m.node) (return_moment b n)) ≡ Some d → due.at (due.Return m.node) (return_moment b n) ≡ d
          some q = cc

  pub due-source : (d : Due) → Among (dues b now b.running) d → DueSource b now d
  due-source d a = go b.running refl a
    where
      go : (o : Option Running) → b.running ≡ o → Among (dues b now o) d → DueSource b now d
      go (Some r) e (inl q) = Ends r e q
      go (Some r) e (inr c) = noticed d c
      go None e c = first (append-among (returns b ++ notices b) (starts b now) d c)
        where
          second : Among (returns b) d ⊎ Among (notices b) d → DueSource b now d
          second (inl k) = returning e d k
          second (inr k) = noticed d k

          first : Among (returns b ++ notices b) d ⊎ Among (starts b now) d → DueSource b now d
          first (inl k) = second (append-among (returns b) (notices b) d k)
          first (inr k) =
              let r = map-among (λ m. due.at due.Start (max now (ready_moment b m))) (filter (wants b) b.members) d k in
              let f = filter-among (wants b) b.members r.0 r.1 in
              Starts e r.0 f.0 f.1 r.2

  pub end-due : (r : Running) → b.running ≡ Some r → Among (dues b now b.running) (due.at due.Finish r.end)
  end-due r e = subst (λ o. Among (dues b now o) (due.at due.Finish r.end)) (sym e) (inl refl)

  pub notice-due : (m : Member) → Among b.members m → (u : ℕ) → Among (notice_moments m) u → Among (dues b now b.running) (due.at due.Notices u)
  notice-due m a u i = go b.running
    where
      here : Among (notices b) (due.at due.Notices u)
      here = among-map (due.at due.Notices) (flat_map notice_moments b.members) u (among-flat_map notice_moments b.members m u a i)

      go : (o : Option Running) → Among (dues b now o) (due.at due.Notices u)
      go (Some r) = inr here
      go None = among-append_left (returns b ++ notices b) (starts b now) (due.at due.Notices u) (among-append_right (returns b) (notices b) (due.at due.Notices u) here)

  pub return-due : b.running ≡ None → (m : Member) → Among b.members m → (n : ℕ) → m.occurrences ≡ Some n → Among (dues b now b.running) (due.at (due.Return m.node) (return_moment b n))
  return-due free m a n e = subst (λ o. Among (dues b now o) (due.at (due.Return m.node) (return_moment b n))) (sym free)
      (among-append_left (returns b ++ notices b) (starts b now) (due.at (due.Return m.node) (return_moment b n))
      (among-append_left (returns b) (notices b) (due.at (due.Return m.node) (return_moment b n))
      (among-filter_map (λ (x : Member). option_map (λ seen. due.at (due.Return x.node) (return_moment b seen)) x.occurrences) b.members m
      (due.at (due.Return m.node) (return_moment b n)) a (ap (option_map (λ seen. due.at (due.Return m.node) (return_moment b seen))) e))))

  pub start-due : b.running ≡ None → (m : Member) → Among b.members m → wants b m ≡ true → Among (dues b now b.running) (due.at due.Start (max now (ready_moment b m)))
  start-due free m a w = subst (λ o. Among (dues b now o) (due.at due.Start (max now (ready_moment b m)))) (sym free)
      (among-append_right (returns b ++ notices b) (starts b now) (due.at due.Start (max now (ready_moment b m)))
      (among-map (λ m. due.at due.Start (max now (ready_moment b m))) (filter (wants b) b.members) m (among-filter (wants b) b.members m a w)))

-- ---- kinds

pub kind : What → ℕ
kind (Finish bus) = 0
kind (Return bus node) = 1
kind Sessions = 2
kind (Start bus) = 3

pub bus_of : What → ℕ
bus_of (Finish bus) = bus
bus_of (Return bus node) = bus
bus_of Sessions = 0
bus_of (Start bus) = bus

pub same-kind : (e f : Event) → e ≡ f → kind e.what ≡ kind f.what
same-kind e f q = ap (λ (x : Event). kind x.what) q

-- a node calls for sessions alone
pub node-what : {S : Type 0} (now : ℕ) (s : Standing S) (e : Event) → Among (of_standing now s) e → e.what ≡ Sessions
node-what now (New s) e (inl q) = sym (ap (λ (x : Event). x.what) q)
node-what now (New s) e (inr a) = absurd a
node-what now (Live s last clocks) e a = let r = map-among (at Sessions) (filter_map (λ c. c) clocks) e a in sym (ap (λ (x : Event). x.what) r.2)
node-what now Down e a = absurd a
node-what now Over e a = absurd a

-- ---- the next event on its bus

-- an end: the frame of a bus of this number
pub record OwnEnd {S : Type 0} (w : World S) (bus t : ℕ) : Type 0 where
  pub on : Bus
  pub among : Among w.buses on
  pub number : on.setup.number ≡ bus
  pub frame : Running
  pub running : on.running ≡ Some frame
  pub end : frame.end ≡ t

pub own-end : {S : Type 0} (stop : ℕ) (w : World S) (bus t : ℕ) → next_event stop w ≡ Some (at (Finish bus) t) → OwnEnd w bus t
unfolding kind bus_of
own-end {S} stop w bus t n = go (source w (at (Finish bus) t) (next-among stop w (at (Finish bus) t) n))
  where
    by-due : (b : Bus) → Among w.buses b → (d : Due) → event_of b.setup.number d ≡ at (Finish bus) t → DueSource b w.now d → OwnEnd w bus t
    by-due b a d q (Ends r e s) = record {
      on = b;
      among = a;
      number = ap (λ (x : Event). bus_of x.what) (ap (event_of b.setup.number) s ∙ q);
      frame = r;
      running = e;
      end = ap (λ (x : Event). x.moment) (ap (event_of b.setup.number) s ∙ q);
    }
    by-due b a d q (Noticed m i u j s) = absurd (let k : 2 ≡ 0 = same-kind (at Sessions u) (at (Finish bus) t) (ap (event_of b.setup.number) s ∙ q) in omega (arith, k))
    by-due b a d q (Returns free m i k e s) = absurd (let k : 1 ≡ 0 = same-kind (at (Return b.setup.number m.node) (return_moment b k)) (at (Finish bus) t) (ap (event_of b.setup.number) s ∙ q) in omega (arith, k))
    by-due b a d q (Starts free m i e s) = absurd (let k : 3 ≡ 0 = same-kind (at (Start b.setup.number) (max w.now (ready_moment b m))) (at (Finish bus) t) (ap (event_of b.setup.number) s ∙ q) in omega (arith, k))

    go : Source w (at (Finish bus) t) → OwnEnd w bus t
    go (OfBus b a d c q) = by-due b a d q (due-source b w.now d c)
    go (OfMail b a m c i q) = absurd (let k : 2 ≡ 0 = same-kind (at Sessions w.now) (at (Finish bus) t) q in omega (arith, k))
    go (OfNode m a c) = absurd (let k : 0 ≡ 2 = ap kind (node-what w.now m.standing (at (Finish bus) t) c) in omega (arith, k))

-- a start: it is what the bus of this number does next
start-among : {S : Type 0} (stop : ℕ) (w : World S) (bus t : ℕ) → next_event stop w ≡ Some (at (Start bus) t)
    → (c : Bus) × Among w.buses c × (c.setup.number ≡ bus) × Among (dues c w.now c.running) (due.at due.Start t)
unfolding kind bus_of
start-among {S} stop w bus t n = go (source w (at (Start bus) t) (next-among stop w (at (Start bus) t) n))
  where
    Found : Type 0
    Found = (c : Bus) × Among w.buses c × (c.setup.number ≡ bus) × Among (dues c w.now c.running) (due.at due.Start t)

    by-due : (b : Bus) → Among w.buses b → (d : Due) → Among (dues b w.now b.running) d → event_of b.setup.number d ≡ at (Start bus) t → DueSource b w.now d → Found
    by-due b a d c q (Ends r e s) = absurd (let k : 0 ≡ 3 = same-kind (at (Finish b.setup.number) r.end) (at (Start bus) t) (ap (event_of b.setup.number) s ∙ q) in omega (arith, k))
    by-due b a d c q (Noticed m i u j s) = absurd (let k : 2 ≡ 3 = same-kind (at Sessions u) (at (Start bus) t) (ap (event_of b.setup.number) s ∙ q) in omega (arith, k))
    by-due b a d c q (Returns free m i k e s) = absurd (let k : 1 ≡ 3 = same-kind (at (Return b.setup.number m.node) (return_moment b k)) (at (Start bus) t) (ap (event_of b.setup.number) s ∙ q) in omega (arith, k))
    by-due b a d c q (Starts free m i e s) =
        let whole : at (Start b.setup.number) (max w.now (ready_moment b m)) ≡ at (Start bus) t = ap (event_of b.setup.number) s ∙ q in
        let moment : max w.now (ready_moment b m) ≡ t = ap (λ (x : Event). x.moment) whole in
        (b, a, ap (λ (x : Event). bus_of x.what) whole, subst (λ u. Among (dues b w.now b.running) (due.at due.Start u)) moment (subst (Among (dues b w.now b.running)) (sym s) c))

    go : Source w (at (Start bus) t) → Found
    go (OfBus b a d c q) = by-due b a d c q (due-source b w.now d c)
    go (OfMail b a m c i q) = absurd (let k : 2 ≡ 3 = same-kind (at Sessions w.now) (at (Start bus) t) q in omega (arith, k))
    go (OfNode m a c) = absurd (let k : 3 ≡ 2 = ap kind (node-what w.now m.standing (at (Start bus) t) c) in omega (arith, k))

pub own-start : {S : Type 0} (stop : ℕ) (w : World S) (bus t : ℕ) → next_event stop w ≡ Some (at (Start bus) t) → AreDistinct (map (λ b. b.setup.number) w.buses)
    → (b : Bus) → Among w.buses b → b.setup.number ≡ bus → next_due b w.now ≡ Some (due.at due.Start t)
unfolding next_due
own-start {S} stop w bus t n distinct b a number =
    let f = start-among stop w bus t n in
    let same : f.0 ≡ b = one-of-number (λ (c : Bus). c.setup.number) w.buses f.0 b distinct f.1 a (f.2 ∙ sym number) in
    here (subst (λ (c : Bus). Among (dues c w.now c.running) (due.at due.Start t)) same f.3)
  where
    start : Event
    start = at (Start bus) t

    -- another that is due there comes neither before nor behind it
    only : (d : Due) → Among (dues b w.now b.running) d → due.precedes (due.at due.Start t) d ≡ false → d ≡ due.at due.Start t
    only d c h = by-what d.what d.moment refl refl (not-before (due.at due.Start t) d h)
      where
        unbeaten : precedes (event_of b.setup.number d) start ≡ false
        unbeaten = next-unbeaten stop w start (event_of b.setup.number d) n (due-enabled w b d a c)

        from : t ≤ d.moment
        from = no-earlier start (event_of b.setup.number d) unbeaten

        by-moment : (d.moment < t) ⊎ ((d.moment ≡ t) × (due.rank d.what ≤ 3)) → d.moment ≡ t
        by-moment (inl l) = absurd (omega (arith, l, from))
        by-moment (inr l) = l.0

        clash : (k : What) → what_of b.setup.number d.what ≡ k → comes_before (rank k) (rank (Start bus)) ≡ true → d.moment ≡ t → ⊥
        clash k e r s =
            let l = strictly-later start (event_of b.setup.number d) unbeaten (subst (λ q. comes_before (rank q) (rank (Start bus)) ≡ true) (sym e) r) in
            omega (arith, l, s)

        by-what : (k : due.What) (u : ℕ) → d.what ≡ k → d.moment ≡ u → (d.moment < t) ⊎ ((d.moment ≡ t) × (due.rank d.what ≤ 3)) → d ≡ due.at due.Start t
        by-what due.Finish u e s o = absurd (clash (Finish b.setup.number) (ap (what_of b.setup.number) e) refl (by-moment o))
        by-what (due.Return m) u e s o = absurd (clash (Return b.setup.number m) (ap (what_of b.setup.number) e) refl (by-moment o))
        by-what due.Notices u e s o = absurd (clash Sessions (ap (what_of b.setup.number) e) refl (by-moment o))
        by-what due.Start u e s o = let q = by-moment o in whole e q
          where
            whole : d.what ≡ due.Start → d.moment ≡ t → d ≡ due.at due.Start t
            whole x y = rw (sym x, sym y) refl

    here : Among (dues b w.now b.running) (due.at due.Start t) → next_due b w.now ≡ Some (due.at due.Start t)
    here c = go (next_due b w.now) refl
      where
        go : (o : Option Due) → next_due b w.now ≡ o → next_due b w.now ≡ Some (due.at due.Start t)
        go None e = absurd (both_ways false refl (sym (ap is_some e) ∙ foremost-some due.precedes (dues b w.now b.running) (due.at due.Start t) c))
        go (Some d) e = e ∙ ap Some (only d (foremost-among due.precedes (dues b w.now b.running) d e)
            (foremost-unbeaten due.precedes precedes-order (dues b w.now b.running) d (due.at due.Start t) e c))
