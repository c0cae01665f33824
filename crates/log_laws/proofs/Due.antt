-- Which event is due, and that it has a line.
use Rattle.std.proofs.Common.{◌≡◌, ℕ, ◌<◌, ◌≤◌, ◌==◌, ◌⊎◌, Bool, true, false, if◌then◌else◌, List, [], ◌∷◌, ◌++◌, map, filter, fold, max, Option, Some, None, is_some, arith, refl, ap, ◌∙◌, sym, subst, inl, inr, eq-eqb}
use Rattle.std.specs.Prelude.{◌||◌, flat_map, option_map, option_to_list, nat_le}
use Rattle.std.proofs.lemmas.Bool.{le-leb, leb-true}
use Rattle.bus_specs.specs.Bus.{Bus, Member, Request, Running, LostNotice, FormatNotice, wants, ready_moment, winner}
use Rattle.bus_specs.specs.Inbox.{take_inbox, members_at, told_notices, due, due_lost, due_format, due_wake, has_notice}
use Rattle.bus_specs.specs.Start.{start, start_with}
use Rattle.bus_specs.specs.Finish.{finish, finish_with, recover, return_moment}
use Rattle.bus_specs.specs.Due.{Due, What, Finish, Return, Notices, Start, rank, precedes, at, notice_moments, notices, returns, starts, dues, next_due}
use Rattle.run_specs.specs.Order.{better_of}
use Rattle.log_specs.specs.Line.{Line, On, Told}
use Rattle.log_specs.specs.Line as log
use Rattle.play_specs.specs.Scenario.{Action, World, or_asked, up_to, next_event, along, takers, action_step, event_step}
use Rattle.bus_sound.proofs.Among.{Among, filter-among, among-filter, filter_map-among}
use Rattle.bus_sound.proofs.Lists.{among-map, map-among, append-among, among-append_right, flat_map-among}
use Rattle.bus_sound.proofs.Orders.{foremost-among, foremost-unbeaten}
use Rattle.bus_sound.proofs.Dues.{precedes-order, not-before, start-due}
use Rattle.bus_sound.proofs.Consequences.{start-wins}
use Rattle.log_laws.proofs.Moments.{Some_lines, some-left, some-right}

-- what is due is the bus's own, or what is asked next
pub record Asked (w : World) (d : Due) : Type 0 where
  pub action : Action
  pub rest : List Action
  pub ahead : w.ahead ≡ action ∷ rest
  pub due : d ≡ at Notices action.moment

pub due-or-asked : (stop : ℕ) (w : World) (d : Due) → next_event stop w ≡ Some d → (next_due w.bus w.now ≡ Some d) ⊎ Asked w d
unfolding next_event
due-or-asked stop w d e = asks w.ahead refl (below (or_asked (next_due w.bus w.now) w.ahead) e)
  where
    below : (o : Option Due) → up_to stop o ≡ Some d → o ≡ Some d
    below None k = absurd cc
    below (Some c) k = go (nat_le c.moment stop) k
      where
        go : (t : Bool) → (if t then Some c else None) ≡ Some d → Some c ≡ Some d
        go true q = q
        go false q = absurd cc

    better : (o : Option Due) (t : ℕ) → better_of precedes o (at Notices t) ≡ Some d → (o ≡ Some d) ⊎ (at Notices t ≡ d)
    better None t k = inr cc
    better (Some c) t k = go (precedes (at Notices t) c) k
      where
        go : (u : Bool) → (if u then Some (at Notices t) else Some c) ≡ Some d → (Some c ≡ Some d) ⊎ (at Notices t ≡ d)
        go true q = inr cc
        go false q = inl q

    asks : (as' : List Action) → w.ahead ≡ as' → or_asked (next_due w.bus w.now) as' ≡ Some d → (next_due w.bus w.now ≡ Some d) ⊎ Asked w d
    asks [] q k = inl k
    asks (a ∷ as') q k = go (better (next_due w.bus w.now) a.moment k)
      where
        go : (next_due w.bus w.now ≡ Some d) ⊎ (at Notices a.moment ≡ d) → (next_due w.bus w.now ≡ Some d) ⊎ Asked w d
        go (inl x) = inl x
        go (inr x) = inr (record { action = a; rest = as'; ahead = q; due = sym x })

pub within-stop : (stop : ℕ) (w : World) (d : Due) → next_event stop w ≡ Some d → d.moment ≤ stop
unfolding next_event
within-stop stop w d e = below (or_asked (next_due w.bus w.now) w.ahead) e
  where
    below : (o : Option Due) → up_to stop o ≡ Some d → d.moment ≤ stop
    below None k = absurd cc
    below (Some c) k = go (nat_le c.moment stop) refl k
      where
        go : (t : Bool) → nat_le c.moment stop ≡ t → (if t then Some c else None) ≡ Some d → d.moment ≤ stop
        go true p q = let s : c ≡ d = cc in subst (λ (x : Due). x.moment ≤ stop) s (leb-true c.moment stop p)
        go false p q = absurd cc

-- no start that is wanted comes before a due start
pub start-least : (b : Bus) (since now : ℕ) → next_due b since ≡ Some (at Start now) → (m : Member) → Among b.members m → wants b m ≡ true → now ≤ max since (ready_moment b m)
unfolding next_due
start-least b since now h m a t =
    let free : b.running ≡ None = (start-due b since now h).free in
    let it : Due = at Start (max since (ready_moment b m)) in
    let there : Among (starts b since) it = among-map (λ x. at Start (max since (ready_moment b x))) (filter (wants b) b.members) m (among-filter (wants b) b.members m a t) in
    let due : Among (dues b since None) it = among-append_right (returns b ++ notices b) (starts b since) it there in
    let due' : Among (dues b since b.running) it = subst (λ o. Among (dues b since o) it) (sym free) due in
    go (not-before it (at Start now) (foremost-unbeaten precedes precedes-order (dues b since b.running) (at Start now) it h due'))
  where
    go : (now < max since (ready_moment b m)) ⊎ ((now ≡ max since (ready_moment b m)) × (3 ≤ 3)) → now ≤ max since (ready_moment b m)
    go (inl l) = omega (arith, l)
    go (inr l) = omega (arith, l.0)

-- where the end of a frame is due, that frame runs and ends then
pub record Ends (b : Bus) (now : ℕ) : Type 0 where
  pub frame : Running
  pub runs : b.running ≡ Some frame
  pub end : frame.end ≡ now

of-kind : (d : Due) (b : Bus) (since : ℕ) → Among (returns b ++ notices b ++ starts b since) d → 1 ≤ rank d.what
of-kind d b since a = first (append-among (returns b ++ notices b) (starts b since) d a)
  where
    back : (m : Member) (o : Option ℕ) → option_map (λ seen. at (Return m.node) (return_moment b seen)) o ≡ Some d → 1 ≤ rank d.what
    back m None e = absurd cc
    back m (Some n) e = let s : at (Return m.node) (return_moment b n) ≡ d = cc in
        let k : 1 ≡ rank d.what = ap (λ (x : Due). rank x.what) s in omega (arith, k)

    first : Among (returns b ++ notices b) d ⊎ Among (starts b since) d → 1 ≤ rank d.what
    first (inl k) = second (append-among (returns b) (notices b) d k)
      where
        second : Among (returns b) d ⊎ Among (notices b) d → 1 ≤ rank d.what
        second (inl k) =
            let r = filter_map-among (λ (m : Member). option_map (λ seen. at (Return m.node) (return_moment b seen)) m.occurrences) b.members d k in
            back r.0 (r.0).occurrences r.2
        second (inr k) = let r = map-among (at Notices) (flat_map notice_moments b.members) d k in
            let e : 2 ≡ rank d.what = ap (λ (x : Due). rank x.what) r.2 in omega (arith, e)
    first (inr k) = let r = map-among (λ m. at Start (max since (ready_moment b m))) (filter (wants b) b.members) d k in
        let e : 3 ≡ rank d.what = ap (λ (x : Due). rank x.what) r.2 in omega (arith, e)

pub finish-due : (b : Bus) (since : ℕ) (d : Due) → next_due b since ≡ Some d → d.what ≡ Finish → Ends b d.moment
unfolding next_due
finish-due b since d h k = go b.running refl (foremost-among precedes (dues b since b.running) d h)
  where
    zero-rank : rank d.what ≡ 0
    zero-rank = ap rank k

    go : (o : Option Running) → b.running ≡ o → Among (dues b since o) d → Ends b d.moment
    go None e a = absurd (omega (arith, of-kind d b since a, zero-rank))
    go (Some r) e (inl s) = record { frame = r; runs = e; end = ap (λ (x : Due). x.moment) s }
    go (Some r) e (inr a) = let i = map-among (at Notices) (flat_map notice_moments b.members) d a in
        let q : 2 ≡ rank d.what = ap (λ (x : Due). rank x.what) i.2 in absurd (omega (arith, q, zero-rank))

-- where notices are due, a member has one
pub record Noticed (b : Bus) (now : ℕ) : Type 0 where
  pub member : Member
  pub among : Among b.members member
  pub has : has_notice now member ≡ true

due-some : {A : Type 0} (when : A → ℕ) (now : ℕ) (o : Option A) → Among (option_to_list (option_map when o)) now → is_some (due when now o) ≡ true
due-some when now None a = absurd a
due-some {A} when now (Some n) (inl e) = go (nat_le (when n) now) (le-leb (when n) now (omega (arith, e)))
  where
    go : (t : Bool) → t ≡ true → is_some (if t then Some n else None) ≡ true
    go true e = refl
    go false e = absurd cc
due-some when now (Some n) (inr a) = absurd a

notice-there : (now : ℕ) (m : Member) → Among (notice_moments m) now → has_notice now m ≡ true
notice-there now m a = first (append-among (option_to_list (option_map (λ n. n.due) m.lost) ++ option_to_list (option_map (λ n. n.due) m.format)) (option_to_list m.wake) now a)
  where
    three : (x y z : Bool) → (x ≡ true) ⊎ ((y ≡ true) ⊎ (z ≡ true)) → (x || y || z) ≡ true
    three true y z h = refl
    three false true z h = refl
    three false false true h = refl
    three false false false (inl e) = absurd cc
    three false false false (inr (inl e)) = absurd cc
    three false false false (inr (inr e)) = absurd cc

    itself : (o : Option ℕ) → Among (option_to_list o) now → Among (option_to_list (option_map (λ (n : ℕ). n) o)) now
    itself None b = b
    itself (Some n) b = b

    first : Among (option_to_list (option_map (λ n. n.due) m.lost) ++ option_to_list (option_map (λ n. n.due) m.format)) now ⊎ Among (option_to_list m.wake) now → has_notice now m ≡ true
    first (inr k) = three (is_some (due_lost now m)) (is_some (due_format now m)) (is_some (due_wake now m)) (inr (inr (due-some (λ (n : ℕ). n) now m.wake (itself m.wake k))))
    first (inl k) = second (append-among (option_to_list (option_map (λ n. n.due) m.lost)) (option_to_list (option_map (λ n. n.due) m.format)) now k)
      where
        second : Among (option_to_list (option_map (λ n. n.due) m.lost)) now ⊎ Among (option_to_list (option_map (λ n. n.due) m.format)) now → has_notice now m ≡ true
        second (inl k) = three (is_some (due_lost now m)) (is_some (due_format now m)) (is_some (due_wake now m)) (inl (due-some (λ (n : LostNotice). n.due) now m.lost k))
        second (inr k) = three (is_some (due_lost now m)) (is_some (due_format now m)) (is_some (due_wake now m)) (inr (inl (due-some (λ (n : FormatNotice). n.due) now m.format k)))

in-notices : (b : Bus) (d : Due) → Among (notices b) d → Noticed b d.moment
in-notices b d a =
    let r = map-among (at Notices) (flat_map notice_moments b.members) d a in
    let f = flat_map-among notice_moments b.members r.0 r.1 in
    record { member = f.0; among = f.1; has = notice-there d.moment f.0 (subst (Among (notice_moments f.0)) (ap (λ (x : Due). x.moment) r.2) f.2) }

pub notices-due : (b : Bus) (since : ℕ) (d : Due) → next_due b since ≡ Some d → d.what ≡ Notices → Noticed b d.moment
unfolding next_due
notices-due b since d h k = go b.running (foremost-among precedes (dues b since b.running) d h)
  where
    two : rank d.what ≡ 2
    two = ap rank k

    back : (m : Member) (o : Option ℕ) → option_map (λ seen. at (Return m.node) (return_moment b seen)) o ≡ Some d → ⊥
    back m None e = cc
    back m (Some n) e = let s : at (Return m.node) (return_moment b n) ≡ d = cc in
        let q : 1 ≡ rank d.what = ap (λ (x : Due). rank x.what) s in omega (arith, q, two)

    first : Among (returns b ++ notices b) d ⊎ Among (starts b since) d → Noticed b d.moment
    first (inl k) = second (append-among (returns b) (notices b) d k)
      where
        second : Among (returns b) d ⊎ Among (notices b) d → Noticed b d.moment
        second (inl k) =
            let r = filter_map-among (λ (m : Member). option_map (λ seen. at (Return m.node) (return_moment b seen)) m.occurrences) b.members d k in
            absurd (back r.0 (r.0).occurrences r.2)
        second (inr k) = in-notices b d k
    first (inr k) = let r = map-among (λ m. at Start (max since (ready_moment b m))) (filter (wants b) b.members) d k in
        let e : 3 ≡ rank d.what = ap (λ (x : Due). rank x.what) r.2 in absurd (omega (arith, e, two))

    go : (o : Option Running) → Among (dues b since o) d → Noticed b d.moment
    go None a = first (append-among (returns b ++ notices b) (starts b since) d a)
    go (Some r) (inl s) = absurd (let q : 0 ≡ rank d.what = ap (λ (x : Due). rank x.what) s in omega (arith, q, two))
    go (Some r) (inr a) = in-notices b d a

-- steps with lines
along-keeps : {A : Type 0} (step : Bus → A → Bus × List Line) (xs : List A) (so_far : Bus × List Line) → Some_lines so_far.1 → Some_lines (fold (along step) so_far xs).1
along-keeps step [] so_far h = h
along-keeps step (x ∷ xs) so_far h = along-keeps step xs (along step so_far x) (some-left so_far.1 (step so_far.0 x).1 h)

actions-some : (xs : List Action) (a : Action) (so_far : Bus × List Line) → Among xs a → Some_lines (fold (along action_step) so_far xs).1
actions-some [] a so_far k = absurd k
actions-some (x ∷ xs) a so_far k = along-keeps action_step xs (along action_step so_far x) (some-right so_far.1 (action_step so_far.0 x).1 tt)

three-some : (now b node : ℕ) (l : Option LostNotice) (f : Option FormatNotice) (w : Option ℕ) → (is_some l || is_some f || is_some w) ≡ true
    → Some_lines (map (On now b node) (option_to_list (option_map (λ (n : LostNotice). log.ToldLost n.id) l)
    ++ option_to_list (option_map (λ (n : FormatNotice). log.ToldFormat n.bytes) f)
    ++ option_to_list (option_map (λ (n : ℕ). log.ToldWake) w)))
three-some now b node None None None e = absurd cc
three-some now b node None None (Some w) e = tt
three-some now b node None (Some f) None e = tt
three-some now b node None (Some f) (Some w) e = tt
three-some now b node (Some l) None None e = tt
three-some now b node (Some l) None (Some w) e = tt
three-some now b node (Some l) (Some f) None e = tt
three-some now b node (Some l) (Some f) (Some w) e = tt

flat-some : {X : Type 0} (f : X → List Line) (xs : List X) (x : X) → Among xs x → Some_lines (f x) → Some_lines (flat_map f xs)
flat-some f [] x a h = absurd a
flat-some f (y ∷ xs) x (inl e) h = some-left (f y) (flat_map f xs) (subst (λ z. Some_lines (f z)) (sym e) h)
flat-some f (y ∷ xs) x (inr a) h = some-right (f y) (flat_map f xs) (flat-some f xs x a h)

take-some : (b : Bus) (now : ℕ) (m : Member) → Among b.members m → has_notice now m ≡ true → Some_lines (take_inbox b now m.node).1
unfolding take_inbox
take-some b now m a h = flat-some (λ x. map (On now b.setup.number m.node) (told_notices now x)) (members_at b m.node) m
    (among-filter (λ x. x.node == m.node) b.members m a (eq-eqb m.node m.node refl))
    (three-some now b.setup.number m.node (due_lost now m) (due_format now m) (due_wake now m) h)

takers-some : (b : Bus) (now : ℕ) (ms : List Member) → ((m : Member) → Among ms m → Some_lines (take_inbox b now m.node).1) → (x : Member) → Among ms x
    → Some_lines (fold (along (λ c node. take_inbox c now node)) (b, []) (map (λ m. m.node) ms)).1
takers-some b now [] h x a = absurd a
takers-some b now (m ∷ ms) h x a = along-keeps (λ c node. take_inbox c now node) (map (λ m. m.node) ms) (along (λ c node. take_inbox c now node) (b, []) m.node) (h m (inl refl))

pub event-some : (stop : ℕ) (w : World) (d : Due) → next_event stop w ≡ Some d → Some_lines (event_step w d.moment d.what).1
unfolding finish start recover winner
event-some stop w d e = go d.what refl (due-or-asked stop w d e)
  where
    kind : Asked w d → rank d.what ≡ 2
    kind k = ap (λ (x : Due). rank x.what) k.due

    ended : (o : Option Running) (r : Running) → o ≡ Some r → Some_lines (finish_with w.bus d.moment o).1
    ended None r q = absurd cc
    ended (Some x) r q = tt

    won : (o : Option Request) → is_some o ≡ true → Some_lines (start_with w.bus d.moment o).1
    won None q = absurd cc
    won (Some x) q = tt

    go : (what : What) → d.what ≡ what → (next_due w.bus w.now ≡ Some d) ⊎ Asked w d → Some_lines (event_step w d.moment what).1
    go Finish q (inl h) = let r = finish-due w.bus w.now d h q in ended w.bus.running r.frame r.runs
    go Finish q (inr k) = absurd (let z : rank d.what ≡ 0 = ap rank q in omega (arith, z, kind k))
    go (Return n) q h = tt
    go Start q (inl h) = won (winner w.bus d.moment) (start-wins w.bus w.now d.moment (h ∙ ap (λ x. Some (at x d.moment)) q))
    go Start q (inr k) = absurd (let z : rank d.what ≡ 3 = ap rank q in omega (arith, z, kind k))
    go Notices q (inl h) =
        let n = notices-due w.bus w.now d h q in
        along-keeps action_step (filter (λ a. a.moment == d.moment) w.ahead) (fold (along (λ b node. take_inbox b d.moment node)) (w.bus, []) (takers w.bus d.moment))
        (takers-some w.bus d.moment (filter (has_notice d.moment) w.bus.members) (λ m a. let f = filter-among (has_notice d.moment) w.bus.members m a in take-some w.bus d.moment m f.0 f.1)
        n.member (among-filter (has_notice d.moment) w.bus.members n.member n.among n.has))
    go Notices q (inr k) =
        let t : d.moment ≡ k.action.moment = ap (λ (x : Due). x.moment) k.due in
        actions-some (filter (λ a. a.moment == d.moment) w.ahead) k.action (fold (along (λ b node. take_inbox b d.moment node)) (w.bus, []) (takers w.bus d.moment))
        (among-filter (λ (a : Action). a.moment == d.moment) w.ahead k.action (subst (λ l. Among l k.action) (sym k.ahead) (inl refl)) (eq-eqb k.action.moment d.moment (sym t)))

pub own-finish : (stop : ℕ) (w : World) (d : Due) → next_event stop w ≡ Some d → d.what ≡ Finish → Ends w.bus d.moment
own-finish stop w d e q = go (due-or-asked stop w d e)
  where
    go : (next_due w.bus w.now ≡ Some d) ⊎ Asked w d → Ends w.bus d.moment
    go (inl h) = finish-due w.bus w.now d h q
    go (inr k) = absurd (let z : rank d.what ≡ 0 = ap rank q in let y : rank d.what ≡ 2 = ap (λ (x : Due). rank x.what) k.due in omega (arith, z, y))
