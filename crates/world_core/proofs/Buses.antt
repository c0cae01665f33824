-- What a bus does next is the first of all that is due on it, also by the order of a network: the nodes return in their order.
use Rattle.std.proofs.Common.{◌≡◌, ◌⊎◌, ◌<◌, ◌≤◌, ℕ, zero, suc, ◌+◌, length, get_or, true, false, List, [], ◌∷◌, ◌++◌, filter_map, map, Option, Some, None, is_some, arith, sym, refl, ap, ◌∙◌, subst, inl, inr, append_assoc, eq-eqb}
use Rattle.std.specs.Prelude.{◌==◌, ◌&&◌, ◌||◌, nat_lt, option_map}
use Rattle.std.specs.List.{cons_option}
use Rattle.std.proofs.lemmas.Bool.{both_ways, false_from_ne_true, cases_lt, le-ltb, lt-ltb}
use Rattle.std.proofs.lemmas.Bool.Decides.{nat_tests}
use Rattle.std.proofs.lemmas.List.{length-map}
use Rattle.run_specs.specs.Order.{foremost, IsForemost}
use Rattle.bus_specs.specs.Bus.{Bus, Member}
use Rattle.bus_specs.specs.Finish.{return_moment}
use Rattle.bus_specs.specs.Due as due
use Rattle.bus_specs.specs.Due.{Due, notices, returns, starts, dues, next_due}
use Rattle.bus_specs.specs.Sound.{Rise, Sound}
use Rattle.bus_sound.proofs.Among.{Among, among-filter_map}
use Rattle.bus_sound.proofs.Lists.{each-All, map-among, among-map, rise-lower}
use Rattle.bus_sound.proofs.Orders.{foremost-some, foremost-among, foremost-unbeaten, foremost-is}
use Rattle.bus_sound.proofs.Dues as bus
use Rattle.bus_sound.proofs.Dues.{not-before}
use Rattle.world_specs.specs.Next.{What, Finish, Return, Sessions, Start, Event, at, what_of, event_of, rank, comes_before, precedes}
use Rattle.world_specs.specs.Plan.{Plan, AllFrom, IsBusPlan, IsPlan}
use Rattle.world_laws.proofs.Order.{precedes-order, behind, no-later}
use Rattle.world_laws.proofs.Dues.{DueSource, Ends, Noticed, Returns, Starts, due-source}
use Rattle.world_core.specs.Courses.{plan_of_bus}
use Rattle.world_core.specs.First.{first_on}
use Rattle.world_core.proofs.Firsts.{IsFirst}

-- ---- returns rise

node_of : due.What → ℕ
node_of due.Finish = 0
node_of (due.Return node) = node
node_of due.Notices = 0
node_of due.Start = 0

abbrev key : Due → ℕ
key d = node_of d.what

module _ (b : Bus) where
  back : Member → Option Due
  back m = option_map (λ seen. due.at (due.Return m.node) (return_moment b seen)) m.occurrences

  returns-rise : (from : ℕ) (ms : List Member) (below : ℕ) → Rise from (map (λ m. m.node) ms) below → Rise from (map key (filter_map back ms)) below
  unfolding node_of back
  returns-rise from [] below h = h
  returns-rise from (m ∷ ms) below h = go m.occurrences (returns-rise (m.node + 1) ms below h.1)
    where
      go : (o : Option ℕ) → Rise (m.node + 1) (map key (filter_map back ms)) below
          → Rise from (map key (cons_option (option_map (λ seen. due.at (due.Return m.node) (return_moment b seen)) o) (filter_map back ms))) below
      go None k = rise-lower from (m.node + 1) (map key (filter_map back ms)) below (omega (arith, h.0)) k
      go (Some n) k = (h.0, k)

least-key : (from : ℕ) (ds : List Due) (d : Due) (below : ℕ) → Rise from (map key ds) below → Among ds d → from ≤ key d
least-key from [] d below h a = absurd a
least-key from (c ∷ ds) d below h (inl e) = omega (arith, h.0, ap {B = ℕ} key e)
least-key from (c ∷ ds) d below h (inr a) = omega (arith, h.0, least-key (key c + 1) ds d below h.1 a)

-- the head and the rest of a list
head-same : {X : Type 0} (x y : X) (xs ys : List X) → x ∷ xs ≡ y ∷ ys → x ≡ y
head-same x y xs ys e = cc

rest-same : {X : Type 0} (x y : X) (xs ys : List X) → x ∷ xs ≡ y ∷ ys → xs ≡ ys
rest-same x y xs ys e = cc

-- of those that rise, one of a lower node stands before
stands-before : (from : ℕ) (ds others earlier later : List Due) (d c : Due) (below : ℕ) → Rise from (map key ds) below
    → ds ++ others ≡ earlier ++ d ∷ later → Among ds c → key c < key d → Among earlier c
stands-before from [] others earlier later d c below h e a l = absurd a
stands-before from (x ∷ ds) others [] later d c below h e (inl s) l =
    let k : x ≡ d = head-same x d (ds ++ others) later e in
    absurd (omega (arith, l, ap {B = ℕ} key k, ap {B = ℕ} key s))
stands-before from (x ∷ ds) others [] later d c below h e (inr a) l =
    let k : x ≡ d = head-same x d (ds ++ others) later e in
    absurd (omega (arith, l, ap {B = ℕ} key k, least-key (key x + 1) ds c below h.1 a))
stands-before from (x ∷ ds) others (y ∷ earlier) later d c below h e (inl s) l =
    inl (sym (head-same x y (ds ++ others) (earlier ++ d ∷ later) e) ∙ s)
stands-before from (x ∷ ds) others (y ∷ earlier) later d c below h e (inr a) l =
    inr (stands-before (key x + 1) ds others earlier later d c below h.1 (rest-same x y (ds ++ others) (earlier ++ d ∷ later) e) a l)

-- ---- the first by both orders

-- of one bus the later node
next-node : (bus m n : ℕ) → m < n → comes_before (rank (Return bus m)) (rank (Return bus n)) ≡ true
next-node bus m n l = rw (le-ltb bus bus (omega arith), eq-eqb bus bus refl, lt-ltb m n l) refl

tie : (t u x y : ℕ) → t ≡ u → x ≡ y → (nat_lt t u || ((t == u) && nat_lt x y)) ≡ false
tie t u x y e f = grind (arith, nat_tests)

module _ (now : ℕ) (b : Bus) (sound : Sound b) where
  is-later : (d c : Due) → d.moment < c.moment → precedes (event_of b.setup.number c) (event_of b.setup.number d) ≡ false
  is-later d c l = false_from_ne_true (precedes (event_of b.setup.number c) (event_of b.setup.number d))
      (λ t. let m = no-later (event_of b.setup.number c) (event_of b.setup.number d) t in omega (arith, l, m))

  -- one that comes before another isn't behind it
  is-behind : (e f : Event) → precedes e f ≡ true → precedes f e ≡ false
  is-behind e f t = false_from_ne_true (precedes f e) (λ k. both_ways (precedes e e) (precedes-order.itself e) (precedes-order.through e f e t k))

  same-moment : (v : What) (t u : ℕ) → t ≡ u → precedes (at v u) (at v t) ≡ false
  same-moment v t u e = subst (λ k. precedes (at v k) (at v t) ≡ false) e (precedes-order.itself (at v t))

  ranked : (v w : What) (t u : ℕ) → t ≡ u → comes_before (rank v) (rank w) ≡ true → precedes (at w u) (at v t) ≡ false
  ranked v w t u e h = is-behind (at v t) (at w u) (behind (at v t) (at w u) (omega (arith, e)) h)

  -- returns of one moment
  returns-in-order : (d c : Due) (m n : ℕ) → d.what ≡ due.Return m → c.what ≡ due.Return n → d.moment ≡ c.moment
      → foremost due.precedes (dues b now b.running) ≡ Some d → Among (dues b now b.running) c → n < m → ⊥
  unfolding node_of back
  returns-in-order d c m n dw cw t f a l = by-source (due-source b now c a)
    where
      kind : (x : due.What) → c.what ≡ x → due.rank x ≡ due.rank (due.Return n)
      kind x e = ap due.rank (sym e ∙ cw)

      clash : (x : due.What) → c.what ≡ x → (due.rank x ≡ 1 → ⊥) → ⊥
      clash x e k = k (kind x e)

      by-source : DueSource b now c → ⊥
      by-source (Ends r e s) = clash due.Finish (ap (λ (x : Due). x.what) (sym s)) (λ k. omega (arith, k))
      by-source (Noticed x i u j s) = clash due.Notices (ap (λ (x : Due). x.what) (sym s)) (λ k. omega (arith, k))
      by-source (Starts free x i w s) = clash due.Start (ap (λ (x : Due). x.what) (sym s)) (λ k. omega (arith, k))
      by-source (Returns free x i seen o s) = both_ways (due.precedes d c)
          (tie d.moment c.moment (due.rank d.what) (due.rank c.what) t (ap due.rank dw ∙ sym (ap due.rank cw)))
          (each-All (λ y. due.precedes d y ≡ true) first.earlier c first.ahead before)
        where
          first : IsForemost due.precedes (dues b now b.running) d
          first = foremost-is due.precedes bus.precedes-order (dues b now b.running) d f

          returned : Among (returns b) c
          returned = subst (Among (returns b)) s (among-filter_map (back b) b.members x (due.at (due.Return x.node) (return_moment b seen)) i (ap (option_map (λ k. due.at (due.Return x.node) (return_moment b k))) o))

          place : returns b ++ (notices b ++ starts b now) ≡ first.earlier ++ d ∷ first.later
          place = sym (append_assoc (returns b) (notices b) (starts b now)) ∙ subst (λ o. dues b now o ≡ first.earlier ++ d ∷ first.later) free first.place

          lower : key c < key d
          lower = omega (arith, l, ap node_of dw, ap node_of cw)

          before : Among first.earlier c
          before = stands-before 0 (returns b) (notices b ++ starts b now) first.earlier first.later d c (sound.nodes).0
              (returns-rise b 0 b.members (sound.nodes).0 (sound.nodes).1) place returned lower

  -- two returns of one moment, of which the later one is no less
  returns-behind : (d c : Due) (m n : ℕ) → d.moment ≡ c.moment → (n < m → ⊥)
      → precedes (at (Return b.setup.number n) c.moment) (at (Return b.setup.number m) d.moment) ≡ false
  returns-behind d c m n t h = go (cases_lt m n)
    where
      go : (m < n) ⊎ (n ≤ m) → precedes (at (Return b.setup.number n) c.moment) (at (Return b.setup.number m) d.moment) ≡ false
      go (inl l) = ranked (Return b.setup.number m) (Return b.setup.number n) d.moment c.moment t (next-node b.setup.number m n l)
      go (inr l) =
          let e : m ≡ n = grind (arith, h, l) in
          subst (λ k. precedes (at (Return b.setup.number k) c.moment) (at (Return b.setup.number m) d.moment) ≡ false) e
          (same-moment (Return b.setup.number m) d.moment c.moment t)

  -- nothing that is due comes before what the bus does next
  unbeaten : (d c : Due) → foremost due.precedes (dues b now b.running) ≡ Some d → Among (dues b now b.running) c
      → precedes (event_of b.setup.number c) (event_of b.setup.number d) ≡ false
  unbeaten d c f a = go (not-before c d (foremost-unbeaten due.precedes bus.precedes-order (dues b now b.running) d c f a))
    where
      by-what : (v w : due.What) → d.what ≡ v → c.what ≡ w → d.moment ≡ c.moment → due.rank v ≤ due.rank w
          → precedes (at (what_of b.setup.number w) c.moment) (at (what_of b.setup.number v) d.moment) ≡ false
      by-what due.Finish due.Finish dw cw t l = same-moment (Finish b.setup.number) d.moment c.moment t
      by-what due.Notices due.Notices dw cw t l = same-moment Sessions d.moment c.moment t
      by-what due.Start due.Start dw cw t l = same-moment (Start b.setup.number) d.moment c.moment t
      by-what (due.Return m) (due.Return n) dw cw t l = returns-behind d c m n t (returns-in-order d c m n dw cw t f a)
      by-what due.Finish (due.Return n) dw cw t l = ranked (Finish b.setup.number) (Return b.setup.number n) d.moment c.moment t refl
      by-what due.Finish due.Notices dw cw t l = ranked (Finish b.setup.number) Sessions d.moment c.moment t refl
      by-what due.Finish due.Start dw cw t l = ranked (Finish b.setup.number) (Start b.setup.number) d.moment c.moment t refl
      by-what (due.Return m) due.Notices dw cw t l = ranked (Return b.setup.number m) Sessions d.moment c.moment t refl
      by-what (due.Return m) due.Start dw cw t l = ranked (Return b.setup.number m) (Start b.setup.number) d.moment c.moment t refl
      by-what due.Notices due.Start dw cw t l = ranked Sessions (Start b.setup.number) d.moment c.moment t refl
      by-what (due.Return m) due.Finish dw cw t l = absurd (omega (arith, l))
      by-what due.Notices due.Finish dw cw t l = absurd (omega (arith, l))
      by-what due.Notices (due.Return n) dw cw t l = absurd (omega (arith, l))
      by-what due.Start due.Finish dw cw t l = absurd (omega (arith, l))
      by-what due.Start (due.Return n) dw cw t l = absurd (omega (arith, l))
      by-what due.Start due.Notices dw cw t l = absurd (omega (arith, l))

      go : (d.moment < c.moment) ⊎ ((d.moment ≡ c.moment) × (due.rank d.what ≤ due.rank c.what))
          → precedes (event_of b.setup.number c) (event_of b.setup.number d) ≡ false
      go (inl l) = is-later d c l
      go (inr r) = by-what d.what c.what refl refl r.0 r.1

  pub on-bus : IsFirst (Among (map (event_of b.setup.number) (dues b now b.running))) (first_on now b)
  unfolding next_due
  on-bus = go (foremost due.precedes (dues b now b.running)) refl
    where
      go : (o : Option Due) → foremost due.precedes (dues b now b.running) ≡ o
          → IsFirst (Among (map (event_of b.setup.number) (dues b now b.running))) (option_map (event_of b.setup.number) (foremost due.precedes (dues b now b.running)))
      go None e = subst (λ o. IsFirst (Among (map (event_of b.setup.number) (dues b now b.running))) (option_map (event_of b.setup.number) o)) (sym e) (record {
        is = λ f k. absurd (none f k);
        before = λ f a. let r = map-among (event_of b.setup.number) (dues b now b.running) f a in
            absurd (both_ways false refl (sym (ap is_some e) ∙ foremost-some due.precedes (dues b now b.running) r.0 r.1));
      })
        where
          none : (f : Event) → None ≡ Some f → ⊥
          none f k = cc
      go (Some d) e = subst (λ o. IsFirst (Among (map (event_of b.setup.number) (dues b now b.running))) (option_map (event_of b.setup.number) o)) (sym e) (record {
        is = λ f k. subst (Among (map (event_of b.setup.number) (dues b now b.running))) (same f k)
            (among-map (event_of b.setup.number) (dues b now b.running) d (foremost-among due.precedes (dues b now b.running) d e));
        before = λ f a. let r = map-among (event_of b.setup.number) (dues b now b.running) f a in
            record { by = event_of b.setup.number d; there = refl; unbeaten = subst (λ x. precedes x (event_of b.setup.number d) ≡ false) r.2 (unbeaten d r.0 e r.1) };
      })
        where
          same : (f : Event) → Some (event_of b.setup.number d) ≡ Some f → event_of b.setup.number d ≡ f
          same f k = cc

-- ---- numbers

pub numbered-at : (from : ℕ) (bs : List Bus) (i : ℕ) (d : Bus) → AllFrom from (λ place b. b.setup.number ≡ place) bs → i < length bs
    → (get_or bs i d).setup.number ≡ from + i
numbered-at from [] i d h l = absurd (omega (arith, l))
numbered-at from (b ∷ bs) zero d h l = omega (arith, h.0)
numbered-at from (b ∷ bs) (suc i) d h l = omega (arith, numbered-at (from + 1) bs i d h.1 (omega (arith, l)))

numbered-from : (p : Plan) (from : ℕ) (bs : List Bus) → AllFrom from (IsBusPlan p) (map plan_of_bus bs) → AllFrom from (λ place b. b.setup.number ≡ place) bs
numbered-from p from [] h = tt
numbered-from p from (b ∷ bs) h = ((h.0).number, numbered-from p (from + 1) bs h.1)

pub numbered : (p : Plan) (bs : List Bus) → IsPlan p → p.buses ≡ map plan_of_bus bs → AllFrom 0 (λ place b. b.setup.number ≡ place) bs
numbered p bs ok e = numbered-from p 0 bs (subst (AllFrom 0 (IsBusPlan p)) e ok.buses)

pub few-buses : (p : Plan) (bs : List Bus) → IsPlan p → p.buses ≡ map plan_of_bus bs → length bs ≤ 4
few-buses p bs ok e = omega (arith, (ok.some_buses).1, ap length e, length-map bs plan_of_bus)
