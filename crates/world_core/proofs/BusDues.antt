-- The next event of a network, where it is on a bus, is what its bus does next.
use Rattle.std.proofs.Common.{append_assoc, ◌≡◌, ◌<◌, ◌≤◌, ◌+◌, ℕ, ◌⊎◌, true, false, max, List, [], ◌∷◌, ◌++◌, map, filter, flat_map, filter_map, Option, Some, None, is_some, arith, sym, refl, ap, ◌∙◌, subst, inl, inr}
use Rattle.std.specs.Prelude.{◌==◌, ◌&&◌, ◌||◌, nat_lt, option_map}
use Rattle.std.specs.List.{cons_option}
use Rattle.std.proofs.lemmas.List.{append-nil}
use Rattle.std.proofs.lemmas.Bool.Decides.{nat_tests}
use Rattle.std.proofs.lemmas.Bool.{both_ways, cases_lt}
use Rattle.bus_specs.specs.Bus.{Bus, Member, Running, wants, ready_moment}
use Rattle.bus_specs.specs.Finish.{return_moment}
use Rattle.bus_specs.specs.Due.{Due, notice_moments, notices, returns, starts, dues, next_due}
use Rattle.bus_specs.specs.Due as due
use Rattle.bus_specs.specs.Sound.{Sound, Rise}
use Rattle.bus_sound.proofs.Among.{Among}
use Rattle.bus_sound.proofs.Lists.{each-All, append-among}
use Rattle.bus_sound.proofs.Orders.{foremost-some, foremost-among, foremost-unbeaten}
use Rattle.bus_sound.proofs.Dues.{not-before, precedes-order}
use Rattle.bus_sound.proofs.Foremost.{next-due-is}
use Rattle.run_specs.specs.Order.{IsForemost}
use Rattle.world_specs.specs.World.{World}
use Rattle.world_specs.specs.Next.{Event, what_of, event_of, rank, comes_before, precedes, next_event}
use Rattle.world_laws.proofs.Order.{next-unbeaten, no-earlier, strictly-later}
use Rattle.world_laws.proofs.Sources.{due-enabled}

-- ---- returns stand in the order of the nodes

abbrev Fits : ℕ → due.What → Type 0
Fits from due.Finish = Unit {0}
Fits from due.Notices = Unit {0}
Fits from due.Start = Unit {0}
Fits from (due.Return n) = from ≤ n

abbrev behind : ℕ → due.What → ℕ
behind from due.Finish = from
behind from due.Notices = from
behind from due.Start = from
behind from (due.Return n) = n

-- each return is of no lower node than those before it
abbrev InOrder : ℕ → List Due → Type 0
InOrder from [] = Unit {0}
InOrder from (d ∷ ds) = Fits from d.what × InOrder (behind from d.what) ds

marked : (w : due.What) (low : ℕ) → Fits low w → low ≤ behind low w
marked due.Finish low h = omega arith
marked due.Notices low h = omega arith
marked due.Start low h = omega arith
marked (due.Return n) low h = h

from-low : (low n : ℕ) (ds : List Due) (d : Due) → InOrder low ds → Among ds d → d.what ≡ due.Return n → low ≤ n
from-low low n [] d h a e = absurd a
from-low low n (y ∷ ds) d h (inl s) e = subst (Fits low) (ap (λ (x : Due). x.what) s ∙ e) h.0
from-low low n (y ∷ ds) d h (inr a) e =
    let rest : behind low y.what ≤ n = from-low (behind low y.what) n ds d h.1 a e in
    let here = marked y.what low h.0 in
    omega (arith, rest, here)

later-higher : (low : ℕ) (earlier : List Due) (x : Due) (later : List Due) (d : Due) (m n : ℕ) → InOrder low (earlier ++ x ∷ later) → x.what ≡ due.Return m
    → Among later d → d.what ≡ due.Return n → m ≤ n
later-higher low [] x later d m n h e a s = from-low m n later d (subst (λ w. InOrder (behind low w) later) e h.1) a s
later-higher low (y ∷ earlier) x later d m n h e a s = later-higher (behind low y.what) earlier x later d m n h.1 e a s

others : (low : ℕ) (xs : List ℕ) (rest : List Due) → InOrder low rest → InOrder low (map (due.at due.Notices) xs ++ rest)
others low [] rest h = h
others low (x ∷ xs) rest h = (tt, others low xs rest h)

all-starts : {A : Type 0} (low : ℕ) (f : A → ℕ) (xs : List A) → InOrder low (map (λ x. due.at due.Start (f x)) xs)
all-starts low f [] = tt
all-starts low f (x ∷ xs) = (tt, all-starts low f xs)

abbrev returned : Bus → Member → Option Due
returned b m = option_map (λ seen. due.at (due.Return m.node) (return_moment b seen)) m.occurrences

all-returns : (b : Bus) (rest : List Due) → ((low : ℕ) → InOrder low rest) → (ms : List Member) (from low below : ℕ) → low ≤ from
    → Rise from (map (λ m. m.node) ms) below → InOrder low (filter_map (returned b) ms ++ rest)
all-returns b rest k [] from low below l r = k low
all-returns b rest k (m ∷ ms) from low below l r = go m.occurrences (λ low' l'. all-returns b rest k ms (m.node + 1) low' below l' r.1)
  where
    go : (o : Option ℕ) → ((low' : ℕ) → low' ≤ m.node + 1 → InOrder low' (filter_map (returned b) ms ++ rest))
        → InOrder low (cons_option (option_map (λ seen. due.at (due.Return m.node) (return_moment b seen)) o) (filter_map (returned b) ms) ++ rest)
    go None on = on low (omega (arith, l, r.0))
    go (Some n) on = (omega (arith, l, r.0), on m.node (omega arith))

dues-in-order : (b : Bus) (now : ℕ) → Sound b → (o : Option Running) → InOrder 0 (dues b now o)
dues-in-order b now s (Some r) = (tt, subst (InOrder 0) (append-nil (notices b)) (others 0 (flat_map notice_moments b.members) [] tt))
dues-in-order b now s None =
    let rest : (low : ℕ) → InOrder low (notices b ++ starts b now) =
    λ low. others low (flat_map notice_moments b.members) (starts b now) (all-starts low (λ m. max now (ready_moment b m)) (filter (wants b) b.members)) in
    subst (InOrder 0) (sym (append_assoc (returns b) (notices b) (starts b now)))
    (all-returns b (notices b ++ starts b now) rest b.members 0 0 s.nodes.0 (omega arith) s.nodes.1)

-- ---- what its bus does next

-- no notice
abbrev pub IsOwn : due.What → Type 0
IsOwn due.Finish = Unit {0}
IsOwn (due.Return n) = Unit {0}
IsOwn due.Notices = ⊥
IsOwn due.Start = Unit {0}

whole : (d c : Due) → d.moment ≡ c.moment → d.what ≡ c.what → d ≡ c
whole d c x y = rw (x, y) refl

module _ {S : Type 0} (stop : ℕ) (w : World S) (e : Event) (n : next_event stop w ≡ Some e) (b : Bus) (a : Among w.buses b) (sound : Sound b)
    (d : Due) (c : Among (dues b w.now b.running) d) (q : event_of b.setup.number d ≡ e) where
  unbeaten : (f : Due) → Among (dues b w.now b.running) f → precedes (event_of b.setup.number f) (event_of b.setup.number d) ≡ false
  unbeaten f i = subst (λ x. precedes (event_of b.setup.number f) x ≡ false) (sym q) (next-unbeaten stop w e (event_of b.setup.number f) n (due-enabled w b f a i))

  same-moment : (f : Due) → Among (dues b w.now b.running) f → due.precedes d f ≡ false → (f.moment ≡ d.moment) × (due.rank f.what ≤ due.rank d.what)
  same-moment f i h = by (not-before d f h)
    where
      from : d.moment ≤ f.moment
      from = no-earlier (event_of b.setup.number d) (event_of b.setup.number f) (unbeaten f i)

      by : (f.moment < d.moment) ⊎ ((f.moment ≡ d.moment) × (due.rank f.what ≤ due.rank d.what)) → (f.moment ≡ d.moment) × (due.rank f.what ≤ due.rank d.what)
      by (inl l) = absurd (omega (arith, l, from))
      by (inr l) = l

  clash : (f : Due) → Among (dues b w.now b.running) f → f.moment ≡ d.moment → (k j : due.What) → f.what ≡ k → d.what ≡ j
      → comes_before (rank (what_of b.setup.number k)) (rank (what_of b.setup.number j)) ≡ true → ⊥
  clash f i s k j x y r =
      let l = strictly-later (event_of b.setup.number d) (event_of b.setup.number f) (unbeaten f i)
      (subst (λ v. comes_before (rank (what_of b.setup.number v)) (rank (what_of b.setup.number d.what)) ≡ true) (sym x)
      (subst (λ v. comes_before (rank (what_of b.setup.number k)) (rank (what_of b.setup.number v)) ≡ true) (sym y) r)) in
      omega (arith, l, s)

  -- what stands first of equals
  not-ahead : (x y i j : ℕ) → x ≡ y → j ≤ i → (nat_lt x y || ((x == y) && nat_lt i j)) ≡ false
  not-ahead x y i j s l = grind (arith, nat_tests)

  lower-node : (bus m k : ℕ) → m < k → comes_before (1 ∷ bus ∷ m ∷ []) (1 ∷ bus ∷ k ∷ []) ≡ true
  lower-node bus m k l = grind (arith, nat_tests)

  no-lower : (bus m k : ℕ) → (comes_before (1 ∷ bus ∷ m ∷ []) (1 ∷ bus ∷ k ∷ []) ≡ true → ⊥) → k ≤ m
  no-lower bus m k h = go (cases_lt m k)
    where
      go : (m < k) ⊎ (k ≤ m) → k ≤ m
      go (inl l) = absurd (h (lower-node bus m k l))
      go (inr l) = l

  one-return : (f : Due) → next_due b w.now ≡ Some f → Among (dues b w.now b.running) f → f.moment ≡ d.moment → (m k : ℕ) → f.what ≡ due.Return m → d.what ≡ due.Return k → f ≡ d
  one-return f e i s m k x y =
      let r = next-due-is b w.now f e in
      by r (append-among r.earlier (f ∷ r.later) d (subst (λ ds. Among ds d) r.place c))
    where
      higher : k ≤ m
      higher = no-lower b.setup.number m k (λ t. clash f i s (due.Return m) (due.Return k) x y t)

      same-node : k ≤ m → m ≤ k → f ≡ d
      same-node l g = let z : m ≡ k = omega arith in whole f d s (x ∙ ap due.Return z ∙ sym y)

      ranks : due.rank d.what ≤ due.rank f.what
      ranks = rw (x, y) (omega arith)

      by : (r : IsForemost due.precedes (dues b w.now b.running) f) → Among r.earlier d ⊎ Among (f ∷ r.later) d → f ≡ d
      by r (inl g) = absurd (both_ways (due.precedes f d) (not-ahead f.moment d.moment (due.rank f.what) (due.rank d.what) s ranks) (each-All (λ y. due.precedes f y ≡ true) r.earlier d r.ahead g))
      by r (inr (inl g)) = g
      by r (inr (inr g)) = same-node higher (later-higher 0 r.earlier f r.later d m k (subst (InOrder 0) r.place (dues-in-order b w.now sound b.running)) x g y)

  is-it : IsOwn d.what → (f : Due) → next_due b w.now ≡ Some f → Among (dues b w.now b.running) f → due.precedes d f ≡ false → f ≡ d
  is-it own f e i h = by f.what d.what refl refl own (same-moment f i h).0 (same-moment f i h).1
    where
      by : (x y : due.What) → f.what ≡ x → d.what ≡ y → IsOwn d.what → f.moment ≡ d.moment → due.rank f.what ≤ due.rank d.what → f ≡ d
      by x due.Notices p r o s l = absurd (subst IsOwn r o)
      by due.Finish due.Finish p r o s l = whole f d s (p ∙ sym r)
      by (due.Return m) due.Finish p r o s l = absurd (let z : 1 ≤ 0 = rw (p, r) at l in omega (arith, z))
      by due.Notices due.Finish p r o s l = absurd (let z : 2 ≤ 0 = rw (p, r) at l in omega (arith, z))
      by due.Start due.Finish p r o s l = absurd (let z : 3 ≤ 0 = rw (p, r) at l in omega (arith, z))
      by due.Finish (due.Return k) p r o s l = absurd (clash f i s due.Finish (due.Return k) p r refl)
      by (due.Return m) (due.Return k) p r o s l = one-return f e i s m k p r
      by due.Notices (due.Return k) p r o s l = absurd (let z : 2 ≤ 1 = rw (p, r) at l in omega (arith, z))
      by due.Start (due.Return k) p r o s l = absurd (let z : 3 ≤ 1 = rw (p, r) at l in omega (arith, z))
      by due.Finish due.Start p r o s l = absurd (clash f i s due.Finish due.Start p r refl)
      by (due.Return m) due.Start p r o s l = absurd (clash f i s (due.Return m) due.Start p r refl)
      by due.Notices due.Start p r o s l = absurd (clash f i s due.Notices due.Start p r refl)
      by due.Start due.Start p r o s l = whole f d s (p ∙ sym r)

  pub due-on : IsOwn d.what → next_due b w.now ≡ Some d
  unfolding next_due
  due-on own = go (next_due b w.now) refl
    where
      go : (o : Option Due) → next_due b w.now ≡ o → next_due b w.now ≡ Some d
      go None x = absurd (both_ways false refl (sym (ap is_some x) ∙ foremost-some due.precedes (dues b w.now b.running) d c))
      go (Some f) x = x ∙ ap Some (is-it own f x (foremost-among due.precedes (dues b w.now b.running) f x)
          (foremost-unbeaten due.precedes precedes-order (dues b w.now b.running) f d x c))
