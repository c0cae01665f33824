-- What is due: the order of dues, and what a due start tells of the bus.
use Rattle.std.proofs.Common.{◌≡◌, ℕ, ◌<◌, ◌≤◌, ◌==◌, ◌⊎◌, Bool, true, false, max, ◌++◌, filter, flat_map, Option, Some, None, arith, sym, refl, ap, subst, inl, inr, eq-eqb}
use Rattle.std.specs.Prelude.{◌&&◌, nat_lt, option_map}
use Rattle.std.proofs.lemmas.Bool.{and_parts, and_from, and_cases, or_cases, or_parts, or_left, or_right, eqb-true, eqb-false, ltb-true, ltb-false, lt-ltb, false_from_ne_true}
use Rattle.bus_specs.specs.Bus.{Bus, Member, Running, wants, ready_moment}
use Rattle.bus_specs.specs.Finish.{return_moment}
use Rattle.bus_specs.specs.Due.{Due, Notices, Start, Return, rank, precedes, at, notices, returns, starts, dues, next_due, notice_moments}
use Rattle.bus_sound.proofs.Among.{Among, filter-among, filter_map-among, among-filter_map, among-append_left}
use Rattle.bus_sound.proofs.Lists.{map-among, append-among}
use Rattle.bus_sound.proofs.Orders.{IsOrder, foremost-among, foremost-unbeaten}

abbrev Earlier : Due → Due → Type 0
Earlier d c = (d.moment < c.moment) ⊎ ((d.moment ≡ c.moment) × (rank d.what < rank c.what))

to : (d c : Due) → precedes d c ≡ true → Earlier d c
to d c h = go (or_cases (nat_lt d.moment c.moment) ((d.moment == c.moment) && nat_lt (rank d.what) (rank c.what)) h)
  where
    go : (nat_lt d.moment c.moment ≡ true) ⊎ (((d.moment == c.moment) && nat_lt (rank d.what) (rank c.what)) ≡ true) → Earlier d c
    go (inl e) = inl (ltb-true d.moment c.moment e)
    go (inr e) = let both = and_parts (d.moment == c.moment) (nat_lt (rank d.what) (rank c.what)) e in
        inr (eqb-true d.moment c.moment both.0, ltb-true (rank d.what) (rank c.what) both.1)

from : (d c : Due) → Earlier d c → precedes d c ≡ true
from d c (inl l) = or_left (nat_lt d.moment c.moment) ((d.moment == c.moment) && nat_lt (rank d.what) (rank c.what)) (lt-ltb d.moment c.moment l)
from d c (inr e) = or_right (nat_lt d.moment c.moment) ((d.moment == c.moment) && nat_lt (rank d.what) (rank c.what))
    (and_from (d.moment == c.moment) (nat_lt (rank d.what) (rank c.what)) (eq-eqb d.moment c.moment e.0) (lt-ltb (rank d.what) (rank c.what) e.1))

-- not earlier: later, or of a kind that comes no sooner
pub not-before : (d c : Due) → precedes d c ≡ false → (c.moment < d.moment) ⊎ ((c.moment ≡ d.moment) × (rank c.what ≤ rank d.what))
not-before d c h =
    let parts = or_parts (nat_lt d.moment c.moment) ((d.moment == c.moment) && nat_lt (rank d.what) (rank c.what)) h in
    let later : c.moment ≤ d.moment = ltb-false d.moment c.moment parts.0 in
    go later (and_cases (d.moment == c.moment) (nat_lt (rank d.what) (rank c.what)) parts.1)
  where
    apart : (m n : ℕ) → m ≤ n → (n ≡ m → ⊥) → m < n
    apart m n l ne = grind (arith, ne)

    go : c.moment ≤ d.moment → ((d.moment == c.moment) ≡ false) ⊎ (nat_lt (rank d.what) (rank c.what) ≡ false)
        → (c.moment < d.moment) ⊎ ((c.moment ≡ d.moment) × (rank c.what ≤ rank d.what))
    go l (inl e) = inl (apart c.moment d.moment l (eqb-false d.moment c.moment e))
    go l (inr e) = by (d.moment == c.moment) refl
      where
        by : (t : Bool) → (d.moment == c.moment) ≡ t → (c.moment < d.moment) ⊎ ((c.moment ≡ d.moment) × (rank c.what ≤ rank d.what))
        by true q = inr (sym (eqb-true d.moment c.moment q), ltb-false (rank d.what) (rank c.what) e)
        by false q = inl (apart c.moment d.moment l (eqb-false d.moment c.moment q))

not-earlier : (d c : Due) → (Earlier d c → ⊥) → precedes d c ≡ false
not-earlier d c n = false_from_ne_true (precedes d c) (λ e. n (to d c e))

never : (d : Due) → Earlier d d → ⊥
never d (inl l) = omega (arith, l)
never d (inr e) = omega (arith, e.1)

chain : (x y z : Due) → Earlier x y → Earlier y z → Earlier x z
chain x y z (inl l) (inl m) = inl (omega (arith, l, m))
chain x y z (inl l) (inr m) = inl (omega (arith, l, m.0))
chain x y z (inr l) (inl m) = inl (omega (arith, l.0, m))
chain x y z (inr l) (inr m) = inr (omega (arith, l.0, m.0), omega (arith, l.1, m.1))

past : (x y z : Due) → Earlier x z → (z.moment < y.moment) ⊎ ((z.moment ≡ y.moment) × (rank z.what ≤ rank y.what)) → Earlier x y
past x y z (inl l) (inl m) = inl (omega (arith, l, m))
past x y z (inl l) (inr m) = inl (omega (arith, l, m.0))
past x y z (inr l) (inl m) = inl (omega (arith, l.0, m))
past x y z (inr l) (inr m) = inr (omega (arith, l.0, m.0), omega (arith, l.1, m.1))

pub precedes-order : IsOrder precedes
precedes-order = record {
  itself = λ d. not-earlier d d (never d);
  through = λ x y z e f. from x z (chain x y z (to x y e) (to y z f));
  over = λ x y z e f. from x y (past x y z (to x z e) (not-before y z f));
}

other : (d c : Due) → (rank d.what ≡ rank c.what → ⊥) → d ≡ c → ⊥
other d c n e = n (ap (λ (x : Due). rank x.what) e)

-- a start stands among the starts alone
pub record IsStart (b : Bus) (now t : ℕ) : Type 0 where
  pub free : b.running ≡ None
  pub member : Member
  pub among : Among b.members member
  pub wants : wants b member ≡ true
  pub moment : max now (ready_moment b member) ≡ t

in-notices : (b : Bus) (t : ℕ) → Among (notices b) (at Start t) → ⊥
in-notices b t a =
    let r = map-among (at Notices) (flat_map notice_moments b.members) (at Start t) a in
    let e : 2 ≡ 3 = ap (λ (x : Due). rank x.what) r.2 in omega (arith, e)

in-returns : (b : Bus) (t : ℕ) → Among (returns b) (at Start t) → ⊥
in-returns b t a =
    let r = filter_map-among (λ (m : Member). option_map (λ seen. at (Return m.node) (return_moment b seen)) m.occurrences) b.members (at Start t) a in
    go (r.0).node (r.0).occurrences r.2
  where
    go : (node : ℕ) (o : Option ℕ) → option_map (λ seen. at (Return node) (return_moment b seen)) o ≡ Some (at Start t) → ⊥
    go node None e = cc
    go node (Some n) e = let s : at (Return node) (return_moment b n) ≡ at Start t = cc in
        let k : 1 ≡ 3 = ap (λ (x : Due). rank x.what) s in omega (arith, k)

start-among : (b : Bus) (now t : ℕ) (o : Option Running) → b.running ≡ o → Among (dues b now o) (at Start t) → IsStart b now t
start-among b now t (Some r) e (inl s) = absurd (let k : 0 ≡ 3 = ap (λ (x : Due). rank x.what) s in omega (arith, k))
start-among b now t (Some r) e (inr a) = absurd (in-notices b t a)
start-among b now t None e a = first (append-among (returns b ++ notices b) (starts b now) (at Start t) a)
  where
    first : Among (returns b ++ notices b) (at Start t) ⊎ Among (starts b now) (at Start t) → IsStart b now t
    first (inl k) = absurd (second (append-among (returns b) (notices b) (at Start t) k))
      where
        second : Among (returns b) (at Start t) ⊎ Among (notices b) (at Start t) → ⊥
        second (inl k) = in-returns b t k
        second (inr k) = in-notices b t k
    first (inr k) =
        let r = map-among (λ m. at Start (max now (ready_moment b m))) (filter (wants b) b.members) (at Start t) k in
        let f = filter-among (wants b) b.members r.0 r.1 in
        record { free = e; member = r.0; among = f.0; wants = f.1; moment = ap (λ (x : Due). x.moment) r.2 }

pub start-due : (b : Bus) (now t : ℕ) → next_due b now ≡ Some (at Start t) → IsStart b now t
unfolding next_due
start-due b now t h = start-among b now t b.running refl (foremost-among precedes (dues b now b.running) (at Start t) h)

-- no return comes at or before a due start
pub start-first : (b : Bus) (now t : ℕ) → next_due b now ≡ Some (at Start t) → (m : Member) (n : ℕ) → Among b.members m → m.occurrences ≡ Some n
    → t < return_moment b n
unfolding next_due
start-first b now t h m n a e =
    let free : b.running ≡ None = (start-due b now t h).free in
    let it : Due = at (Return m.node) (return_moment b n) in
    let return' : Among (returns b) it = among-filter_map (λ (x : Member). option_map (λ seen. at (Return x.node) (return_moment b seen)) x.occurrences) b.members m it a
    (ap (option_map (λ seen. at (Return m.node) (return_moment b seen))) e) in
    let due : Among (dues b now None) it = among-append_left (returns b ++ notices b) (starts b now) it (among-append_left (returns b) (notices b) it return') in
    let due' : Among (dues b now b.running) it = subst (λ o. Among (dues b now o) it) (sym free) due in
    go (not-before it (at Start t) (foremost-unbeaten precedes precedes-order (dues b now b.running) (at Start t) it h due'))
  where
    go : (t < return_moment b n) ⊎ ((t ≡ return_moment b n) × (3 ≤ 1)) → t < return_moment b n
    go (inl l) = l
    go (inr l) = absurd (omega (arith, l.1))

pub start-idle : (b : Bus) (now t : ℕ) → next_due b now ≡ Some (at Start t) → b.idle ≤ t
start-idle b now t h =
    let i = start-due b now t h in
    let r : b.idle ≤ ready_moment b i.member = omega arith in
    omega (arith, r, i.moment)
