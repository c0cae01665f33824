-- The order of events is an order, and what it says of the next event.
use Rattle.std.proofs.Common.{◌≡◌, ◌<◌, ◌≤◌, ◌⊎◌, if◌then◌else◌, nat_le, ℕ, ◌==◌, ◌&&◌, ◌||◌, Bool, true, false, List, [], ◌∷◌, nat_lt, Option, Some, None, All, Contains, is_some, arith, sym, refl, ap, ◌∙◌, subst, inl, inr, eq-eqb}
use Rattle.std.proofs.lemmas.Bool.{lt-ltb, le-ltb, le-leb, leb-false, ne_eqb, cases_lt, both_ways, false_from_ne_true, true_from_ne_false, leb-true}
use Rattle.run_specs.specs.Order.{IsForemost, foremost}
use Rattle.bus_sound.proofs.Among.{Among, among-Contains}
use Rattle.bus_sound.proofs.Lists.{All-each, each-All}
use Rattle.bus_sound.proofs.Orders.{IsOrder, foremost-is, foremost-some, foremost-among, foremost-unbeaten}
use Rattle.world_specs.specs.World.{World}
use Rattle.world_specs.specs.Next.{What, Finish, Return, Sessions, Start, Event, at, rank, comes_before, precedes, enabled, up_to, next_event}

abbrev pub key : Event → List ℕ
key e = e.moment ∷ rank e.what

abbrev first : ℕ → ℕ → Bool → Bool
first x y p = nat_lt x y || ((x == y) && p)

lower : (x y : ℕ) (p : Bool) → x < y → first x y p ≡ true
lower x y p h = rw (lt-ltb x y h) refl

same : (x y : ℕ) (p : Bool) → x ≡ y → first x y p ≡ p
same x y p h = rw (le-ltb x y (omega (arith, h)), eq-eqb x y h) refl

higher : (x y : ℕ) (p : Bool) → y < x → first x y p ≡ false
higher x y p h = rw (le-ltb x y (omega arith), ne_eqb x y (λ e. omega (arith, e, h))) refl

data Compared (x y : ℕ) (p : Bool) : Type 0 where
  Lower : x < y → first x y p ≡ true → Compared x y p
  Same : x ≡ y → first x y p ≡ p → Compared x y p
  Higher : y < x → first x y p ≡ false → Compared x y p

compared : (x y : ℕ) (p : Bool) → Compared x y p
compared x y p = go (cases_lt x y)
  where
    on : (x < y → ⊥) → (y < x) ⊎ (x ≤ y) → Compared x y p
    on n (inl l) = Higher l (higher x y p l)
    on n (inr l) = let e : x ≡ y = omega (arith, n) in Same e (same x y p e)

    go : (x < y) ⊎ (y ≤ x) → Compared x y p
    go (inl l) = Lower l (lower x y p l)
    go (inr l) = on (λ k. omega (arith, l, k)) (cases_lt y x)

one_way_step : (x y : ℕ) (p q : Bool) → (p ≡ true → q ≡ false) → first x y p ≡ true → first y x q ≡ false
one_way_step x y p q on h = go (compared x y p)
  where
    go : Compared x y p → first y x q ≡ false
    go (Lower l e) = higher y x q l
    go (Same l e) = same y x q (sym l) ∙ on (sym e ∙ h)
    go (Higher l e) = absurd (both_ways (first x y p) e h)

over_step : (x y z : ℕ) (p q r : Bool) → (p ≡ false → q ≡ false → r ≡ false) → first x y p ≡ false → first y z q ≡ false → first x z r ≡ false
over_step x y z p q r on h k = go (compared x y p) (compared y z q)
  where
    go : Compared x y p → Compared y z q → first x z r ≡ false
    go (Lower l e) c = absurd (both_ways (first x y p) h e)
    go c (Lower l e) = absurd (both_ways (first y z q) k e)
    go (Same l e) (Same m f) = same x z r (l ∙ m) ∙ on (sym e ∙ h) (sym f ∙ k)
    go (Same l e) (Higher m f) = higher x z r (omega (arith, l, m))
    go (Higher l e) (Same m f) = higher x z r (omega (arith, l, m))
    go (Higher l e) (Higher m f) = higher x z r (omega (arith, l, m))

one_way : (xs ys : List ℕ) → comes_before xs ys ≡ true → comes_before ys xs ≡ false
one_way [] [] h = refl
one_way [] (y ∷ ys) h = refl
one_way (x ∷ xs) [] h = absurd cc
one_way (x ∷ xs) (y ∷ ys) h = one_way_step x y (comes_before xs ys) (comes_before ys xs) (one_way xs ys) h

over : (xs ys zs : List ℕ) → comes_before xs ys ≡ false → comes_before ys zs ≡ false → comes_before xs zs ≡ false
over xs ys [] h k = refl
over xs [] (z ∷ zs) h k = absurd cc
over [] (y ∷ ys) (z ∷ zs) h k = absurd cc
over (x ∷ xs) (y ∷ ys) (z ∷ zs) h k =
    over_step x y z (comes_before xs ys) (comes_before ys zs) (comes_before xs zs) (over xs ys zs) h k

pub precedes-order : IsOrder precedes
precedes-order = record {
  itself = λ e. false_from_ne_true (precedes e e) (λ h. both_ways (precedes e e) (one_way (key e) (key e) h) h);
  through = λ x y z e f. true_from_ne_false (precedes x z) (λ n. both_ways (precedes x y)
      (over (key x) (key z) (key y) n (one_way (key y) (key z) f)) e);
  over = λ x y z e f. true_from_ne_false (precedes x y) (λ n. both_ways (precedes x z) (over (key x) (key y) (key z) n f) e);
}

-- of two different keys one comes before the other
total : (xs ys : List ℕ) → comes_before xs ys ≡ false → comes_before ys xs ≡ false → xs ≡ ys
total [] [] h k = refl
total [] (y ∷ ys) h k = absurd cc
total (x ∷ xs) [] h k = absurd cc
total (x ∷ xs) (y ∷ ys) h k = go (compared x y (comes_before xs ys)) (compared y x (comes_before ys xs)) (total xs ys)
  where
    go : Compared x y (comes_before xs ys) → Compared y x (comes_before ys xs) → (comes_before xs ys ≡ false → comes_before ys xs ≡ false → xs ≡ ys) → x ∷ xs ≡ y ∷ ys
    go (Lower l e) c on = absurd (both_ways (first x y (comes_before xs ys)) h e)
    go c (Lower l e) on = absurd (both_ways (first y x (comes_before ys xs)) k e)
    go (Higher l e) (Higher m f) on = absurd (omega arith)
    go (Higher l e) (Same m f) on = absurd (omega (arith, l, m))
    go (Same l e) (Higher m f) on = absurd (omega (arith, l, m))
    go (Same l e) (Same m f) on = let s = on (sym e ∙ h) (sym f ∙ k) in rw (l, s) refl

front : List ℕ → ℕ
front [] = 0
front (x ∷ xs) = x

rest : List ℕ → List ℕ
rest [] = []
rest (x ∷ xs) = xs

-- an event that another doesn't come before comes before that one, where they are of different kinds
pub comes-first : (e f : Event) → (rank f.what ≡ rank e.what → ⊥) → precedes f e ≡ false → precedes e f ≡ true
unfolding rest
comes-first e f n h = true_from_ne_false (precedes e f) (λ k. n (ap rest (total (key f) (key e) h k)))

pub later : (e f : Event) → e.moment < f.moment → precedes e f ≡ true
later e f l = lower e.moment f.moment (comes_before (rank e.what) (rank f.what)) l

-- no earlier, and of a later kind
pub behind : (e f : Event) → e.moment ≤ f.moment → comes_before (rank e.what) (rank f.what) ≡ true → precedes e f ≡ true
behind e f l h = go (cases_lt e.moment f.moment)
  where
    go : (e.moment < f.moment) ⊎ (f.moment ≤ e.moment) → precedes e f ≡ true
    go (inl m) = later e f m
    go (inr m) = same e.moment f.moment (comes_before (rank e.what) (rank f.what)) (omega (arith, l, m)) ∙ h

pub no-earlier : (e f : Event) → precedes f e ≡ false → e.moment ≤ f.moment
no-earlier e f h = go (compared f.moment e.moment (comes_before (rank f.what) (rank e.what)))
  where
    go : Compared f.moment e.moment (comes_before (rank f.what) (rank e.what)) → e.moment ≤ f.moment
    go (Lower l d) = absurd (both_ways (precedes f e) h d)
    go (Same l d) = omega (arith, l)
    go (Higher l d) = omega arith

-- what comes before is no later
pub no-later : (e f : Event) → precedes e f ≡ true → e.moment ≤ f.moment
no-later e f h = go (compared e.moment f.moment (comes_before (rank e.what) (rank f.what)))
  where
    go : Compared e.moment f.moment (comes_before (rank e.what) (rank f.what)) → e.moment ≤ f.moment
    go (Lower l d) = omega arith
    go (Same l d) = omega (arith, l)
    go (Higher l d) = absurd (both_ways (precedes e f) d h)

-- one that isn't before another, and would be at its moment, is later
pub strictly-later : (e f : Event) → precedes f e ≡ false → comes_before (rank f.what) (rank e.what) ≡ true → e.moment < f.moment
strictly-later e f h r = go (compared f.moment e.moment (comes_before (rank f.what) (rank e.what)))
  where
    go : Compared f.moment e.moment (comes_before (rank f.what) (rank e.what)) → e.moment < f.moment
    go (Lower l d) = absurd (both_ways (precedes f e) h d)
    go (Same l d) = absurd (both_ways (precedes f e) h (d ∙ r))
    go (Higher l d) = l

-- of two of one rank, the one that comes before is earlier
nothing-between : (ns : List ℕ) → comes_before ns ns ≡ false
nothing-between ns = false_from_ne_true (comes_before ns ns) (λ h. both_ways (comes_before ns ns) (one_way ns ns h) h)

pub strictly-before : (e f : Event) → precedes e f ≡ true → rank f.what ≡ rank e.what → e.moment < f.moment
strictly-before e f h r = go (compared e.moment f.moment (comes_before (rank e.what) (rank f.what)))
  where
    go : Compared e.moment f.moment (comes_before (rank e.what) (rank f.what)) → e.moment < f.moment
    go (Lower l d) = l
    go (Same l d) = absurd (both_ways (comes_before (rank e.what) (rank f.what)) (subst (λ ns. comes_before (rank e.what) ns ≡ false) (sym r) (nothing-between (rank e.what))) (sym d ∙ h))
    go (Higher l d) = absurd (both_ways (precedes e f) d h)

-- ---- the next event

below : (stop : ℕ) (o : Option Event) (e : Event) → up_to stop o ≡ Some e → (o ≡ Some e) × (e.moment ≤ stop)
below stop None e h = absurd cc
below stop (Some d) e h = go (nat_le d.moment stop) refl h
  where
    go : (b : Bool) → nat_le d.moment stop ≡ b → (if b then Some d else None) ≡ Some e → (Some d ≡ Some e) × (e.moment ≤ stop)
    go true t k = let s : d ≡ e = cc in let l : d.moment ≤ stop = leb-true d.moment stop t in (k, omega (arith, l, ap (λ (x : Event). x.moment) s))
    go false t k = absurd cc

pub next-within : {S : Type 0} (stop : ℕ) (w : World S) (e : Event) → next_event stop w ≡ Some e → e.moment ≤ stop
unfolding next_event
next-within stop w e h = (below stop (foremost precedes (enabled w)) e h).1

pub next-is : {S : Type 0} (stop : ℕ) (w : World S) (e : Event) → next_event stop w ≡ Some e → IsForemost precedes (enabled w) e
unfolding next_event
next-is stop w e h = foremost-is precedes precedes-order (enabled w) e (below stop (foremost precedes (enabled w)) e h).0

pub next-among : {S : Type 0} (stop : ℕ) (w : World S) (e : Event) → next_event stop w ≡ Some e → Among (enabled w) e
unfolding next_event
next-among stop w e h = foremost-among precedes (enabled w) e (below stop (foremost precedes (enabled w)) e h).0

pub next-unbeaten : {S : Type 0} (stop : ℕ) (w : World S) (e f : Event) → next_event stop w ≡ Some e → Among (enabled w) f → precedes f e ≡ false
unfolding next_event
next-unbeaten stop w e f h a = foremost-unbeaten precedes precedes-order (enabled w) e f (below stop (foremost precedes (enabled w)) e h).0 a

-- ---- the only one

rank-same : (k l : What) → rank k ≡ rank l → k ≡ l
unfolding rest front
rank-same (Finish b) (Finish c) e = ap Finish (ap (λ ns. front (rest ns)) e)
rank-same (Return b m) (Return c n) e = rw (ap (λ ns. front (rest ns)) e, ap (λ ns. front (rest (rest ns))) e) refl
rank-same Sessions Sessions e = refl
rank-same (Start b) (Start c) e = ap Start (ap (λ ns. front (rest ns)) e)
rank-same (Finish b) (Return c n) e = absurd (let k : 0 ≡ 1 = ap front e in omega (arith, k))
rank-same (Finish b) Sessions e = absurd (let k : 0 ≡ 2 = ap front e in omega (arith, k))
rank-same (Finish b) (Start c) e = absurd (let k : 0 ≡ 3 = ap front e in omega (arith, k))
rank-same (Return b m) (Finish c) e = absurd (let k : 1 ≡ 0 = ap front e in omega (arith, k))
rank-same (Return b m) Sessions e = absurd (let k : 1 ≡ 2 = ap front e in omega (arith, k))
rank-same (Return b m) (Start c) e = absurd (let k : 1 ≡ 3 = ap front e in omega (arith, k))
rank-same Sessions (Finish c) e = absurd (let k : 2 ≡ 0 = ap front e in omega (arith, k))
rank-same Sessions (Return c n) e = absurd (let k : 2 ≡ 1 = ap front e in omega (arith, k))
rank-same Sessions (Start c) e = absurd (let k : 2 ≡ 3 = ap front e in omega (arith, k))
rank-same (Start b) (Finish c) e = absurd (let k : 3 ≡ 0 = ap front e in omega (arith, k))
rank-same (Start b) (Return c n) e = absurd (let k : 3 ≡ 1 = ap front e in omega (arith, k))
rank-same (Start b) Sessions e = absurd (let k : 3 ≡ 2 = ap front e in omega (arith, k))

-- two events of which neither comes before the other are one
pub one-event : (e f : Event) → precedes e f ≡ false → precedes f e ≡ false → e ≡ f
unfolding rest front
one-event e f h k =
    let s = total (key e) (key f) h k in
    let m : e.moment ≡ f.moment = ap front s in
    let w : e.what ≡ f.what = rank-same e.what f.what (ap rest s) in
    ap (λ t. at e.what t) m ∙ ap (λ v. at v f.moment) w

pub next-only : {S : Type 0} (stop : ℕ) (w : World S) (e : Event) → Contains (enabled w) e → All (λ f. precedes f e ≡ false) (enabled w) → e.moment ≤ stop → next_event stop w ≡ Some e
unfolding next_event
next-only stop w e c h l = go (foremost precedes (enabled w)) refl
  where
    a : Among (enabled w) e
    a = among-Contains (enabled w) e c

    go : (o : Option Event) → foremost precedes (enabled w) ≡ o → up_to stop o ≡ Some e
    go None q = absurd (both_ways false refl (sym (ap is_some q) ∙ foremost-some precedes (enabled w) e a))
    go (Some f) q =
        let same : f ≡ e = one-event f e (each-All (λ f. precedes f e ≡ false) (enabled w) f h (foremost-among precedes (enabled w) f q)) (foremost-unbeaten precedes precedes-order (enabled w) f e q a) in
        subst (λ x. (if nat_le x.moment stop then Some x else None) ≡ Some e) (sym same) (rw (le-leb e.moment stop l) refl)

pub next-none : {S : Type 0} (stop : ℕ) (w : World S) → next_event stop w ≡ None → All (λ e. stop < e.moment) (enabled w)
unfolding next_event
next-none stop w h = All-each (λ e. stop < e.moment) (enabled w) (λ e a. go (foremost precedes (enabled w)) refl h e a)
  where
    go : (o : Option Event) → foremost precedes (enabled w) ≡ o → up_to stop o ≡ None → (e : Event) → Among (enabled w) e → stop < e.moment
    go None q k e a = absurd (both_ways false refl (sym (ap is_some q) ∙ foremost-some precedes (enabled w) e a))
    go (Some f) q k e a = by (nat_le f.moment stop) refl k
      where
        by : (b : Bool) → nat_le f.moment stop ≡ b → (if b then Some f else None) ≡ None → stop < e.moment
        by true t k = absurd (both_ways false refl (sym (ap is_some k)))
        by false t k = let l = leb-false f.moment stop t in
            let m = no-earlier f e (foremost-unbeaten precedes precedes-order (enabled w) f e q a) in omega (arith, l, m)
