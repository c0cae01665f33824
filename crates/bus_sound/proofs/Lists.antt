-- Lists: all of them, some of them, rising numbers, and what a filter keeps.
use Rattle.std.proofs.Common.{◌≡◌, ℕ, ◌+◌, ◌≤◌, ◌⊎◌, Bool, true, false, cond, List, [], ◌∷◌, ◌++◌, map, filter, find, get_or, All, Some, arith, sym, refl, ap, ◌∙◌, subst, inl, inr}
use Rattle.std.specs.Prelude.{count_by, flat_map}
use Rattle.std.specs.List.{list_any}
use Rattle.std.proofs.lemmas.Bool.{both_ways, false_from_ne_true, or_cases, or_left, or_right}
use Rattle.std.proofs.lemmas.List.Elements.{Contains-get_or, All-contains}
use Rattle.std.proofs.lemmas.List.Sums.{sum_by-cons}
use Rattle.bus_specs.specs.Sound.{Rise}
use Rattle.bus_sound.proofs.Among.{Among, among-Contains, Contains-among, among-append_left}

pub All-each : {X : Type 0} (P : X → Type 0) (xs : List X) → ((x : X) → Among xs x → P x) → All P xs
All-each P xs h k d l = h (get_or xs k d) (among-Contains xs (get_or xs k d) (Contains-get_or xs k d l))

pub each-All : {X : Type 0} (P : X → Type 0) (xs : List X) (x : X) → All P xs → Among xs x → P x
each-All P xs x h a = All-contains P xs x h (Contains-among xs x a)

pub among-map : {X Y : Type 0} (f : X → Y) (xs : List X) (x : X) → Among xs x → Among (map f xs) (f x)
among-map f [] x a = absurd a
among-map f (y ∷ xs) x (inl e) = inl (ap f e)
among-map f (y ∷ xs) x (inr a) = inr (among-map f xs x a)

pub map-among : {X Y : Type 0} (f : X → Y) (xs : List X) (y : Y) → Among (map f xs) y → (x : X) × Among xs x × (f x ≡ y)
map-among f [] y a = absurd a
map-among f (x ∷ xs) y (inl e) = (x, inl refl, e)
map-among f (x ∷ xs) y (inr a) = let r = map-among f xs y a in (r.0, inr r.1, r.2)

pub append-among : {X : Type 0} (xs ys : List X) (y : X) → Among (xs ++ ys) y → Among xs y ⊎ Among ys y
append-among [] ys y a = inr a
append-among (x ∷ xs) ys y (inl e) = inl (inl e)
append-among {X} (x ∷ xs) ys y (inr a) = go (append-among xs ys y a)
  where
    go : Among xs y ⊎ Among ys y → Among (x ∷ xs) y ⊎ Among ys y
    go (inl b) = inl (inr b)
    go (inr b) = inr b

pub among-append_right : {X : Type 0} (xs ys : List X) (y : X) → Among ys y → Among (xs ++ ys) y
among-append_right [] ys y a = a
among-append_right (x ∷ xs) ys y a = inr (among-append_right xs ys y a)

pub any_from : {X : Type 0} (p : X → Bool) (xs : List X) (x : X) → Among xs x → p x ≡ true → list_any p xs ≡ true
any_from p [] x a e = absurd a
any_from p (y ∷ xs) x (inl s) e = or_left (p y) (list_any p xs) (ap p s ∙ e)
any_from p (y ∷ xs) x (inr a) e = or_right (p y) (list_any p xs) (any_from p xs x a e)

pub any_to : {X : Type 0} (p : X → Bool) (xs : List X) → list_any p xs ≡ true → (x : X) × Among xs x × (p x ≡ true)
any_to p [] e = absurd (both_ways false refl e)
any_to {X} p (y ∷ xs) e = go (or_cases (p y) (list_any p xs) e) (λ k. any_to p xs k)
  where
    go : (p y ≡ true) ⊎ (list_any p xs ≡ true) → (list_any p xs ≡ true → (x : X) × Among xs x × (p x ≡ true))
        → (x : X) × Among (y ∷ xs) x × (p x ≡ true)
    go (inl h) on = (y, inl refl, h)
    go (inr h) on = let r = on h in (r.0, inr r.1, r.2)

pub none_at : {X : Type 0} (p : X → Bool) (xs : List X) (x : X) → list_any p xs ≡ false → Among xs x → p x ≡ false
none_at p xs x e a = false_from_ne_true (p x) (λ h. both_ways (list_any p xs) e (any_from p xs x a h))

pub none_from : {X : Type 0} (p : X → Bool) (xs : List X) → ((x : X) → Among xs x → p x ≡ false) → list_any p xs ≡ false
none_from p xs h = false_from_ne_true (list_any p xs) (λ e. let r = any_to p xs e in both_ways (p r.0) (h r.0 r.1) r.2)

pub find_to : {X : Type 0} (p : X → Bool) (xs : List X) (x : X) → find p xs ≡ Some x → Among xs x × (p x ≡ true)
find_to p [] x e = absurd cc
find_to {X} p (y ∷ xs) x e = go (p y) refl e (λ k. find_to p xs x k)
  where
    go : (b : Bool) → p y ≡ b → cond b (Some y) (find p xs) ≡ Some x → (find p xs ≡ Some x → Among xs x × (p x ≡ true))
        → Among (y ∷ xs) x × (p x ≡ true)
    go true t h on = let s : y ≡ x = cc in (inl s, ap p (sym s) ∙ t)
    go false t h on = let r = on h in (inr r.0, r.1)

pub count-filter : {X : Type 0} (p q : X → Bool) (xs : List X) → count_by p (filter q xs) ≤ count_by p xs
count-filter p q [] = omega arith
count-filter p q (x ∷ xs) = go (q x) (count-filter p q xs)
  where
    go : (b : Bool) → count_by p (filter q xs) ≤ count_by p xs → count_by p (cond b (x ∷ filter q xs) (filter q xs)) ≤ count_by p (x ∷ xs)
    go true h = omega (arith, h, sum_by-cons (λ y. cond (p y) 1 0) x (filter q xs), sum_by-cons (λ y. cond (p y) 1 0) x xs)
    go false h = omega (arith, h, sum_by-cons (λ y. cond (p y) 1 0) x xs)

-- rising numbers
pub rise-lower : (from from' : ℕ) (ns : List ℕ) (below : ℕ) → from ≤ from' → Rise from' ns below → Rise from ns below
rise-lower from from' [] below l h = omega arith
rise-lower from from' (n ∷ ns) below l h = (omega (arith, h.0), h.1)

pub rise-filter : {X : Type 0} (key : X → ℕ) (p : X → Bool) (from : ℕ) (xs : List X) (below : ℕ)
    → Rise from (map key xs) below → Rise from (map key (filter p xs)) below
rise-filter key p from [] below h = h
rise-filter key p from (x ∷ xs) below h = go (p x) (rise-filter key p (key x + 1) xs below h.1)
  where
    go : (b : Bool) → Rise (key x + 1) (map key (filter p xs)) below → Rise from (map key (cond b (x ∷ filter p xs) (filter p xs))) below
    go true r = (h.0, r)
    go false r = rise-lower from (key x + 1) (map key (filter p xs)) below (omega (arith, h.0)) r

pub rise-filter_numbers : (p : ℕ → Bool) (from : ℕ) (ns : List ℕ) (below : ℕ) → Rise from ns below → Rise from (filter p ns) below
rise-filter_numbers p from [] below h = h
rise-filter_numbers p from (x ∷ xs) below h = go (p x) (rise-filter_numbers p (x + 1) xs below h.1)
  where
    go : (b : Bool) → Rise (x + 1) (filter p xs) below → Rise from (cond b (x ∷ filter p xs) (filter p xs)) below
    go true r = (h.0, r)
    go false r = rise-lower from (x + 1) (filter p xs) below (omega (arith, h.0)) r

pub rise-push : {X : Type 0} (key : X → ℕ) (from : ℕ) (xs : List X) (x : X) (below : ℕ) → Rise from (map key xs) below → key x ≡ below
    → Rise from (map key (xs ++ x ∷ [])) (below + 1)
rise-push key from [] x below h e = (omega (arith, h, e), omega (arith, e))
rise-push key from (y ∷ xs) x below h e = (h.0, rise-push key (key y + 1) xs x below h.1 e)

rise-least : {X : Type 0} (key : X → ℕ) (from : ℕ) (xs : List X) (x : X) (below : ℕ) → Rise from (map key xs) below → Among xs x → from ≤ key x
rise-least key from [] x below h a = absurd a
rise-least key from (y ∷ xs) x below h (inl e) = omega (arith, h.0, ap {B = ℕ} key e)
rise-least key from (y ∷ xs) x below h (inr a) = omega (arith, h.0, rise-least key (key y + 1) xs x below h.1 a)

-- where keys rise, one key has one element
pub unique : {X : Type 0} (key : X → ℕ) (from : ℕ) (xs : List X) (x y : X) (below : ℕ) → Rise from (map key xs) below
    → Among xs x → Among xs y → key x ≡ key y → x ≡ y
unique key from [] x y below h a c e = absurd a
unique key from (z ∷ xs) x y below h (inl s) (inl t) e = sym s ∙ t
unique key from (z ∷ xs) x y below h (inl s) (inr c) e =
    absurd (omega (arith, rise-least key (key z + 1) xs y below h.1 c, ap {B = ℕ} key s, e))
unique key from (z ∷ xs) x y below h (inr a) (inl t) e =
    absurd (omega (arith, rise-least key (key z + 1) xs x below h.1 a, ap {B = ℕ} key t, e))
unique key from (z ∷ xs) x y below h (inr a) (inr c) e = unique key (key z + 1) xs x y below h.1 a c e

pub flat_map-among : {X Y : Type 0} (f : X → List Y) (xs : List X) (y : Y) → Among (flat_map f xs) y → (x : X) × Among xs x × Among (f x) y
flat_map-among f [] y a = absurd a
flat_map-among {X} {Y} f (x ∷ xs) y a = go (append-among (f x) (flat_map f xs) y a) (λ k. flat_map-among f xs y k)
  where
    go : Among (f x) y ⊎ Among (flat_map f xs) y → (Among (flat_map f xs) y → (z : X) × Among xs z × Among (f z) y)
        → (z : X) × Among (x ∷ xs) z × Among (f z) y
    go (inl k) on = (x, inl refl, k)
    go (inr k) on = let r = on k in (r.0, inr r.1, r.2)

pub among-flat_map : {X Y : Type 0} (f : X → List Y) (xs : List X) (x : X) (y : Y) → Among xs x → Among (f x) y → Among (flat_map f xs) y
among-flat_map f [] x y a k = absurd a
among-flat_map f (z ∷ xs) x y (inl s) k = among-append_left (f z) (flat_map f xs) y (subst (λ u. Among (f u) y) (sym s) k)
among-flat_map f (z ∷ xs) x y (inr a) k = among-append_right (f z) (flat_map f xs) y (among-flat_map f xs x y a k)
