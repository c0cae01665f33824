-- Lists: filters, maps and places.
use Rattle.std.proofs.Common.{◌≡◌, ℕ, ◌+◌, ◌<◌, ◌≤◌, Bool, true, false, cond, List, [], ◌∷◌, ◌++◌, map, filter, filter_map, Option, Some, None, arith, sym, refl, ap, ◌∙◌, inl, inr}
use Rattle.std.specs.Prelude.{◌&&◌, option_map, count_by}
use Rattle.std.specs.List.{cons_option, list_any}
use Rattle.std.proofs.lemmas.List.Sums.{sum_by-cons}
use Rattle.bus_specs.specs.Sound.{Rise}
use Rattle.bus_sound.proofs.Among.{Among}

pub filter-append : {X : Type 0} (p : X → Bool) (xs ys : List X) → filter p (xs ++ ys) ≡ filter p xs ++ filter p ys
filter-append p [] ys = refl
filter-append {X} p (x ∷ xs) ys = go (p x) (filter-append p xs ys)
  where
    go : (t : Bool) → filter p (xs ++ ys) ≡ filter p xs ++ filter p ys
        → cond t (x ∷ filter p (xs ++ ys)) (filter p (xs ++ ys)) ≡ cond t (x ∷ filter p xs) (filter p xs) ++ filter p ys
    go true e = ap (λ l. x ∷ l) e
    go false e = e

pub filter-same : {X : Type 0} (p q : X → Bool) (xs : List X) → ((x : X) → Among xs x → p x ≡ q x) → filter p xs ≡ filter q xs
filter-same p q [] h = refl
filter-same {X} p q (x ∷ xs) h = go (p x) (q x) (h x (inl refl)) (filter-same p q xs (λ y a. h y (inr a)))
  where
    go : (t u : Bool) → t ≡ u → filter p xs ≡ filter q xs → cond t (x ∷ filter p xs) (filter p xs) ≡ cond u (x ∷ filter q xs) (filter q xs)
    go true true e k = ap (λ l. x ∷ l) k
    go true false e k = absurd cc
    go false true e k = absurd cc
    go false false e k = k

pub filter-all : {X : Type 0} (p : X → Bool) (xs : List X) → ((x : X) → Among xs x → p x ≡ true) → filter p xs ≡ xs
filter-all p [] h = refl
filter-all p (x ∷ xs) h = rw (h x (inl refl)) (ap (λ l. x ∷ l) (filter-all p xs (λ y a. h y (inr a))))

pub filter-both : {X : Type 0} (p q : X → Bool) (xs : List X) → filter (λ x. p x && q x) xs ≡ filter q (filter p xs)
filter-both p q [] = refl
filter-both {X} p q (x ∷ xs) = go (p x) (q x) refl (filter-both p q xs)
  where
    go : (t u : Bool) → q x ≡ u → filter (λ x. p x && q x) xs ≡ filter q (filter p xs)
        → cond (t && u) (x ∷ filter (λ x. p x && q x) xs) (filter (λ x. p x && q x) xs) ≡ filter q (cond t (x ∷ filter p xs) (filter p xs))
    go true true e k = rw e (ap (λ l. x ∷ l) k)
    go true false e k = rw e k
    go false u e k = k

pub filter-map : {X Y : Type 0} (p : Y → Bool) (f : X → Y) (xs : List X) → filter p (map f xs) ≡ map f (filter (λ x. p (f x)) xs)
filter-map p f [] = refl
filter-map {X} {Y} p f (x ∷ xs) = go (p (f x)) (filter-map p f xs)
  where
    go : (t : Bool) → filter p (map f xs) ≡ map f (filter (λ x. p (f x)) xs)
        → cond t (f x ∷ filter p (map f xs)) (filter p (map f xs)) ≡ map f (cond t (x ∷ filter (λ x. p (f x)) xs) (filter (λ x. p (f x)) xs))
    go true e = ap (λ l. f x ∷ l) e
    go false e = e

pub map-among-same : {X Y : Type 0} (f g : X → Y) (xs : List X) → ((x : X) → Among xs x → f x ≡ g x) → map f xs ≡ map g xs
map-among-same f g [] h = refl
map-among-same f g (x ∷ xs) h = rw (h x (inl refl)) (ap (λ l. g x ∷ l) (map-among-same f g xs (λ y a. h y (inr a))))

pub map-map : {X Y Z : Type 0} (f : Y → Z) (g : X → Y) (xs : List X) → map f (map g xs) ≡ map (λ x. f (g x)) xs
map-map f g [] = refl
map-map f g (x ∷ xs) = ap (λ l. f (g x) ∷ l) (map-map f g xs)

pub map-append : {X Y : Type 0} (f : X → Y) (xs ys : List X) → map f (xs ++ ys) ≡ map f xs ++ map f ys
map-append f [] ys = refl
map-append f (x ∷ xs) ys = ap (λ l. f x ∷ l) (map-append f xs ys)

pub count-map : {X Y : Type 0} (p : Y → Bool) (f : X → Y) (xs : List X) → count_by p (map f xs) ≡ count_by (λ x. p (f x)) xs
count-map p f [] = refl
count-map p f (x ∷ xs) = omega (arith, count-map p f xs, sum_by-cons (λ y. cond (p y) 1 0) (f x) (map f xs), sum_by-cons (λ x. cond (p (f x)) 1 0) x xs)

pub any-map : {X Y : Type 0} (p : Y → Bool) (f : X → Y) (xs : List X) → list_any p (map f xs) ≡ list_any (λ x. p (f x)) xs
any-map p f [] = refl
any-map p f (x ∷ xs) = rw (any-map p f xs) refl

pub any-same : {X : Type 0} (p q : X → Bool) (xs : List X) → ((x : X) → Among xs x → p x ≡ q x) → list_any p xs ≡ list_any q xs
any-same p q [] h = refl
any-same p q (x ∷ xs) h = rw (h x (inl refl), any-same p q xs (λ y a. h y (inr a))) refl

-- where what a filter keeps has a place, the list has it too
pub record Place {X : Type 0} (p : X → Bool) (xs earlier : List X) (y : X) : Type 0 where
  pub before : List X
  pub behind : List X
  pub place : xs ≡ before ++ y ∷ behind
  pub kept : filter p before ≡ earlier

pub filter-place : {X : Type 0} (p : X → Bool) (xs earlier later : List X) (y : X) → filter p xs ≡ earlier ++ y ∷ later → Place p xs earlier y
filter-place p [] [] later y e = absurd cc
filter-place p [] (z ∷ earlier) later y e = absurd cc
filter-place {X} p (x ∷ xs) earlier later y e = go (p x) refl earlier e (λ l k. filter-place p xs l later y k)
  where
    more : (t : Bool) (l m : List X) → p x ≡ t → Place p xs l y → cond t (x ∷ l) l ≡ m → Place p (x ∷ xs) m y
    more t l m q s k = record {
      before = x ∷ s.before;
      behind = s.behind;
      place = ap (λ ys. x ∷ ys) s.place;
      kept = (rw (q, s.kept) k);
    }

    go : (t : Bool) → p x ≡ t → (l : List X) → cond t (x ∷ filter p xs) (filter p xs) ≡ l ++ y ∷ later
        → ((l : List X) → filter p xs ≡ l ++ y ∷ later → Place p xs l y) → Place p (x ∷ xs) l y
    go true q [] k on = let s : x ≡ y = cc in record { before = []; behind = xs; place = ap (λ z. z ∷ xs) s; kept = refl }
    go true q (z ∷ l) k on = let s : x ≡ z = cc in more true l (z ∷ l) q (on l cc) (ap (λ w. w ∷ l) s)
    go false q l k on = more false l l q (on l k) refl

-- what a map of a filtered list gives, by another road
pub filter_map-by : {X Y Z W : Type 0} (view : X → Y) (p : X → Bool) (g : X → Option Z) (q : Y → Bool) (h : Y → Option W) (out : Z → W) (xs : List X)
    → ((x : X) → Among xs x → cond (q (view x)) (h (view x)) None ≡ option_map out (cond (p x) (g x) None))
    → filter_map h (filter q (map view xs)) ≡ map out (filter_map g (filter p xs))
filter_map-by view p g q h out [] k = refl
filter_map-by {X} {Y} {Z} {W} view p g q h out (x ∷ xs) k =
    left (q (view x)) ∙ ap (λ o. cons_option o (filter_map h (filter q (map view xs)))) (k x (inl refl))
    ∙ ap (λ l. cons_option (option_map out (cond (p x) (g x) None)) l) (filter_map-by view p g q h out xs (λ y a. k y (inr a)))
    ∙ push (cond (p x) (g x) None) ∙ ap (λ l. map out l) (sym (right (p x)))
  where
    left : (t : Bool) → filter_map h (cond t (view x ∷ filter q (map view xs)) (filter q (map view xs))) ≡ cons_option (cond t (h (view x)) None) (filter_map h (filter q (map view xs)))
    left true = refl
    left false = refl

    right : (t : Bool) → filter_map g (cond t (x ∷ filter p xs) (filter p xs)) ≡ cons_option (cond t (g x) None) (filter_map g (filter p xs))
    right true = refl
    right false = refl

    push : (o : Option Z) → cons_option (option_map out o) (map out (filter_map g (filter p xs))) ≡ map out (cons_option o (filter_map g (filter p xs)))
    push None = refl
    push (Some z) = refl

-- rising keys differ
pub rise-after : {X : Type 0} (key : X → ℕ) (from : ℕ) (xs : List X) (x : X) (below : ℕ) → Rise from (map key xs) below → Among xs x → from ≤ key x
rise-after key from [] x below h a = absurd a
rise-after key from (y ∷ xs) x below h (inl e) = omega (arith, h.0, ap {B = ℕ} key e)
rise-after key from (y ∷ xs) x below h (inr a) = omega (arith, h.0, rise-after key (key y + 1) xs x below h.1 a)

pub rise-before : {X : Type 0} (key : X → ℕ) (from : ℕ) (xs ys : List X) (x y : X) (below : ℕ) → Rise from (map key (xs ++ y ∷ ys)) below → Among xs x → key x < key y
rise-before key from [] ys x y below h a = absurd a
rise-before {X} key from (z ∷ xs) ys x y below h (inl e) = omega (arith, ap {B = ℕ} key e, rise-after key (key z + 1) (xs ++ y ∷ ys) y below h.1 (at-end xs))
  where
    at-end : (ls : List X) → Among (ls ++ y ∷ ys) y
    at-end [] = inl refl
    at-end (l ∷ ls) = inr (at-end ls)
rise-before key from (z ∷ xs) ys x y below h (inr a) = rise-before key (key z + 1) xs ys x y below h.1 a

pub rise-behind : {X : Type 0} (key : X → ℕ) (from : ℕ) (xs ys : List X) (x y : X) (below : ℕ) → Rise from (map key (xs ++ y ∷ ys)) below → Among ys x → key y < key x
rise-behind key from [] ys x y below h a = omega (arith, rise-after key (key y + 1) ys x below h.1 a)
rise-behind key from (z ∷ xs) ys x y below h a = rise-behind key (key z + 1) xs ys x y below h.1 a
