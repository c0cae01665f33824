-- Lists, place by place and element by element.
use Rattle.std.proofs.Common.{◌≡◌, ℕ, zero, suc, ◌==◌, true, false, List, [], ◌∷◌, map, slice_get, option_map, All, sym, refl, ap, ◌∙◌, subst, inl, inr, eq-eqb}
use Rattle.std.specs.List.{AllByRecursion}
use Rattle.std.proofs.lemmas.Bool.{or_left, or_right, both_ways}
use Rattle.bus_specs.specs.Bus.{among}
use Rattle.world_specs.specs.World.{AreDistinct}
use Rattle.bus_sound.proofs.Among.{Among}
use Rattle.bus_sound.proofs.Lists.{All-each, each-All, map-among}

pub get-map : {X Y : Type 0} (f : X → Y) (xs : List X) (i : ℕ) → slice_get (map f xs) i ≡ option_map f (slice_get xs i)
get-map f [] i = refl
get-map f (x ∷ xs) zero = refl
get-map f (x ∷ xs) (suc i) = get-map f xs i

pub map-same : {X Y : Type 0} (f g : X → Y) (xs : List X) → ((x : X) → Among xs x → f x ≡ g x) → map f xs ≡ map g xs
map-same f g [] h = refl
map-same f g (x ∷ xs) h = rw (h x (inl refl), map-same f g xs (λ y a. h y (inr a))) refl

pub map-map : {X Y Z : Type 0} (f : Y → Z) (g : X → Y) (xs : List X) → map f (map g xs) ≡ map (λ x. f (g x)) xs
map-map f g [] = refl
map-map f g (x ∷ xs) = rw (map-map f g xs) refl

pub map-id : {X : Type 0} (xs : List X) → map (λ x. x) xs ≡ xs
map-id [] = refl
map-id (x ∷ xs) = rw (map-id xs) refl

-- what holds of all, of all of a changed list
pub all-map : {X Y : Type 0} (P : X → Type 0) (Q : Y → Type 0) (f : X → Y) (xs : List X) → ((x : X) → Among xs x → P x → Q (f x)) → All P xs → All Q (map f xs)
all-map P Q f xs h k = All-each Q (map f xs) (λ y a. let r = map-among f xs y a in subst Q r.2 (h r.0 r.1 (each-All P xs r.0 k r.1)))

pub all-more : {X : Type 0} (P Q : X → Type 0) (xs : List X) → ((x : X) → Among xs x → P x → Q x) → All P xs → All Q xs
all-more P Q xs h k = All-each Q xs (λ x a. h x a (each-All P xs x k a))

pub all-same : {X : Type 0} (P : X → Type 0) (xs ys : List X) → xs ≡ ys → All P xs → All P ys
all-same P xs ys e h = subst (All P) e h

pub by-recursion : {X : Type 0} (P : X → Type 0) (xs : List X) → ((x : X) → Among xs x → P x) → AllByRecursion P xs
by-recursion P [] h = tt
by-recursion P (x ∷ xs) h = (h x (inl refl), by-recursion P xs (λ y a. h y (inr a)))

pub of-recursion : {X : Type 0} (P : X → Type 0) (xs : List X) (x : X) → AllByRecursion P xs → Among xs x → P x
of-recursion P [] x h a = absurd a
of-recursion P (y ∷ xs) x h (inl e) = subst P e h.0
of-recursion P (y ∷ xs) x h (inr a) = of-recursion P xs x h.1 a

-- a number among others, and numbers that differ
pub among-in : (ns : List ℕ) (k : ℕ) → Among ns k → among ns k ≡ true
among-in [] k a = absurd a
among-in (n ∷ ns) k (inl e) = or_left (n == k) (among ns k) (eq-eqb n k e)
among-in (n ∷ ns) k (inr a) = or_right (n == k) (among ns k) (among-in ns k a)

pub not-among : (ns : List ℕ) (k : ℕ) → among ns k ≡ false → Among ns k → ⊥
not-among ns k e a = both_ways (among ns k) e (among-in ns k a)

-- of a list whose numbers differ, two elements of one number are one
pub one-of-number : {X : Type 0} (number : X → ℕ) (xs : List X) (x y : X) → AreDistinct (map number xs) → Among xs x → Among xs y → number x ≡ number y → x ≡ y
one-of-number number [] x y d a b e = absurd a
one-of-number number (z ∷ xs) x y d (inl p) (inl q) e = sym p ∙ q
one-of-number {X} number (z ∷ xs) x y d (inl p) (inr b) e = absurd (not-among (map number xs) (number z) d.0 (subst (Among (map number xs)) (sym e ∙ ap number (sym p)) (there xs y b)))
  where
    there : (ys : List X) (v : X) → Among ys v → Among (map number ys) (number v)
    there [] v a = absurd a
    there (u ∷ ys) v (inl s) = inl (ap number s)
    there (u ∷ ys) v (inr a) = inr (there ys v a)
one-of-number {X} number (z ∷ xs) x y d (inr a) (inl q) e = absurd (not-among (map number xs) (number z) d.0 (subst (Among (map number xs)) (e ∙ ap number (sym q)) (there xs x a)))
  where
    there : (ys : List X) (v : X) → Among ys v → Among (map number ys) (number v)
    there [] v a = absurd a
    there (u ∷ ys) v (inl s) = inl (ap number s)
    there (u ∷ ys) v (inr a) = inr (there ys v a)
one-of-number number (z ∷ xs) x y d (inr a) (inr b) e = one-of-number number xs x y d.1 a b e
