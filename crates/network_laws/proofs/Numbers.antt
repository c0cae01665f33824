-- Lists of numbers: which are among them, and that each is there once.
use Rattle.std.proofs.Common.{◌≡◌, ℕ, suc, ◌≤◌, ◌==◌, ◌||◌, Bool, true, false, List, [], ◌∷◌, length, refl, sym, ap, subst, ◌∙◌, arith, inl, inr}
use Rattle.std.specs.Prelude.{map, ◌⊎◌}
use Rattle.std.proofs.lemmas.Bool.Decides.{nat_tests}
use Rattle.bus_specs.specs.Bus.{among}
use Rattle.world_specs.specs.World.{AreDistinct}
use Rattle.description_laws.specs.Fit.{IsAmong}

or_right : (a b : Bool) → b ≡ true → (a || b) ≡ true
or_right true b h = refl
or_right false b h = h

or_left : (a b : Bool) → a ≡ true → (a || b) ≡ true
or_left true b h = refl
or_left false b h = absurd (cc)

pub itself : (n k : ℕ) → n ≡ k → (n == k) ≡ true
itself n k h = grind (arith, nat_tests)

pub is_among : (ns : List ℕ) (k : ℕ) → IsAmong k ns → among ns k ≡ true
is_among [] k h = absurd h
is_among (n ∷ ns) k (inl e) = or_left (n == k) (among ns k) (itself n k e)
is_among (n ∷ ns) k (inr m) = or_right (n == k) (among ns k) (is_among ns k m)

same_number : (n k : ℕ) → (n == k) ≡ true → n ≡ k
same_number n k h = grind (arith, nat_tests)

pub among_is : (ns : List ℕ) (k : ℕ) → among ns k ≡ true → IsAmong k ns
among_is [] k h = absurd (cc)
among_is (n ∷ ns) k h = by_test (n == k) refl h (λ j. among_is ns k j)
  where
    by_test : (b : Bool) → (n == k) ≡ b → (b || among ns k) ≡ true → (among ns k ≡ true → IsAmong k ns) → IsAmong k (n ∷ ns)
    by_test true e j more = inl (same_number n k e)
    by_test false e j more = inr (more j)

pub not_among : (ns : List ℕ) (k : ℕ) → among ns k ≡ false → IsAmong k ns → ⊥
not_among ns k h m = let e = is_among ns k m in absurd (cc (h, e))

-- a list without one of its items
taken : (x : ℕ) (ys : List ℕ) → IsAmong x ys → (rest : List ℕ) × (length ys ≡ suc (length rest)) × ((k : ℕ) → IsAmong k ys → (x ≡ k) ⊎ IsAmong k rest)
taken x [] h = absurd h
taken x (y ∷ ys) (inl e) = (ys, refl, first)
  where
    first : (k : ℕ) → IsAmong k (y ∷ ys) → (x ≡ k) ⊎ IsAmong k ys
    first k (inl i) = inl (sym e ∙ i)
    first k (inr m) = inr m
taken x (y ∷ ys) (inr m) = let r = taken x ys m in (y ∷ r.0, ap suc r.1, later r.0 r.2)
  where
    later : (rest : List ℕ) → ((k : ℕ) → IsAmong k ys → (x ≡ k) ⊎ IsAmong k rest) → (k : ℕ) → IsAmong k (y ∷ ys) → (x ≡ k) ⊎ IsAmong k (y ∷ rest)
    later rest h k (inl i) = inr (inl i)
    later rest h k (inr j) = or_else (h k j)
      where
        or_else : (x ≡ k) ⊎ IsAmong k rest → (x ≡ k) ⊎ IsAmong k (y ∷ rest)
        or_else (inl e) = inl e
        or_else (inr a) = inr (inr a)

-- Different numbers that are all among others, as many as these: they are all of these.
pub all_there : (xs ys : List ℕ) → AreDistinct xs → ((k : ℕ) → IsAmong k xs → IsAmong k ys) → length ys ≤ length xs → (k : ℕ) → IsAmong k ys → IsAmong k xs
all_there [] [] distinct within many k m = m
all_there [] (y ∷ ys) distinct within many k m = absurd (omega (arith, many))
all_there (x ∷ xs) ys distinct within many k m =
    let r = taken x ys (within x (inl refl)) in
    by_place r.0 (all_there xs r.0 distinct.1 (λ j there. others r.0 r.2 j there) (omega (arith, many, r.1))) (r.2 k m)
  where
    others : (rest : List ℕ) → ((k : ℕ) → IsAmong k ys → (x ≡ k) ⊎ IsAmong k rest) → (j : ℕ) → IsAmong j xs → IsAmong j rest
    others rest h j there = by_cases (h j (within j (inr there)))
      where
        by_cases : (x ≡ j) ⊎ IsAmong j rest → IsAmong j rest
        by_cases (inl e) = absurd (not_among xs x distinct.0 (subst (λ n. IsAmong n xs) (sym e) there))
        by_cases (inr a) = a

    by_place : (rest : List ℕ) → ((j : ℕ) → IsAmong j rest → IsAmong j xs) → (x ≡ k) ⊎ IsAmong k rest → IsAmong k (x ∷ xs)
    by_place rest h (inl e) = inl e
    by_place rest h (inr a) = inr (h k a)

pub number_among : {A : Type 0} (number : A → ℕ) (xs : List A) (x : A) → IsAmong x xs → IsAmong (number x) (map number xs)
number_among number [] x h = absurd h
number_among number (y ∷ ys) x (inl e) = inl (ap number e)
number_among number (y ∷ ys) x (inr m) = inr (number_among number ys x m)

-- where no two have the same number, two of one number are the same
pub one_of : {A : Type 0} (number : A → ℕ) (xs : List A) (x y : A) → AreDistinct (map number xs) → IsAmong x xs → IsAmong y xs → number x ≡ number y → x ≡ y
one_of number [] x y distinct there other h = absurd there
one_of number (z ∷ zs) x y distinct (inl e) (inl f) h = sym e ∙ f
one_of number (z ∷ zs) x y distinct (inl e) (inr m) h = absurd (not_among (map number zs) (number z) distinct.0 (subst (λ n. IsAmong n (map number zs)) (sym h ∙ ap number (sym e)) (number_among number zs y m)))
one_of number (z ∷ zs) x y distinct (inr m) (inl f) h = absurd (not_among (map number zs) (number z) distinct.0 (subst (λ n. IsAmong n (map number zs)) (h ∙ ap number (sym f)) (number_among number zs x m)))
one_of number (z ∷ zs) x y distinct (inr m) (inr n) h = one_of number zs x y distinct.1 m n h
