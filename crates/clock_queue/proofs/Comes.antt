-- The test by rank and number, and what it says.
use Rattle.std.proofs.Common.{◌≡◌, ◌⊎◌, ◌<◌, ◌≤◌, ℕ, Bool, true, false, ◌||◌, ◌&&◌, cond, ltb, eqb, eqb-true, eq-eqb, le-ltb, ◌≢◌, refl}
use Rattle.std.proofs.Common.{sym, ◌∙◌, inl, inr, arith, nat_cmp, Ordering, Less, Equal, Greater}
use Rattle.std.proofs.lemmas.Bool.Decides.{nat_tests}
use Rattle.std.proofs.lemmas.Bool.{cases_lt, false_from_ne_true}

-- x of rank r is before y of rank s
abbrev pub comes : ℕ → ℕ → ℕ → ℕ → Bool
comes r s x y = ltb r s || (eqb r s && ltb x y)

pub comes_true : (r s x y : ℕ) → comes r s x y ≡ true → (r ≤ s) × (s ≤ r → x < y)
comes_true r s x y e = (low, later)
  where
    low : r ≤ s
    low = grind (arith, nat_tests)

    later : s ≤ r → x < y
    later h = grind (arith, nat_tests)

pub comes_by : (r s x y : ℕ) → r ≤ s → (s ≤ r → x < y) → comes r s x y ≡ true
comes_by r s x y low later = go (cases_lt r s)
  where
    go : (r < s) ⊎ (s ≤ r) → comes r s x y ≡ true
    go (inl lt) = grind (arith, nat_tests)
    go (inr ge) = let k = later ge in grind (arith, nat_tests)

pub comes_false : (r s x y : ℕ) → comes r s x y ≡ false → (s ≤ r) × (r ≤ s → y ≤ x)
comes_false r s x y e = (low, later)
  where
    low : s ≤ r
    low = grind (arith, nat_tests)

    later : r ≤ s → y ≤ x
    later h = grind (arith, nat_tests)

pub comes_over : (r s x y : ℕ) → comes r s x y ≡ false → (x ≡ y → ⊥) → comes s r y x ≡ true
comes_over r s x y e differ =
    let h = comes_false r s x y e in
    comes_by s r y x h.0 (λ k. let l = h.1 k in omega (arith, differ))

pub comes_through : (r s t x y z : ℕ) → comes r s x y ≡ true → comes s t y z ≡ true → comes r t x z ≡ true
comes_through r s t x y z e f =
    let h = comes_true r s x y e in
    let k = comes_true s t y z f in
    comes_by r t x z (omega (arith, h.0, k.0))
    (λ l. let a = h.1 (omega (arith, k.0, l)) in let b = k.1 (omega (arith, h.0, l)) in omega arith)

pub comes_itself : (r x : ℕ) → comes r r x x ≡ false
comes_itself r x = grind (arith, nat_tests)

pub comes_not : (r s x y : ℕ) → s ≤ r → (r ≤ s → y ≤ x) → comes r s x y ≡ false
comes_not r s x y low later = false_from_ne_true (comes r s x y)
    (λ e. let h = comes_true r s x y e in let a = later h.0 in let b = h.1 low in absurd (omega arith))

pub comes_one_way : (r s x y : ℕ) → comes r s x y ≡ true → comes s r y x ≡ false
comes_one_way r s x y e = let h = comes_true r s x y e in comes_not s r y x h.0 (λ k. let b = h.1 k in omega arith)

pub comes_chain : (r s t x y z : ℕ) → comes r s x y ≡ false → comes s t y z ≡ false → comes r t x z ≡ false
comes_chain r s t x y z e f =
    let h = comes_false r s x y e in
    let k = comes_false s t y z f in
    comes_not r t x z (omega (arith, h.0, k.0))
    (λ l. let a = h.1 (omega (arith, k.0, l)) in let b = k.1 (omega (arith, h.0, l)) in omega arith)

-- what an order of two numbers says
pub cmp_same : (a b : ℕ) (o : Ordering) → o ≡ nat_cmp a b → o ≡ Equal → a ≡ b
cmp_same a b o e f = go (ltb a b) (eqb a b) refl (sym e ∙ f)
  where
    go : (s t : Bool) → eqb a b ≡ t → cond s Less (cond t Equal Greater) ≡ Equal → a ≡ b
    go true t q k = absurd cc
    go false true q k = eqb-true a b q
    go false false q k = absurd cc

pub cmp_other : (a b : ℕ) (o : Ordering) → o ≡ nat_cmp a b → (o ≡ Less) ⊎ (o ≡ Greater) → a ≢ b
cmp_other a b o e f = λ s. go f (e ∙ rw (s, le-ltb b b (omega arith), eq-eqb b b refl) refl)
  where
    go : (o ≡ Less) ⊎ (o ≡ Greater) → o ≡ Equal → ⊥
    go (inl k) q = absurd cc
    go (inr k) q = absurd cc
