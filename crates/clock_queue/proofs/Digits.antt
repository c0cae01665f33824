-- How many binary digits a number has: one more than its half.
use Rattle.std.proofs.Common.{◌≡◌, ◌⊎◌, ◌+◌, ◌*◌, ◌/◌, ◌<◌, ◌≤◌, ℕ, zero, suc, refl, sym, ap, ◌∙◌, inl, inr, arith, add-mul, one-mul}
use Rattle.std.proofs.Common.{mul-add, mul-one, mul_assoc, mul_comm}
use Rattle.std.proofs.lemmas.Bool.{cases_eq}
use Rattle.std.proofs.lemmas.Int.Digits.{length-digits_of_step}
use Rattle.clock_queue.specs.Cost.{binary_digits}

pub digits_half : (n : ℕ) → 0 < n → binary_digits n ≡ binary_digits (n / 2) + 1
unfolding binary_digits
digits_half n h = length-digits_of_step 2 n (omega arith) h

none : binary_digits 0 ≡ 0
unfolding binary_digits
none = refl

by_fuel : (fuel m n : ℕ) → n ≤ fuel → m ≤ n → binary_digits m ≤ binary_digits n
by_fuel zero m n f h = let e : m ≡ n = omega arith in rw e (omega arith)
by_fuel (suc fuel) m n f h = go (cases_eq m 0) (λ u. by_fuel fuel (m / 2) (n / 2) (omega (arith, u)) (omega arith))
  where
    go : (m ≡ 0) ⊎ (m ≡ 0 → ⊥) → ((m ≡ 0 → ⊥) → binary_digits (m / 2) ≤ binary_digits (n / 2)) → binary_digits m ≤ binary_digits n
    go (inl e) on = rw e (omega (arith, none))
    go (inr u) on =
        omega (arith, digits_half m (omega (arith, u)), digits_half n (omega (arith, u)), on u)

pub digits_grow : (m n : ℕ) → m ≤ n → binary_digits m ≤ binary_digits n
digits_grow m n h = by_fuel n m n (omega arith) h

pub digits_some : (n : ℕ) → 0 < n → 1 ≤ binary_digits n
digits_some n h = omega (arith, digits_half n h)

-- one step down a heap
pub digits_below : (p k : ℕ) → 2 * p + 1 ≤ k → k ≤ 2 * p + 2 → binary_digits (k + 1) ≡ binary_digits (p + 1) + 1
digits_below p k low high =
    let e : (k + 1) / 2 ≡ p + 1 = omega arith in
    rw e at (digits_half (k + 1) (omega arith))

-- what one more entry may cost, and what all may
pub cost_more : (k k' b b' start so_far tested cleared : ℕ) → k' ≡ k + 1 → so_far ≤ start + k * (2 * b + 1) → tested ≤ so_far + 1
    → cleared ≤ tested + 2 * b' → b' ≤ b
    → cleared ≤ start + k' * (2 * b + 1)
cost_more k k' b b' start so_far tested cleared e h i j m =
    let more = add-mul k 1 (2 * b + 1) in
    let one = one-mul (2 * b + 1) in
    rw e (omega (arith, more, one))

pub cost_all : (k b : ℕ) → k * (2 * b + 1) ≡ 2 * k * b + k
cost_all k b =
    let parts = mul-add k (2 * b) 1 in
    let one = mul-one k in
    let double : k * (2 * b) ≡ 2 * k * b = sym (mul_assoc k 2 b) ∙ ap (λ n. n * b) (mul_comm k 2) in
    omega (arith, parts, one, double)
