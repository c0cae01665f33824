-- Numbers with their signs.
use Rattle.std.proofs.Common.{◌≡◌, ℕ, suc, ◌+◌, ◌-◌, ◌<◌, sym, ap, ◌∙◌, subst, arith, inl, inr}
use Rattle.std.specs.Prelude.{◌^◌, ℤ, pos, negsuc}
use Rattle.std.specs.Int.Signed.{mag}
use Rattle.std.proofs.lemmas.Bool.{cases_lt}
use Rattle.code_specs.specs.Integers.{signed, unsigned}
use Rattle.wasm_num.proofs.Signs.{signed_low, signed_high, halves}
use Rattle.number_laws.specs.Quotients.{IsSigned}

-- how a number stands for one with a sign
pub data Reading (n i : ℕ) : Type 0 where
  Plain : i < 2 ^ (n - 1) → signed n i ≡ pos i → Reading n i
  Under : (u : ℕ) → u < 2 ^ (n - 1) → i + suc u ≡ 2 ^ n → signed n i ≡ negsuc u → Reading n i

pub reading : (n i : ℕ) → 0 < n → i < 2 ^ n → Reading n i
reading n i p lt =
    elim (cases_lt i (2 ^ (n - 1))) [
      | inl low ↦ Plain low (signed_low n i low)
      | inr high ↦
          let u = 2 ^ n - 1 - i in
          let sum : i + suc u ≡ 2 ^ n = omega (arith, lt) in
          let h = halves n p in
          Under u (omega (arith, high, h, lt)) sum (signed_high n i u high sum)
    ]

pub sized : (n : ℕ) (z : ℤ) → IsSigned n z → mag z < 2 ^ (n - 1)
sized n (pos a) h = h
sized n (negsuc a) h = h

pub from_size : (n : ℕ) (z : ℤ) → mag z < 2 ^ (n - 1) → IsSigned n z
from_size n (pos a) h = h
from_size n (negsuc a) h = h

pub reads_signed : (n i : ℕ) → 0 < n → i < 2 ^ n → IsSigned n (signed n i)
reads_signed n i p lt =
    elim (reading n i p lt) [
      | Plain low e ↦ subst (IsSigned n) (sym e) low
      | Under u low sum e ↦ subst (IsSigned n) (sym e) low
    ]

pub number_back : (n i : ℕ) → 0 < n → i < 2 ^ n → unsigned n (signed n i) ≡ i
number_back n i p lt =
    elim (reading n i p lt) [
      | Plain low e ↦ ap (unsigned n) e
      | Under u low sum e ↦ ap (unsigned n) e ∙ omega (arith, sum)
    ]

pub signed_back : (n : ℕ) (z : ℤ) → 0 < n → IsSigned n z → signed n (unsigned n z) ≡ z
signed_back n (pos a) p h = signed_low n a h
signed_back n (negsuc a) p h =
    let two = halves n p in
    signed_high n (2 ^ n - suc a) a (omega (arith, h, two)) (omega (arith, h, two))

-- what a signed number comes from fits
pub unsigned_fits : (n : ℕ) (z : ℤ) → 0 < n → IsSigned n z → unsigned n z < 2 ^ n
unsigned_fits n (pos a) p h = (let two = halves n p in omega (arith, h, two))
unsigned_fits n (negsuc a) p h = (let two = halves n p in omega (arith, h, two))
