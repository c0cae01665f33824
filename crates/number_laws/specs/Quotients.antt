-- Signed numbers of so many bits, and what a quotient and a remainder are.
use Rattle.std.specs.Prelude.{◌≡◌, ℕ, ◌+◌, ◌-◌, ◌*◌, ◌<◌, ◌^◌, ℤ, pos, negsuc, ◌+ℤ◌, ◌*ℤ◌, Ok, IsTrue, int_le, unsigned_abs}
use Rattle.code_specs.specs.Integers.{signed, idiv_u, irem_u, idiv_s, irem_s}

-- from -2^(N-1) to 2^(N-1) - 1; negsuc a is -(a + 1)
abbrev pub IsSigned : ℕ → ℤ → Type 0
IsSigned n (pos a) = a < 2 ^ (n - 1)
IsSigned n (negsuc a) = a < 2 ^ (n - 1)

-- not of the other sign than this number
abbrev pub HasSignOf : ℤ → ℤ → Type 0
HasSignOf (pos a) z = IsTrue (int_le (pos 0) z)
HasSignOf (negsuc a) z = IsTrue (int_le z (pos 0))

-- the dividend is the quotient times the divisor and the remainder, which is below the divisor
pub record IsDivided (i j : ℕ) : Type 0 where
  pub quotient : ℕ
  pub remainder : ℕ
  pub is_quotient : idiv_u i j ≡ Ok quotient
  pub is_remainder : irem_u i j ≡ Ok remainder
  pub whole : quotient * j + remainder ≡ i
  pub below : remainder < j

-- the same of the signed interpretations; the remainder is nearer to zero than the divisor, and has the dividend's sign
pub record IsDividedSigned (n i j : ℕ) : Type 0 where
  pub quotient : ℕ
  pub remainder : ℕ
  pub is_quotient : idiv_s n i j ≡ Ok quotient
  pub is_remainder : irem_s n i j ≡ Ok remainder
  pub whole : signed n quotient *ℤ signed n j +ℤ signed n remainder ≡ signed n i
  pub below : unsigned_abs (signed n remainder) < unsigned_abs (signed n j)
  pub sign : HasSignOf (signed n i) (signed n remainder)
