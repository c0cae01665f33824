-- Integer operations (WebAssembly Core 1.0, sections 4.3.2 and 4.3.4), under the standard's names. An iN is a number
-- below 2^N; N comes first, where an operation depends on it.
use Rattle.std.specs.Prelude.{ℕ, zero, suc, ◌+◌, ◌-◌, ◌*◌, ◌/◌, ◌%◌, ◌^◌, ◌==◌, Bool, true, false, not, List, [], ◌∷◌, ◌++◌, Result, Ok, Err, ℤ, pos, negsuc, neg_ℤ, int_lt, int_le, int_div, int_rem, nat_lt, nat_le, bit_and, bit_or, bit_xor, count_by, length, replicate, take, drop, if◌then◌else◌}
use Rattle.std.specs.List.{prefix_len, suffix_len}
use Rattle.code_specs.specs.declared.trap.NumTrap.{NumTrap}
use Rattle.code_specs.specs.declared.trap.NumTrap.TheVariants.{ZeroDivide, Overflow}

-- the signed interpretation of an iN: numbers from 2^(N-1) on stand for those that are 2^N less
abbrev pub signed : ℕ → ℕ → ℤ
signed n i = if nat_lt i (2 ^ (n - 1)) then pos i else neg_ℤ (pos (2 ^ n - i))

-- the iN with this signed interpretation
abbrev pub unsigned : ℕ → ℤ → ℕ
unsigned n (pos i) = i
unsigned n (negsuc i) = 2 ^ n - suc i

-- the N bits of an iN, the most significant first
unfoldable pub ibits : ℕ → ℕ → List ℕ
ibits zero i = []
ibits (suc n) i = i / 2 ^ n % 2 ∷ ibits n i

-- the number with these bits
abbrev pub number_of : List ℕ → ℕ
number_of [] = 0
number_of (d ∷ ds) = d * 2 ^ length ds + number_of ds

-- 1 where it holds, else 0
abbrev pub truth : Bool → ℕ
truth true = 1
truth false = 0

-- ---- arithmetic

abbrev pub iadd : (n i j : ℕ) → ℕ
iadd n i j = (i + j) % 2 ^ n

abbrev pub isub : (n i j : ℕ) → ℕ
isub n i j = (i + 2 ^ n - j) % 2 ^ n

abbrev pub imul : (n i j : ℕ) → ℕ
imul n i j = i * j % 2 ^ n

abbrev pub idiv_u : (i j : ℕ) → Result ℕ NumTrap
idiv_u i zero = Err ZeroDivide
idiv_u i (suc j) = Ok (i / suc j)

-- an iN with this signed interpretation, where there is one; a quotient can only be too large
abbrev pub quotient : ℕ → ℤ → Result ℕ NumTrap
quotient n q = if int_lt q (pos (2 ^ (n - 1))) then Ok (unsigned n q) else Err Overflow

-- the quotient of the signed interpretations, truncated toward zero
abbrev pub idiv_s : (n i j : ℕ) → Result ℕ NumTrap
idiv_s n i zero = Err ZeroDivide
idiv_s n i (suc j) = quotient n (int_div (signed n i) (signed n (suc j)))

abbrev pub irem_u : (i j : ℕ) → Result ℕ NumTrap
irem_u i zero = Err ZeroDivide
irem_u i (suc j) = Ok (i % suc j)

-- the remainder of that division, which has the sign of the dividend
abbrev pub irem_s : (n i j : ℕ) → Result ℕ NumTrap
irem_s n i zero = Err ZeroDivide
irem_s n i (suc j) = Ok (unsigned n (int_rem (signed n i) (signed n (suc j))))

-- ---- bits; k is j modulo N

abbrev pub iand : (i j : ℕ) → ℕ
iand i j = bit_and i j

abbrev pub ior : (i j : ℕ) → ℕ
ior i j = bit_or i j

abbrev pub ixor : (i j : ℕ) → ℕ
ixor i j = bit_xor i j

-- the first k bits fall off, and k zeros follow
unfoldable pub ishl : (n i j : ℕ) → ℕ
ishl n i j = let k = j % n in number_of (drop k (ibits n i) ++ replicate k 0)

-- the last k bits fall off, and k zeros stand before
unfoldable pub ishr_u : (n i j : ℕ) → ℕ
ishr_u n i j = let k = j % n in number_of (replicate k 0 ++ take (n - k) (ibits n i))

-- the last k bits fall off, and the most significant bit stands k times before
unfoldable pub ishr_s : (n i j : ℕ) → ℕ
ishr_s n i j = let k = j % n in number_of (replicate k (i / 2 ^ (n - 1) % 2) ++ take (n - k) (ibits n i))

-- the first k bits go behind the others
unfoldable pub irotl : (n i j : ℕ) → ℕ
irotl n i j = let k = j % n in number_of (drop k (ibits n i) ++ take k (ibits n i))

-- the last k bits go before the others
unfoldable pub irotr : (n i j : ℕ) → ℕ
irotr n i j = let k = j % n in number_of (drop (n - k) (ibits n i) ++ take (n - k) (ibits n i))

abbrev pub is_zero : ℕ → Bool
is_zero d = d == 0

-- how many zeros stand before the first 1: all N in 0
unfoldable pub iclz : (n i : ℕ) → ℕ
iclz n i = prefix_len is_zero (ibits n i)

-- how many zeros stand behind the last 1: all N in 0
unfoldable pub ictz : (n i : ℕ) → ℕ
ictz n i = suffix_len is_zero (ibits n i)

-- how many bits are 1
unfoldable pub ipopcnt : (n i : ℕ) → ℕ
ipopcnt n i = count_by (λ d. not (is_zero d)) (ibits n i)

-- ---- tests and comparisons

abbrev pub ieqz : ℕ → ℕ
ieqz i = truth (i == 0)

abbrev pub ieq : (i j : ℕ) → ℕ
ieq i j = truth (i == j)

abbrev pub ine : (i j : ℕ) → ℕ
ine i j = truth (not (i == j))

abbrev pub ilt_u : (i j : ℕ) → ℕ
ilt_u i j = truth (nat_lt i j)

abbrev pub ilt_s : (n i j : ℕ) → ℕ
ilt_s n i j = truth (int_lt (signed n i) (signed n j))

abbrev pub igt_u : (i j : ℕ) → ℕ
igt_u i j = truth (nat_lt j i)

abbrev pub igt_s : (n i j : ℕ) → ℕ
igt_s n i j = truth (int_lt (signed n j) (signed n i))

abbrev pub ile_u : (i j : ℕ) → ℕ
ile_u i j = truth (nat_le i j)

abbrev pub ile_s : (n i j : ℕ) → ℕ
ile_s n i j = truth (int_le (signed n i) (signed n j))

abbrev pub ige_u : (i j : ℕ) → ℕ
ige_u i j = truth (nat_le j i)

abbrev pub ige_s : (n i j : ℕ) → ℕ
ige_s n i j = truth (int_le (signed n j) (signed n i))

-- ---- conversions

-- an iM as an iN, where N is M or more
abbrev pub extend_u : ℕ → ℕ
extend_u i = i

-- the iN with the signed interpretation of an iM
abbrev pub extend_s : (m n i : ℕ) → ℕ
extend_s m n i = unsigned n (signed m i)

-- an iM as an iN, where N is less
abbrev pub wrap : (n i : ℕ) → ℕ
wrap n i = i % 2 ^ n
