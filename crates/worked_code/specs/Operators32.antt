-- Each numeric instruction on i32, at operands that tell it from the others. The expected values were computed by
-- another implementation of the standard's text.
use Rattle.std.specs.Prelude.{◌≡◌, ℕ, List, [], ◌∷◌, Result, Ok, Err, map, refl}
use Rattle.code_specs.specs.declared.trap.NumTrap.{NumTrap}
use Rattle.code_specs.specs.declared.trap.NumTrap.TheVariants.{ZeroDivide, Overflow}
use Rattle.code_specs.specs.Integers.{ibits, iclz, ictz, ipopcnt, ishl, ishr_u, ishr_s, irotl, irotr}
use Rattle.code_specs.specs.Numerics.{unary, binary}

-- 0, 1, -1, the least and the greatest number with sign, and 0xF0
abbrev on_each : ℕ → List ℕ
on_each op = map (unary op) (0 ∷ 1 ∷ 0xFFFFFFFF ∷ 0x80000000 ∷ 0x7FFFFFFF ∷ 240 ∷ [])

-- a number and itself; 1 and 0; -7 and 2; the least number and -1; the greatest and the least; and a count that is over the width by 4
abbrev on_pairs : ℕ → List (Result ℕ NumTrap)
on_pairs op = binary op 0x12345678 0x12345678
    ∷ binary op 1 0
    ∷ binary op 0xFFFFFFF9 2
    ∷ binary op 0x80000000 0xFFFFFFFF
    ∷ binary op 0x7FFFFFFF 0x80000000
    ∷ binary op 0x12345678 36 ∷ []

i32_eqz : on_each 0x45 ≡ 1 ∷ 0 ∷ 0 ∷ 0 ∷ 0 ∷ 0 ∷ []
unfolding unary
i32_eqz = refl

i32_eq : on_pairs 0x46 ≡ Ok 1 ∷ Ok 0 ∷ Ok 0 ∷ Ok 0 ∷ Ok 0 ∷ Ok 0 ∷ []
unfolding binary
i32_eq = refl

i32_ne : on_pairs 0x47 ≡ Ok 0 ∷ Ok 1 ∷ Ok 1 ∷ Ok 1 ∷ Ok 1 ∷ Ok 1 ∷ []
unfolding binary
i32_ne = refl

i32_lt_s : on_pairs 0x48 ≡ Ok 0 ∷ Ok 0 ∷ Ok 1 ∷ Ok 1 ∷ Ok 0 ∷ Ok 0 ∷ []
unfolding binary
i32_lt_s = refl

i32_lt_u : on_pairs 0x49 ≡ Ok 0 ∷ Ok 0 ∷ Ok 0 ∷ Ok 1 ∷ Ok 1 ∷ Ok 0 ∷ []
unfolding binary
i32_lt_u = refl

i32_gt_s : on_pairs 0x4A ≡ Ok 0 ∷ Ok 1 ∷ Ok 0 ∷ Ok 0 ∷ Ok 1 ∷ Ok 1 ∷ []
unfolding binary
i32_gt_s = refl

i32_gt_u : on_pairs 0x4B ≡ Ok 0 ∷ Ok 1 ∷ Ok 1 ∷ Ok 0 ∷ Ok 0 ∷ Ok 1 ∷ []
unfolding binary
i32_gt_u = refl

i32_le_s : on_pairs 0x4C ≡ Ok 1 ∷ Ok 0 ∷ Ok 1 ∷ Ok 1 ∷ Ok 0 ∷ Ok 0 ∷ []
unfolding binary
i32_le_s = refl

i32_le_u : on_pairs 0x4D ≡ Ok 1 ∷ Ok 0 ∷ Ok 0 ∷ Ok 1 ∷ Ok 1 ∷ Ok 0 ∷ []
unfolding binary
i32_le_u = refl

i32_ge_s : on_pairs 0x4E ≡ Ok 1 ∷ Ok 1 ∷ Ok 0 ∷ Ok 0 ∷ Ok 1 ∷ Ok 1 ∷ []
unfolding binary
i32_ge_s = refl

i32_ge_u : on_pairs 0x4F ≡ Ok 1 ∷ Ok 1 ∷ Ok 1 ∷ Ok 0 ∷ Ok 0 ∷ Ok 1 ∷ []
unfolding binary
i32_ge_u = refl

i32_clz : on_each 0x67 ≡ 32 ∷ 31 ∷ 0 ∷ 0 ∷ 1 ∷ 24 ∷ []
unfolding unary ibits iclz
i32_clz = refl

i32_ctz : on_each 0x68 ≡ 32 ∷ 0 ∷ 0 ∷ 31 ∷ 0 ∷ 4 ∷ []
unfolding unary ibits ictz
i32_ctz = refl

i32_popcnt : on_each 0x69 ≡ 0 ∷ 1 ∷ 32 ∷ 1 ∷ 31 ∷ 4 ∷ []
unfolding unary ibits ipopcnt
i32_popcnt = refl

i32_add : on_pairs 0x6A ≡ Ok 0x2468ACF0 ∷ Ok 1 ∷ Ok 0xFFFFFFFB ∷ Ok 0x7FFFFFFF ∷ Ok 0xFFFFFFFF ∷ Ok 0x1234569C ∷ []
unfolding binary
i32_add = refl

i32_sub : on_pairs 0x6B ≡ Ok 0 ∷ Ok 1 ∷ Ok 0xFFFFFFF7 ∷ Ok 0x80000001 ∷ Ok 0xFFFFFFFF ∷ Ok 0x12345654 ∷ []
unfolding binary
i32_sub = refl

i32_mul : on_pairs 0x6C ≡ Ok 0x1DF4D840 ∷ Ok 0 ∷ Ok 0xFFFFFFF2 ∷ Ok 0x80000000 ∷ Ok 0x80000000 ∷ Ok 0x8F5C28E0 ∷ []
unfolding binary
i32_mul = refl

i32_div_s : on_pairs 0x6D ≡ Ok 1 ∷ Err ZeroDivide ∷ Ok 0xFFFFFFFD ∷ Err Overflow ∷ Ok 0 ∷ Ok 0x81742E ∷ []
unfolding binary
i32_div_s = refl

i32_div_u : on_pairs 0x6E ≡ Ok 1 ∷ Err ZeroDivide ∷ Ok 0x7FFFFFFC ∷ Ok 0 ∷ Ok 0 ∷ Ok 0x81742E ∷ []
unfolding binary
i32_div_u = refl

i32_rem_s : on_pairs 0x6F ≡ Ok 0 ∷ Err ZeroDivide ∷ Ok 0xFFFFFFFF ∷ Ok 0 ∷ Ok 0x7FFFFFFF ∷ Ok 0 ∷ []
unfolding binary
i32_rem_s = refl

i32_rem_u : on_pairs 0x70 ≡ Ok 0 ∷ Err ZeroDivide ∷ Ok 1 ∷ Ok 0x80000000 ∷ Ok 0x7FFFFFFF ∷ Ok 0 ∷ []
unfolding binary
i32_rem_u = refl

i32_and : on_pairs 0x71 ≡ Ok 0x12345678 ∷ Ok 0 ∷ Ok 0 ∷ Ok 0x80000000 ∷ Ok 0 ∷ Ok 32 ∷ []
unfolding binary
i32_and = refl

i32_or : on_pairs 0x72 ≡ Ok 0x12345678 ∷ Ok 1 ∷ Ok 0xFFFFFFFB ∷ Ok 0xFFFFFFFF ∷ Ok 0xFFFFFFFF ∷ Ok 0x1234567C ∷ []
unfolding binary
i32_or = refl

i32_xor : on_pairs 0x73 ≡ Ok 0 ∷ Ok 1 ∷ Ok 0xFFFFFFFB ∷ Ok 0x7FFFFFFF ∷ Ok 0xFFFFFFFF ∷ Ok 0x1234565C ∷ []
unfolding binary
i32_xor = refl

i32_shl : on_pairs 0x74 ≡ Ok 0x78000000 ∷ Ok 1 ∷ Ok 0xFFFFFFE4 ∷ Ok 0 ∷ Ok 0x7FFFFFFF ∷ Ok 0x23456780 ∷ []
unfolding binary ibits ishl
i32_shl = refl

i32_shr_s : on_pairs 0x75 ≡ Ok 18 ∷ Ok 1 ∷ Ok 0xFFFFFFFE ∷ Ok 0xFFFFFFFF ∷ Ok 0x7FFFFFFF ∷ Ok 0x1234567 ∷ []
unfolding binary ibits ishr_s
i32_shr_s = refl

i32_shr_u : on_pairs 0x76 ≡ Ok 18 ∷ Ok 1 ∷ Ok 0x3FFFFFFE ∷ Ok 1 ∷ Ok 0x7FFFFFFF ∷ Ok 0x1234567 ∷ []
unfolding binary ibits ishr_u
i32_shr_u = refl

i32_rotl : on_pairs 0x77 ≡ Ok 0x78123456 ∷ Ok 1 ∷ Ok 0xFFFFFFE7 ∷ Ok 0x40000000 ∷ Ok 0x7FFFFFFF ∷ Ok 0x23456781 ∷ []
unfolding binary ibits irotl
i32_rotl = refl

i32_rotr : on_pairs 0x78 ≡ Ok 0x34567812 ∷ Ok 1 ∷ Ok 0x7FFFFFFE ∷ Ok 1 ∷ Ok 0x7FFFFFFF ∷ Ok 0x81234567 ∷ []
unfolding binary ibits irotr
i32_rotr = refl
