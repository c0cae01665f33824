-- Each numeric instruction on i64, at operands that tell it from the others. The expected values were computed by
-- another implementation of the standard's text.
use Rattle.std.specs.Prelude.{◌≡◌, ℕ, List, [], ◌∷◌, Result, Ok, Err, map, refl}
use Rattle.code_specs.specs.declared.trap.NumTrap.{NumTrap}
use Rattle.code_specs.specs.declared.trap.NumTrap.TheVariants.{ZeroDivide, Overflow}
use Rattle.code_specs.specs.Integers.{ibits, iclz, ictz, ipopcnt, ishl, ishr_u, ishr_s, irotl, irotr}
use Rattle.code_specs.specs.Numerics.{unary, binary}

-- 0, 1, -1, the least and the greatest number with sign, and 0xF0
abbrev on_each : ℕ → List ℕ
on_each op = map (unary op) (0 ∷ 1 ∷ 0xFFFFFFFFFFFFFFFF ∷ 0x8000000000000000 ∷ 0x7FFFFFFFFFFFFFFF ∷ 240 ∷ [])

-- a number and itself; 1 and 0; -7 and 2; the least number and -1; the greatest and the least; and a count that is over the width by 4
abbrev on_pairs : ℕ → List (Result ℕ NumTrap)
on_pairs op = binary op 0x123456789ABCDEF0 0x123456789ABCDEF0
    ∷ binary op 1 0
    ∷ binary op 0xFFFFFFFFFFFFFFF9 2
    ∷ binary op 0x8000000000000000 0xFFFFFFFFFFFFFFFF
    ∷ binary op 0x7FFFFFFFFFFFFFFF 0x8000000000000000
    ∷ binary op 0x123456789ABCDEF0 68 ∷ []

i64_eqz : on_each 0x50 ≡ 1 ∷ 0 ∷ 0 ∷ 0 ∷ 0 ∷ 0 ∷ []
unfolding unary
i64_eqz = refl

i64_eq : on_pairs 0x51 ≡ Ok 1 ∷ Ok 0 ∷ Ok 0 ∷ Ok 0 ∷ Ok 0 ∷ Ok 0 ∷ []
unfolding binary
i64_eq = refl

i64_ne : on_pairs 0x52 ≡ Ok 0 ∷ Ok 1 ∷ Ok 1 ∷ Ok 1 ∷ Ok 1 ∷ Ok 1 ∷ []
unfolding binary
i64_ne = refl

i64_lt_s : on_pairs 0x53 ≡ Ok 0 ∷ Ok 0 ∷ Ok 1 ∷ Ok 1 ∷ Ok 0 ∷ Ok 0 ∷ []
unfolding binary
i64_lt_s = refl

i64_lt_u : on_pairs 0x54 ≡ Ok 0 ∷ Ok 0 ∷ Ok 0 ∷ Ok 1 ∷ Ok 1 ∷ Ok 0 ∷ []
unfolding binary
i64_lt_u = refl

i64_gt_s : on_pairs 0x55 ≡ Ok 0 ∷ Ok 1 ∷ Ok 0 ∷ Ok 0 ∷ Ok 1 ∷ Ok 1 ∷ []
unfolding binary
i64_gt_s = refl

i64_gt_u : on_pairs 0x56 ≡ Ok 0 ∷ Ok 1 ∷ Ok 1 ∷ Ok 0 ∷ Ok 0 ∷ Ok 1 ∷ []
unfolding binary
i64_gt_u = refl

i64_le_s : on_pairs 0x57 ≡ Ok 1 ∷ Ok 0 ∷ Ok 1 ∷ Ok 1 ∷ Ok 0 ∷ Ok 0 ∷ []
unfolding binary
i64_le_s = refl

i64_le_u : on_pairs 0x58 ≡ Ok 1 ∷ Ok 0 ∷ Ok 0 ∷ Ok 1 ∷ Ok 1 ∷ Ok 0 ∷ []
unfolding binary
i64_le_u = refl

i64_ge_s : on_pairs 0x59 ≡ Ok 1 ∷ Ok 1 ∷ Ok 0 ∷ Ok 0 ∷ Ok 1 ∷ Ok 1 ∷ []
unfolding binary
i64_ge_s = refl

i64_ge_u : on_pairs 0x5A ≡ Ok 1 ∷ Ok 1 ∷ Ok 1 ∷ Ok 0 ∷ Ok 0 ∷ Ok 1 ∷ []
unfolding binary
i64_ge_u = refl

i64_clz : on_each 0x79 ≡ 64 ∷ 63 ∷ 0 ∷ 0 ∷ 1 ∷ 56 ∷ []
unfolding unary ibits iclz
i64_clz = refl

i64_ctz : on_each 0x7A ≡ 64 ∷ 0 ∷ 0 ∷ 63 ∷ 0 ∷ 4 ∷ []
unfolding unary ibits ictz
i64_ctz = refl

i64_popcnt : on_each 0x7B ≡ 0 ∷ 1 ∷ 64 ∷ 1 ∷ 63 ∷ 4 ∷ []
unfolding unary ibits ipopcnt
i64_popcnt = refl

i64_add : on_pairs 0x7C ≡ Ok 0x2468ACF13579BDE0 ∷ Ok 1 ∷ Ok 0xFFFFFFFFFFFFFFFB ∷ Ok 0x7FFFFFFFFFFFFFFF ∷ Ok 0xFFFFFFFFFFFFFFFF ∷ Ok 0x123456789ABCDF34 ∷ []
unfolding binary
i64_add = refl

i64_sub : on_pairs 0x7D ≡ Ok 0 ∷ Ok 1 ∷ Ok 0xFFFFFFFFFFFFFFF7 ∷ Ok 0x8000000000000001 ∷ Ok 0xFFFFFFFFFFFFFFFF ∷ Ok 0x123456789ABCDEAC ∷ []
unfolding binary
i64_sub = refl

i64_mul : on_pairs 0x7E ≡ Ok 0xA5E20890F2A52100 ∷ Ok 0 ∷ Ok 0xFFFFFFFFFFFFFFF2 ∷ Ok 0x8000000000000000 ∷ Ok 0x8000000000000000 ∷ Ok 0xD5E6F8091A2B37C0 ∷ []
unfolding binary
i64_mul = refl

i64_div_s : on_pairs 0x7F ≡ Ok 1 ∷ Err ZeroDivide ∷ Ok 0xFFFFFFFFFFFFFFFD ∷ Err Overflow ∷ Ok 0 ∷ Ok 0x4488CD115599DD ∷ []
unfolding binary
i64_div_s = refl

i64_div_u : on_pairs 0x80 ≡ Ok 1 ∷ Err ZeroDivide ∷ Ok 0x7FFFFFFFFFFFFFFC ∷ Ok 0 ∷ Ok 0 ∷ Ok 0x4488CD115599DD ∷ []
unfolding binary
i64_div_u = refl

i64_rem_s : on_pairs 0x81 ≡ Ok 0 ∷ Err ZeroDivide ∷ Ok 0xFFFFFFFFFFFFFFFF ∷ Ok 0 ∷ Ok 0x7FFFFFFFFFFFFFFF ∷ Ok 60 ∷ []
unfolding binary
i64_rem_s = refl

i64_rem_u : on_pairs 0x82 ≡ Ok 0 ∷ Err ZeroDivide ∷ Ok 1 ∷ Ok 0x8000000000000000 ∷ Ok 0x7FFFFFFFFFFFFFFF ∷ Ok 60 ∷ []
unfolding binary
i64_rem_u = refl

i64_and : on_pairs 0x83 ≡ Ok 0x123456789ABCDEF0 ∷ Ok 0 ∷ Ok 0 ∷ Ok 0x8000000000000000 ∷ Ok 0 ∷ Ok 64 ∷ []
unfolding binary
i64_and = refl

i64_or : on_pairs 0x84 ≡ Ok 0x123456789ABCDEF0 ∷ Ok 1 ∷ Ok 0xFFFFFFFFFFFFFFFB ∷ Ok 0xFFFFFFFFFFFFFFFF ∷ Ok 0xFFFFFFFFFFFFFFFF ∷ Ok 0x123456789ABCDEF4 ∷ []
unfolding binary
i64_or = refl

i64_xor : on_pairs 0x85 ≡ Ok 0 ∷ Ok 1 ∷ Ok 0xFFFFFFFFFFFFFFFB ∷ Ok 0x7FFFFFFFFFFFFFFF ∷ Ok 0xFFFFFFFFFFFFFFFF ∷ Ok 0x123456789ABCDEB4 ∷ []
unfolding binary
i64_xor = refl

i64_shl : on_pairs 0x86 ≡ Ok 0xDEF0000000000000 ∷ Ok 1 ∷ Ok 0xFFFFFFFFFFFFFFE4 ∷ Ok 0 ∷ Ok 0x7FFFFFFFFFFFFFFF ∷ Ok 0x23456789ABCDEF00 ∷ []
unfolding binary ibits ishl
i64_shl = refl

i64_shr_s : on_pairs 0x87 ≡ Ok 0x1234 ∷ Ok 1 ∷ Ok 0xFFFFFFFFFFFFFFFE ∷ Ok 0xFFFFFFFFFFFFFFFF ∷ Ok 0x7FFFFFFFFFFFFFFF ∷ Ok 0x123456789ABCDEF ∷ []
unfolding binary ibits ishr_s
i64_shr_s = refl

i64_shr_u : on_pairs 0x88 ≡ Ok 0x1234 ∷ Ok 1 ∷ Ok 0x3FFFFFFFFFFFFFFE ∷ Ok 1 ∷ Ok 0x7FFFFFFFFFFFFFFF ∷ Ok 0x123456789ABCDEF ∷ []
unfolding binary ibits ishr_u
i64_shr_u = refl

i64_rotl : on_pairs 0x89 ≡ Ok 0xDEF0123456789ABC ∷ Ok 1 ∷ Ok 0xFFFFFFFFFFFFFFE7 ∷ Ok 0x4000000000000000 ∷ Ok 0x7FFFFFFFFFFFFFFF ∷ Ok 0x23456789ABCDEF01 ∷ []
unfolding binary ibits irotl
i64_rotl = refl

i64_rotr : on_pairs 0x8A ≡ Ok 0x56789ABCDEF01234 ∷ Ok 1 ∷ Ok 0x7FFFFFFFFFFFFFFE ∷ Ok 1 ∷ Ok 0x7FFFFFFFFFFFFFFF ∷ Ok 0x123456789ABCDEF ∷ []
unfolding binary ibits irotr
i64_rotr = refl

-- an i64 as an i32, and an i32 as an i64
i32_wrap_i64 : on_each 0xA7 ≡ 0 ∷ 1 ∷ 0xFFFFFFFF ∷ 0 ∷ 0xFFFFFFFF ∷ 240 ∷ []
unfolding unary
i32_wrap_i64 = refl

i64_extend_i32_s : on_each 0xAC ≡ 0 ∷ 1 ∷ 0xFFFFFFFFFFFFFFFF ∷ 0 ∷ 0xFFFFFFFFFFFFFFFF ∷ 240 ∷ []
unfolding unary
i64_extend_i32_s = refl

i64_extend_i32_u : on_each 0xAD ≡ 0 ∷ 1 ∷ 0xFFFFFFFF ∷ 0 ∷ 0xFFFFFFFF ∷ 240 ∷ []
unfolding unary
i64_extend_i32_u = refl

extended_least : unary 0xAC 0x80000000 ≡ 0xFFFFFFFF80000000
unfolding unary
extended_least = refl

extended_greatest : unary 0xAC 0x7FFFFFFF ≡ 0x7FFFFFFF
unfolding unary
extended_greatest = refl

zero_extended_least : unary 0xAD 0x80000000 ≡ 0x80000000
unfolding unary
zero_extended_least = refl
