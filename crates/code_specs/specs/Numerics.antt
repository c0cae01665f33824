-- Which operator a numeric instruction has (WebAssembly Core 1.0, sections 2.4.1 and 5.4.5), by its opcode. An operand
-- of type i32 is held in the low 32 bits of a number.
use Rattle.std.specs.Prelude.{ℕ, ◌-◌, ◌%◌, ◌^◌, ◌==◌, List, [], ◌∷◌, Option, Some, None, Result, Ok, nat_lt, slice_get, if◌then◌else◌}
use Rattle.code_specs.specs.declared.trap.NumTrap.{NumTrap}
use Rattle.code_specs.specs.Integers.{iadd, isub, imul, idiv_u, idiv_s, irem_u, irem_s, iand, ior, ixor, ishl, ishr_u, ishr_s, irotl, irotr, iclz, ictz, ipopcnt, ieqz, ieq, ine, ilt_u, ilt_s, igt_u, igt_s, ile_u, ile_s, ige_u, ige_s, extend_u, extend_s, wrap}

-- an operator on two integers, which may be undefined
abbrev pub Binary : Type 0
Binary = ℕ → ℕ → Result ℕ NumTrap

-- one that is defined everywhere
abbrev pub total : (ℕ → ℕ → ℕ) → Binary
total f i j = Ok (f i j)

-- iunop, in the order of the opcodes
abbrev pub iunops : ℕ → List (ℕ → ℕ)
iunops n = iclz n ∷ ictz n ∷ ipopcnt n ∷ []

-- irelop, in the order of the opcodes
abbrev pub irelops : ℕ → List Binary
irelops n =
    total ieq ∷ total ine
    ∷ total (ilt_s n) ∷ total ilt_u ∷ total (igt_s n) ∷ total igt_u
    ∷ total (ile_s n) ∷ total ile_u ∷ total (ige_s n) ∷ total ige_u
    ∷ []

-- ibinop, in the order of the opcodes
abbrev pub ibinops : ℕ → List Binary
ibinops n =
    total (iadd n) ∷ total (isub n) ∷ total (imul n)
    ∷ idiv_s n ∷ idiv_u ∷ irem_s n ∷ irem_u
    ∷ total iand ∷ total ior ∷ total ixor
    ∷ total (ishl n) ∷ total (ishr_s n) ∷ total (ishr_u n) ∷ total (irotl n) ∷ total (irotr n)
    ∷ []

-- an operator on the low N bits; where there is none it gives 0
abbrev pub on_low : ℕ → Option (ℕ → ℕ) → ℕ → ℕ
on_low n None i = 0
on_low n (Some f) i = f (i % 2 ^ n)

abbrev pub on_both_low : ℕ → Option Binary → Binary
on_both_low n None i j = Ok 0
on_both_low n (Some f) i j = f (i % 2 ^ n) (j % 2 ^ n)

-- what the instruction with this opcode makes of its operand
unfoldable pub unary : ℕ → ℕ → ℕ
unary op i =
    if op == 0x45 then on_low 32 (Some ieqz) i
    else if op == 0x50 then on_low 64 (Some ieqz) i
    else if op == 0xA7 then on_low 64 (Some (wrap 32)) i
    else if op == 0xAC then on_low 32 (Some (extend_s 32 64)) i
    else if op == 0xAD then on_low 32 (Some extend_u) i
    else if nat_lt op 0x79 then on_low 32 (slice_get (iunops 32) (op - 0x67)) i
    else on_low 64 (slice_get (iunops 64) (op - 0x79)) i

-- what it makes of its two operands, the upper one last
unfoldable pub binary : ℕ → Binary
binary op i j =
    if nat_lt op 0x51 then on_both_low 32 (slice_get (irelops 32) (op - 0x46)) i j
    else if nat_lt op 0x67 then on_both_low 64 (slice_get (irelops 64) (op - 0x51)) i j
    else if nat_lt op 0x7C then on_both_low 32 (slice_get (ibinops 32) (op - 0x6A)) i j
    else on_both_low 64 (slice_get (ibinops 64) (op - 0x7C)) i j
