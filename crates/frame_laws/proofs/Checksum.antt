-- The remainder of bits with their CRC behind them.
use Rattle.std.proofs.Common.{◌≡◌, ◌≤◌, ◌<◌, ◌+◌, ◌-◌, ◌*◌, ◌/◌, ◌%◌, ◌^◌, ◌==◌, ℕ, zero, suc, Bool, true, false, List, [], ◌∷◌, fold, if◌then◌else◌, refl, sym, ap, subst, ◌∙◌, arith}
use Rattle.std.specs.Prelude.{bit_xor}
use Rattle.std.specs.Bool.{beq}
use Rattle.std.proofs.lemmas.List.Sums.{fold-append}
use Rattle.std.proofs.lemmas.Nat.{mod-pow-add, pow-add, pow_pos, mod_below, xor_lt}
use Rattle.std.proofs.Math.Nat.{add-mul, mul_assoc, mod-one, mul-lt-mul_of_pos_right}
use Rattle.frame_specs.specs.Bits.{bit, number_bits}
use Rattle.frame_specs.specs.Frame.{Frame, Kind, Data, Remote, Fd}
use Rattle.frame_specs.specs.Wire.{crc_step, crc, raw, stuffed}
use Rattle.frame_laws.specs.Unstuffing.{unstuffed}
use Rattle.frame_laws.specs.Checksum.{crc_bits, covered, IsClassical, LeavesNothing}
use Rattle.frame_laws.proofs.Unstuffing.{undone-frame}

-- ---- the remainder has 15 bits

chosen-below : (same : Bool) (n : ℕ) → n < 2 ^ 15 → (if same then n else bit_xor n 0x4599) < 2 ^ 15
chosen-below true n h = h
chosen-below false n h = xor_lt 15 n 0x4599 h (omega arith)

step-below : (s : ℕ) (b : Bool) → crc_step s b < 2 ^ 15
step-below s b = chosen-below (beq (bit s 14) b) ((2 * s) % 2 ^ 15) (omega arith)

fold-below : (s : ℕ) (bits : List Bool) → s < 2 ^ 15 → fold crc_step s bits < 2 ^ 15
fold-below s [] h = h
fold-below s (b ∷ bits) h = fold-below (crc_step s b) bits (step-below s b)

-- ---- its own bits take it to 0

beq-same : (b : Bool) → beq b b ≡ true
beq-same true = refl
beq-same false = refl

-- a bit like the highest one is shifted out
step-out : (s highest rest : ℕ) → s ≡ highest * 2 ^ 14 + rest → highest < 2 → rest < 2 ^ 14 → crc_step s (highest == 1) ≡ 2 * rest
step-out s highest rest e h r =
    let top : s / 2 ^ 14 % 2 ≡ highest = omega (arith, e, h, r) in
    let shifted : (2 * s) % 2 ^ 15 ≡ 2 * rest = omega (arith, e, h, r) in
    rw (top, beq-same (highest == 1), shifted) refl

-- the lowest k bits, as high as a remainder reaches
abbrev raised : ℕ → ℕ → ℕ
raised k n = (n % 2 ^ k) * 2 ^ (15 - k)

raised-split : (k n : ℕ) → k ≤ 14 → raised (suc k) n ≡ (n / 2 ^ k % 2) * 2 ^ 14 + (n % 2 ^ k) * 2 ^ (14 - k)
raised-split k n h =
    let next : suc k ≡ 1 + k = omega arith in
    let room : 15 - (1 + k) ≡ 14 - k = omega arith in
    let place : k + (14 - k) ≡ 14 = omega arith in
    let power : 2 ^ k * 2 ^ (14 - k) ≡ 2 ^ 14 = sym (pow-add 2 k (14 - k)) ∙ ap (λ j. 2 ^ j) place in
    rw (next, room, mod-pow-add n 1 k, add-mul (n / 2 ^ k % 2 * 2 ^ k) (n % 2 ^ k) (2 ^ (14 - k)), mul_assoc (n / 2 ^ k % 2) (2 ^ k) (2 ^ (14 - k)), power) refl

raised-twice : (k n : ℕ) → k ≤ 14 → 2 * ((n % 2 ^ k) * 2 ^ (14 - k)) ≡ raised k n
raised-twice k n h =
    let room : 15 - k ≡ 1 + (14 - k) = omega arith in
    rw (room, pow-add 2 1 (14 - k)) (omega arith)

raised-below : (k n : ℕ) → k ≤ 14 → (n % 2 ^ k) * 2 ^ (14 - k) < 2 ^ 14
raised-below k n h =
    let place : k + (14 - k) ≡ 14 = omega arith in
    let power : 2 ^ k * 2 ^ (14 - k) ≡ 2 ^ 14 = sym (pow-add 2 k (14 - k)) ∙ ap (λ j. 2 ^ j) place in
    subst (λ most. (n % 2 ^ k) * 2 ^ (14 - k) < most) power (mul-lt-mul_of_pos_right (mod_below n (2 ^ k) (pow_pos k)) (pow_pos (14 - k)))

step-raised : (k n : ℕ) → k ≤ 14 → crc_step (raised (suc k) n) (bit n k) ≡ raised k n
step-raised k n h =
    step-out (raised (suc k) n) (n / 2 ^ k % 2) ((n % 2 ^ k) * 2 ^ (14 - k)) (raised-split k n h) (mod_below (n / 2 ^ k) 2 (omega arith)) (raised-below k n h)
    ∙ raised-twice k n h

fold-raised : (k n : ℕ) → k ≤ 15 → fold crc_step (raised k n) (number_bits k n) ≡ 0
fold-raised zero n h = rw (mod-one n) refl
fold-raised (suc k) n h =
    let here : k ≤ 14 = omega arith in
    let below : k ≤ 15 = omega arith in
    ap (λ s. fold crc_step s (number_bits k n)) (step-raised k n here) ∙ fold-raised k n below

own-bits : (n : ℕ) → n < 2 ^ 15 → fold crc_step n (number_bits 15 n) ≡ 0
own-bits n h =
    let whole : n ≡ raised 15 n = omega arith in
    ap (λ s. fold crc_step s (number_bits 15 n)) whole ∙ fold-raised 15 n (omega arith)

pub nothing : LeavesNothing crc_bits
nothing bits = fold-append crc_step 0 bits (crc_bits bits) ∙ own-bits (crc bits) (fold-below 0 bits (omega arith))

-- ---- of a frame

nothing-covered : (kind : Kind) (bits : List Bool) → IsClassical kind → crc (covered kind bits) ≡ 0
nothing-covered (Fd brs esi) bits h = absurd h
nothing-covered Data bits h = nothing bits
nothing-covered Remote bits h = nothing bits

pub nothing-received : (f : Frame) → IsClassical f.kind → crc (unstuffed (stuffed f)) ≡ 0
nothing-received f h = ap crc (undone-frame f) ∙ nothing-covered f.kind (raw f) h
