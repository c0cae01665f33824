-- The places of a number's hexadecimal digits.
use Rattle.std.proofs.Common.{◌≡◌, ◌<◌, ◌≤◌, ℕ, zero, suc, ◌+◌, ◌*◌, ◌/◌, ◌^◌, List, [], ◌∷◌, ◌++◌, bit_and, refl, sym, ap, ◌∙◌, arith, add-one}
use Rattle.std.proofs.Math.Nat.{pow-le-pow_right, pow-suc}
use Rattle.std.proofs.lemmas.Nat.{and_mask, pow-add}
use Rattle.std.proofs.lemmas.List.{append_assoc}
use Rattle.frame_specs.specs.FrameText.{hex, hex_digit}

-- a number of fewer than eight digits has room for one more
pub room_for_digit : (value place : ℕ) → value < 16 ^ place → place < 8 → value < 16 ^ 7
room_for_digit value place small early =
    let most : 16 ^ place ≤ 16 ^ 7 = pow-le-pow_right {n = 16} (omega arith) {i = place} {j = 7} (omega arith) in
    omega (arith, most)

four_bits_a_place : (place : ℕ) → 2 ^ (4 * place) ≡ 16 ^ place
four_bits_a_place zero = refl
four_bits_a_place (suc place) =
    let next : 4 * suc place ≡ 4 * place + 4 = omega arith in
    ap (λ k. 2 ^ k) next
    ∙ pow-add 2 (4 * place) 4
    ∙ ap (λ p. p * 16) (four_bits_a_place place)
    ∙ sym (pow-suc 16 place)

-- the digit at a place, before those below it
pub hex_at : (number place : ℕ) → hex_digit (bit_and (number / 2 ^ (4 * place)) 15) ∷ hex place number ≡ hex (place + 1) number
hex_at number place =
    rw (add-one, four_bits_a_place place) (ap (λ d. hex_digit d ∷ hex place number) (and_mask (number / 16 ^ place) 4))

-- one digit more stands in the text, and one fewer is left
pub digit_printed : (text new all : List ℕ) (number place left digit : ℕ)
    → new ≡ text ++ digit ∷ []
    → digit ≡ hex_digit (bit_and (number / 2 ^ (4 * place)) 15)
    → left ≡ place + 1
    → text ++ hex left number ≡ all
    → new ++ hex place number ≡ all
digit_printed text new all number place left digit pushed at more so_far =
    ap (λ xs. xs ++ hex place number) pushed
    ∙ append_assoc text (digit ∷ []) (hex place number)
    ∙ ap (λ d. text ++ d ∷ hex place number) at
    ∙ ap (λ xs. text ++ xs) (hex_at number place)
    ∙ ap (λ w. text ++ hex w number) (sym more)
    ∙ so_far
