-- The order of keys is the order of dominance: lemmas over any lists of bits, then at the arbitration bits.
use Rattle.std.proofs.Common.{◌≡◌, ℕ, zero, suc, ◌+◌, ◌/◌, ◌^◌, ◌<◌, ◌≤◌, Bool, true, false, cond, List, [], ◌∷◌, ◌++◌, length, ltb, refl, ap, ◌∙◌, arith}
use Rattle.std.specs.Bool.{beq}
use Rattle.std.specs.Prelude.{if◌then◌else◌, nat_lt}
use Rattle.std.proofs.Math.Nat.{pow-suc}
use Rattle.std.proofs.lemmas.Nat.{pow_pos}
use Rattle.std.proofs.lemmas.Bool.{false≢true}
use Rattle.std.proofs.lemmas.Bool.Decides.{nat_tests}
use Rattle.frame_specs.specs.Bits.{bit, number_bits}
use Rattle.frame_specs.specs.Frame.{Frame}
use Rattle.frame_specs.specs.Wire.{arbitration_bits, arbitration_field, remote_bit}
use Rattle.frame_specs.specs.Dominance.{beats, comes_first}
use Rattle.arbitration.specs.Key.{number_of, key_of}

-- the two differ before either ends, or are the same
abbrev told_apart : List Bool → List Bool → Bool
told_apart [] [] = true
told_apart [] (b ∷ bs) = false
told_apart (a ∷ as') [] = false
told_apart (a ∷ as') (b ∷ bs) = if beq a b then told_apart as' bs else true

pub number_of-lt : (w : ℕ) (bits : List Bool) → number_of w bits < 2 ^ w
unfolding number_of
number_of-lt w [] = pow_pos w
number_of-lt zero (b ∷ bits) = omega arith
number_of-lt (suc w) (true ∷ bits) = let h = number_of-lt w bits in let e = pow-suc 2 w in omega arith
number_of-lt (suc w) (false ∷ bits) = let h = number_of-lt w bits in let e = pow-suc 2 w in omega arith

-- the same digit in front changes no order
ltb-add : (n x y : ℕ) → ltb x y ≡ ltb (n + x) (n + y)
ltb-add n x y = grind (arith, nat_tests)

ltb-above : (n x y : ℕ) → y < n → false ≡ ltb (n + x) (0 + y)
ltb-above n x y h = grind (arith, nat_tests)

ltb-below : (n x y : ℕ) → x < n → true ≡ ltb (0 + x) (n + y)
ltb-below n x y h = grind (arith, nat_tests)

-- the bits that come first are those of the smaller number
pub number_of-order : (w : ℕ) (as' bs : List Bool) → told_apart as' bs ≡ true → length as' ≤ w → length bs ≤ w
    → comes_first as' bs ≡ nat_lt (number_of w as') (number_of w bs)
unfolding number_of
number_of-order w [] [] h p q = refl
number_of-order w [] (b ∷ bs) h p q = absurd (false≢true h)
number_of-order w (a ∷ as') [] h p q = absurd (false≢true h)
number_of-order zero (a ∷ as') (b ∷ bs) h p q = absurd (omega arith)
number_of-order (suc w) (true ∷ as') (true ∷ bs) h p q =
    number_of-order w as' bs h (omega arith) (omega arith) ∙ ltb-add (2 ^ w) (number_of w as') (number_of w bs)
number_of-order (suc w) (false ∷ as') (false ∷ bs) h p q =
    number_of-order w as' bs h (omega arith) (omega arith) ∙ ltb-add 0 (number_of w as') (number_of w bs)
number_of-order (suc w) (true ∷ as') (false ∷ bs) h p q = ltb-above (2 ^ w) (number_of w as') (number_of w bs) (number_of-lt w bs)
number_of-order (suc w) (false ∷ as') (true ∷ bs) h p q = ltb-below (2 ^ w) (number_of w as') (number_of w bs) (number_of-lt w as')

-- no two lists of bits have one number
pub number_of-same : (w : ℕ) (as' bs : List Bool) → told_apart as' bs ≡ true → length as' ≤ w → length bs ≤ w
    → number_of w as' ≡ number_of w bs → as' ≡ bs
unfolding number_of
number_of-same w [] [] h p q e = refl
number_of-same w [] (b ∷ bs) h p q e = absurd (false≢true h)
number_of-same w (a ∷ as') [] h p q e = absurd (false≢true h)
number_of-same zero (a ∷ as') (b ∷ bs) h p q e = absurd (omega arith)
number_of-same (suc w) (true ∷ as') (true ∷ bs) h p q e =
    ap (λ l. true ∷ l) (number_of-same w as' bs h (omega arith) (omega arith) (omega arith))
number_of-same (suc w) (false ∷ as') (false ∷ bs) h p q e =
    ap (λ l. false ∷ l) (number_of-same w as' bs h (omega arith) (omega arith) (omega arith))
number_of-same (suc w) (true ∷ as') (false ∷ bs) h p q e = let l = number_of-lt w bs in absurd (omega arith)
number_of-same (suc w) (false ∷ as') (true ∷ bs) h p q e = let l = number_of-lt w as' in absurd (omega arith)

-- fronts of one width
told_apart-numbers : (k m n : ℕ) (xs ys : List Bool) → told_apart xs ys ≡ true → told_apart (number_bits k m ++ xs) (number_bits k n ++ ys) ≡ true
told_apart-numbers zero m n xs ys h = h
told_apart-numbers (suc k) m n xs ys h =
    elim (beq (bit m k) (bit n k)) as (λ v. cond v (told_apart (number_bits k m ++ xs) (number_bits k n ++ ys)) true ≡ true)
    [ true ↦ told_apart-numbers k m n xs ys h | false ↦ refl ]

base_ends : (r s : Bool) → told_apart (r ∷ false ∷ []) (s ∷ false ∷ []) ≡ true
base_ends false false = refl
base_ends false true = refl
base_ends true false = refl
base_ends true true = refl

base_and_extended : (r : Bool) (bits : List Bool) → told_apart (r ∷ false ∷ []) (true ∷ true ∷ bits) ≡ true
base_and_extended false bits = refl
base_and_extended true bits = refl

extended_and_base : (r : Bool) (bits : List Bool) → told_apart (true ∷ true ∷ bits) (r ∷ false ∷ []) ≡ true
extended_and_base false bits = refl
extended_and_base true bits = refl

extended_ends : (r s : Bool) → told_apart (r ∷ []) (s ∷ []) ≡ true
extended_ends false false = refl
extended_ends false true = refl
extended_ends true false = refl
extended_ends true true = refl

-- two fields of arbitration bits
fields_told_apart : (e f : Bool) (m n : ℕ) (r s : Bool) → told_apart (arbitration_field e m r) (arbitration_field f n s) ≡ true
fields_told_apart false false m n r s = told_apart-numbers 11 m n (r ∷ false ∷ []) (s ∷ false ∷ []) (base_ends r s)
fields_told_apart false true m n r s =
    let low = true ∷ true ∷ number_bits 18 n ++ s ∷ [] in
    told_apart-numbers 11 m (n / 2 ^ 18) (r ∷ false ∷ []) low (base_and_extended r (number_bits 18 n ++ s ∷ []))
fields_told_apart true false m n r s =
    let low = true ∷ true ∷ number_bits 18 m ++ r ∷ [] in
    told_apart-numbers 11 (m / 2 ^ 18) n low (s ∷ false ∷ []) (extended_and_base s (number_bits 18 m ++ r ∷ []))
fields_told_apart true true m n r s =
    told_apart-numbers 11 (m / 2 ^ 18) (n / 2 ^ 18) (true ∷ true ∷ number_bits 18 m ++ r ∷ []) (true ∷ true ∷ number_bits 18 n ++ s ∷ [])
    (told_apart-numbers 18 m n (r ∷ []) (s ∷ []) (extended_ends r s))

field_length : (e : Bool) (n : ℕ) (r : Bool) → length (arbitration_field e n r) ≤ 32
field_length false n r = omega arith
field_length true n r = omega arith

-- a frame beats another exactly where its key is smaller
pub beats-by_key : (f g : Frame) → beats f g ≡ nat_lt (key_of f) (key_of g)
unfolding beats key_of
beats-by_key f g = number_of-order 32 (arbitration_bits f) (arbitration_bits g)
    (fields_told_apart f.ext g.ext f.id g.id (remote_bit f.kind) (remote_bit g.kind))
    (field_length f.ext f.id (remote_bit f.kind)) (field_length g.ext g.id (remote_bit g.kind))

-- keys are equal only where the arbitration bits are
pub bits-by_key : (f g : Frame) → key_of f ≡ key_of g → arbitration_bits f ≡ arbitration_bits g
unfolding key_of
bits-by_key f g e = number_of-same 32 (arbitration_bits f) (arbitration_bits g)
    (fields_told_apart f.ext g.ext f.id g.id (remote_bit f.kind) (remote_bit g.kind))
    (field_length f.ext f.id (remote_bit f.kind)) (field_length g.ext g.id (remote_bit g.kind)) e

pub key-by_bits : (f g : Frame) → arbitration_bits f ≡ arbitration_bits g → key_of f ≡ key_of g
unfolding key_of
key-by_bits f g e = ap (number_of 32) e
