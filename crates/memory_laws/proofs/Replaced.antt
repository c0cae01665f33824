-- Bytes in the place of others.
use Rattle.std.proofs.Common.{◌≡◌, ℕ, zero, suc, ◌+◌, ◌-◌, ◌*◌, ◌<◌, ◌≤◌, ◌⊎◌, List, [], ◌∷◌, ◌++◌, Some, None, length, refl, sym, ap, ◌∙◌, arith, inl, inr, Bool}
use Rattle.std.specs.Prelude.{◌%◌, ◌^◌, take, drop, option_map, slice_get, slice_range, if◌then◌else◌}
use Rattle.std.proofs.lemmas.Bool.{le-leb}
use Rattle.std.proofs.lemmas.List.{drop_at, length-append, length-drop, length-take-le, take_at}
use Rattle.code_specs.specs.Stores.{number_of_bytes, bytes_of, bytes_at, replaced_at}
use Rattle.memory_laws.proofs.Bytes.{counted, number_is}

behind : (new bytes : List ℕ) (place n : ℕ) → n ≡ length new → n ≤ length bytes → n ≤ place → slice_get (new ++ drop n bytes) place ≡ slice_get bytes place
behind [] bytes place zero e le at = refl
behind [] bytes place (suc n) e le at = absurd (omega (arith, e))
behind (x ∷ new) bytes place zero e le at = absurd (omega (arith, e))
behind (x ∷ new) [] place (suc n) e le at = absurd (omega (arith, le))
behind (x ∷ new) (y ∷ ys) zero (suc n) e le at = absurd (omega (arith, at))
behind (x ∷ new) (y ∷ ys) (suc place) (suc n) e le at =
    behind new ys place n (omega (arith, e)) (omega (arith, le)) (omega (arith, at))

others_at : (bytes new : List ℕ) (address place n : ℕ) → n ≡ address + length new → n ≤ length bytes → (place < address) ⊎ (n ≤ place)
    → slice_get (take address bytes ++ (new ++ drop n bytes)) place ≡ slice_get bytes place
others_at bytes new zero place n e le (inl lt) = absurd (omega (arith, lt))
others_at bytes new zero place n e le (inr at) = behind new bytes place n (omega (arith, e)) le at
others_at [] new (suc address) place n e le at = absurd (omega (arith, e, le))
others_at (y ∷ ys) new (suc address) place zero e le at = absurd (omega (arith, e))
others_at (y ∷ ys) new (suc address) zero (suc n) e le at = refl
others_at (y ∷ ys) new (suc address) (suc place) (suc n) e le (inl lt) =
    others_at ys new address place n (omega (arith, e)) (omega (arith, le)) (inl (omega (arith, lt)))
others_at (y ∷ ys) new (suc address) (suc place) (suc n) e le (inr at) =
    others_at ys new address place n (omega (arith, e)) (omega (arith, le)) (inr (omega (arith, at)))

pub others : (bytes new : List ℕ) (address place : ℕ) → address + length new ≤ length bytes → (place < address) ⊎ (address + length new ≤ place)
    → slice_get (replaced_at bytes address new) place ≡ slice_get bytes place
others bytes new address place le at = others_at bytes new address place (address + length new) refl le at

pub size : (bytes new : List ℕ) (address : ℕ) → address + length new ≤ length bytes → length (replaced_at bytes address new) ≡ length bytes
size bytes new address le =
    let front = length-take-le address bytes (omega (arith, le)) in
    let rest = length-drop (address + length new) bytes in
    let inner = length-append new (drop (address + length new) bytes) in
    length-append (take address bytes) (new ++ drop (address + length new) bytes) ∙ omega (arith, front, rest, inner, le)

read_back : (bytes new : List ℕ) (address : ℕ) → address + length new ≤ length bytes → slice_range (replaced_at bytes address new) address (address + length new) ≡ new
read_back bytes new address le =
    let rest = drop (address + length new) bytes in
    let count : address + length new - address ≡ length new = omega arith in
    let front = length-take-le address bytes (omega (arith, le)) in
    ap (λ (k : ℕ). take k (drop address (replaced_at bytes address new))) count
    ∙ ap (λ (l : List ℕ). take (length new) l) (drop_at (take address bytes) (new ++ rest) address front)
    ∙ take_at new rest (length new) refl

found : (all new : List ℕ) (address : ℕ) → address + length new ≤ length all → slice_range all address (address + length new) ≡ new → bytes_at all address (length new) ≡ Some new
found all new address le is =
    ap (λ (b : Bool). if b then Some (slice_range all address (address + length new)) else None) (le-leb (address + length new) (length all) le)
    ∙ ap Some is

pub loaded : (bytes : List ℕ) (address width n : ℕ) → address + width ≤ length bytes
    → option_map number_of_bytes (bytes_at (replaced_at bytes address (bytes_of width n)) address width) ≡ Some (n % 2 ^ (8 * width))
loaded bytes address width n le =
    let new = bytes_of width n in
    let c = counted width n in
    let le' : address + length new ≤ length bytes = omega (arith, le, c) in
    let s = size bytes new address le' in
    ap (λ (k : ℕ). option_map number_of_bytes (bytes_at (replaced_at bytes address new) address k)) (sym c)
    ∙ ap (option_map number_of_bytes) (found (replaced_at bytes address new) new address (omega (arith, le', s)) (read_back bytes new address le'))
    ∙ ap Some (number_is width n)
