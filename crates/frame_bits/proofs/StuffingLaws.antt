-- What holds of every list of bits that is stuffed.
use Rattle.std.proofs.Common.{◌≡◌, ◌≢◌, ◌≤◌, ◌<◌, ◌+◌, ◌-◌, ◌*◌, ◌/◌, ℕ, Bool, true, false, not, List, [], ◌∷◌, ◌++◌, ◌⊎◌, inl, inr, length, fold, replicate, reverse, refl, sym, ap, subst, ◌∙◌, append_assoc, arith}
use Rattle.std.proofs.lemmas.Bool.Decides.{eqb_tells}
use Rattle.std.proofs.lemmas.List.{reverse-append, reverse-reverse}
use Rattle.frame_specs.specs.Wire.{run, front, settle, put, stuff, stuff_open}
use Rattle.frame_bits.proofs.Stuffing.{length-stuff, length-stuff_open}

run-cons : (b : Bool) (w : List Bool) → run (b ∷ w) ≤ run w + 1
run-cons b [] = omega arith
run-cons true (true ∷ w) = omega arith
run-cons true (false ∷ w) = omega arith
run-cons false (true ∷ w) = omega arith
run-cons false (false ∷ w) = omega arith

run-above : (b : Bool) (w : List Bool) → 0 < run (b ∷ w)
run-above b [] = omega arith
run-above true (true ∷ w) = omega arith
run-above true (false ∷ w) = omega arith
run-above false (true ∷ w) = omega arith
run-above false (false ∷ w) = omega arith

-- a stuff bit begins a run of one
run-stuff : (w : List Bool) → run w ≡ 5 → run (not (front w) ∷ w) ≡ 1
run-stuff [] h = refl
run-stuff (true ∷ w) h = refl
run-stuff (false ∷ w) h = refl

-- a stuff bit is due, or none is
settles : (w : List Bool) → ((run w ≡ 5) × (settle w ≡ not (front w) ∷ w)) ⊎ ((run w ≢ 5) × (settle w ≡ w))
settles w = elim (eqb_tells (run w) 5) [ inl t ↦ inl (t.1, rw t.0 refl) | inr t ↦ inr (t.1, rw t.0 refl) ]

-- where no run is over five, none is over four behind a stuff bit that was due
run-settle : (w : List Bool) → run w ≤ 5 → run (settle w) ≤ 4
run-settle w h = elim (settles w) [ inl t ↦ rw (t.1, run-stuff w t.0) (omega arith) | inr t ↦ rw t.1 (omega (arith, t.0)) ]

run-put : (w : List Bool) (b : Bool) → run w ≤ 5 → run (put w b) ≤ 5
run-put w b h = omega (arith, run-cons b (settle w), run-settle w h)

-- no six equal bits stand in a row
abbrev pub HasNoSix : List Bool → Type 0
HasNoSix w = (before behind : List Bool) (b : Bool) → w ≢ before ++ replicate 6 b ++ behind

run-six : (b : Bool) (w : List Bool) → 6 ≤ run (b ∷ b ∷ b ∷ b ∷ b ∷ b ∷ w)
run-six true w = let above = run-above true w in omega (arith, above)
run-six false w = let above = run-above false w in omega (arith, above)

front-of : (b c : Bool) (v w : List Bool) → b ∷ v ≡ c ∷ w → v ≡ w
front-of b c v w e = cc

HasNoSix-cons : (c : Bool) (w : List Bool) → HasNoSix w → run (c ∷ w) ≤ 5 → HasNoSix (c ∷ w)
HasNoSix-cons c w none short [] behind b e =
    let long : 6 ≤ run (c ∷ w) = subst (λ (xs : List Bool). 6 ≤ run xs) (sym e) (run-six b behind) in
    omega (arith, long, short)
HasNoSix-cons c w none short (x ∷ before) behind b e =
    none before behind b (front-of c x w (before ++ replicate 6 b ++ behind) e)

-- what is true of all that is written, the newest bit first
pub record IsStuffed (w : List Bool) : Type 0 where
  pub short : run w ≤ 5
  pub none : HasNoSix w

IsStuffed-nil : IsStuffed []
IsStuffed-nil = record { short = omega arith; none = none-of }
  where
    none-of : HasNoSix []
    none-of [] behind b e = cc
    none-of (x ∷ before) behind b e = cc

IsStuffed-settle : (w : List Bool) → IsStuffed w → IsStuffed (settle w)
IsStuffed-settle w h =
    elim (settles w) [
      | inl t ↦ rw t.1 (stuffs (run-stuff w t.0))
      | inr t ↦ rw t.1 h
    ]
  where
    stuffs : run (not (front w) ∷ w) ≡ 1 → IsStuffed (not (front w) ∷ w)
    stuffs one = let short : run (not (front w) ∷ w) ≤ 5 = omega (arith, one) in record { short = short; none = HasNoSix-cons (not (front w)) w h.none short }

IsStuffed-put : (w : List Bool) (b : Bool) → IsStuffed w → IsStuffed (put w b)
IsStuffed-put w b h =
    let short = run-put w b h.short in
    record { short = short; none = HasNoSix-cons b (settle w) (IsStuffed-settle w h).none short }

IsStuffed-fold : (w bits : List Bool) → IsStuffed w → IsStuffed (fold put w bits)
IsStuffed-fold w [] h = h
IsStuffed-fold w (b ∷ bits) h = IsStuffed-fold (put w b) bits (IsStuffed-put w b h)

HasNoSix-reverse : (w : List Bool) → HasNoSix w → HasNoSix (reverse w)
HasNoSix-reverse w none before behind b e =
    none (reverse behind) (reverse before) b (turned w before behind b e)
  where
    turned : (w before behind : List Bool) (b : Bool) → reverse w ≡ before ++ replicate 6 b ++ behind → w ≡ reverse behind ++ replicate 6 b ++ reverse before
    turned w before behind b e =
        sym (reverse-reverse w) ∙ ap reverse e ∙ reverse-append (before ++ replicate 6 b) behind
        ∙ ap (λ xs. reverse behind ++ xs) (reverse-append before (replicate 6 b))
        ∙ sym (append_assoc (reverse behind) (replicate 6 b) (reverse before))

pub no-six-open : (bits : List Bool) → HasNoSix (stuff_open bits)
unfolding stuff_open
no-six-open bits = HasNoSix-reverse (fold put [] bits) (IsStuffed-fold [] bits IsStuffed-nil).none

pub no-six : (bits : List Bool) → HasNoSix (stuff bits)
unfolding stuff
no-six bits = HasNoSix-reverse (settle (fold put [] bits)) (IsStuffed-settle (fold put [] bits) (IsStuffed-fold [] bits IsStuffed-nil)).none

-- how long what is written can be
size-settle : (w : List Bool) → 4 * length (settle w) + run (settle w) ≡ 4 * length w + run w
size-settle w = elim (settles w) [ inl t ↦ rw (t.1, run-stuff w t.0) (omega (arith, t.0)) | inr t ↦ rw t.1 refl ]

size-put : (w : List Bool) (b : Bool) → 4 * length (put w b) + run (put w b) ≤ 4 * length w + run w + 5
size-put w b = let size = size-settle w in let one = run-cons b (settle w) in omega (arith, size, one)

size-fold : (w bits : List Bool) → 4 * length (fold put w bits) + run (fold put w bits) ≤ 4 * length w + run w + 5 * length bits
size-fold w [] = omega arith
size-fold w (b ∷ bits) = omega (arith, size-fold (put w b) bits, size-put w b)

grows-settle : (w : List Bool) → length w ≤ length (settle w)
grows-settle w = elim (settles w) [ inl t ↦ rw t.1 (omega arith) | inr t ↦ rw t.1 (omega arith) ]

grows-fold : (w bits : List Bool) → length w + length bits ≤ length (fold put w bits)
grows-fold w [] = omega arith
grows-fold w (b ∷ bits) = omega (arith, grows-fold (put w b) bits, grows-settle w)

above-fold : (w bits : List Bool) → 0 < run w → 0 < run (fold put w bits)
above-fold w [] h = h
above-fold w (b ∷ bits) h = above-fold (put w b) bits (run-above b (settle w))

above-settle : (w : List Bool) → 0 < run w → 0 < run (settle w)
above-settle w h = elim (settles w) [ inl t ↦ rw (t.1, run-stuff w t.0) (omega arith) | inr t ↦ rw t.1 h ]

-- so many bits are written of n bits, with a run of equal bits at the end
at-most : (count last n : ℕ) → 4 * count + last ≤ 5 * n → 0 < last → count ≤ n + (n - 1) / 4
at-most count last n h above = omega (arith, h, above)

most-open-written : (bits : List Bool) → length (fold put [] bits) ≤ length bits + (length bits - 1) / 4
most-open-written [] = omega arith
most-open-written (b ∷ bits) =
    let size = size-fold [] (b ∷ bits) in
    at-most (length (fold put [] (b ∷ bits))) (run (fold put [] (b ∷ bits))) (length (b ∷ bits)) (omega (arith, size)) (above-fold (put [] b) bits (run-above b []))

most-written : (bits : List Bool) → length (settle (fold put [] bits)) ≤ length bits + (length bits - 1) / 4
most-written [] = omega arith
most-written (b ∷ bits) =
    let w = fold put [] (b ∷ bits) in
    let size = size-fold [] (b ∷ bits) in
    let same = size-settle w in
    at-most (length (settle w)) (run (settle w)) (length (b ∷ bits)) (omega (arith, size, same))
    (above-settle w (above-fold (put [] b) bits (run-above b [])))

pub most-open : (bits : List Bool) → length (stuff_open bits) ≤ length bits + (length bits - 1) / 4
most-open bits = rw (length-stuff_open bits) (most-open-written bits)

pub most : (bits : List Bool) → length (stuff bits) ≤ length bits + (length bits - 1) / 4
most bits = rw (length-stuff bits) (most-written bits)

pub least-open : (bits : List Bool) → length bits ≤ length (stuff_open bits)
least-open bits = rw (length-stuff_open bits) (omega (arith, grows-fold [] bits))

pub least : (bits : List Bool) → length bits ≤ length (stuff bits)
least bits = rw (length-stuff bits) (omega (arith, grows-fold [] bits, grows-settle (fold put [] bits)))
