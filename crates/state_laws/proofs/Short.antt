-- A frame is short: it has less than 2,000 bits on the wire, and lasts as many bits at most.
use Rattle.std.proofs.Common.{◌≡◌, ◌≤◌, ◌<◌, ℕ, zero, suc, ◌+◌, ◌*◌, ◌-◌, ◌^◌, ◌==◌, ◌⊎◌, Bool, true, false, not, if◌then◌else◌, List, []}
use Rattle.std.proofs.Common.{◌∷◌, ◌++◌, fold, length, replicate, All, arith, refl, inl, inr}
use Rattle.std.specs.Prelude.{◌&&◌, nat_le, sum}
use Rattle.std.specs.List.{list_any}
use Rattle.std.proofs.lemmas.Bool.{and_parts, or_cases, eqb-true, leb-true}
use Rattle.std.proofs.lemmas.List.{length-append, length-replicate, length-reverse}
use Rattle.std.proofs.lemmas.List.Elements.{All-append, All-replicate}
use Rattle.std.proofs.lemmas.List.Sums.{sum_by-le, sum_by-take-le}
use Rattle.frame_specs.specs.Bits.{number_bits, bytes_bits}
use Rattle.frame_specs.specs.Frame.{Frame, Kind, Data, Remote, Fd, lengths, identifier_fits, remote_fits, length_fits, is_well_formed}
use Rattle.frame_specs.specs.Wire.{run, front, settle, put, stuff, stuff_open, remote_bit, arbitration_field, arbitration_bits, format_bits}
use Rattle.frame_specs.specs.Wire.{error_state, dlc, head, raw, crc, stuffed_as, stuffed, field_bits, body_bits, tail_bits, wire_bits}
use Rattle.frame_specs.specs.Wire.{spread, body_times, times, time_of, duration}

-- ---- what a well-formed frame has

abbrev all_under : List ℕ → Bool
all_under [] = true
all_under (x ∷ xs) = nat_le x 64 && all_under xs

under : (xs : List ℕ) (n : ℕ) → all_under xs ≡ true → list_any (λ l. l == n) xs ≡ true → n ≤ 64
under [] n h e = absurd cc
under (x ∷ xs) n h e = go (or_cases (x == n) (list_any (λ l. l == n) xs) e) (λ q. under xs n (and_parts (nat_le x 64) (all_under xs) h).1 q)
  where
    go : ((x == n) ≡ true) ⊎ (list_any (λ l. l == n) xs ≡ true) → (list_any (λ l. l == n) xs ≡ true → n ≤ 64) → n ≤ 64
    go (inl q) on = let l = leb-true x 64 (and_parts (nat_le x 64) (all_under xs) h).0 in let s = eqb-true x n q in omega (arith, l, s)
    go (inr q) on = on q

bytes-few : (f : Frame) → is_well_formed f ≡ true → length f.bytes ≤ 64
bytes-few f h =
    by f.kind (and_parts (identifier_fits f.ext f.id && remote_fits f.kind (length f.bytes)) (length_fits f.kind (length f.bytes)) h).1
  where
    by : (k : Kind) → length_fits k (length f.bytes) ≡ true → length f.bytes ≤ 64
    by Data e = let l = leb-true (length f.bytes) 8 e in omega (arith, l)
    by Remote e = let l = leb-true (length f.bytes) 8 e in omega (arith, l)
    by (Fd brs esi) e = under lengths (length f.bytes) refl e

pub identifier-low : (f : Frame) → is_well_formed f ≡ true → f.id < 2 ^ 29
identifier-low f h = by f.ext (and_parts (identifier_fits f.ext f.id) (remote_fits f.kind (length f.bytes))
    (and_parts (identifier_fits f.ext f.id && remote_fits f.kind (length f.bytes)) (length_fits f.kind (length f.bytes)) h).0).0
  where
    by : (ext : Bool) → identifier_fits ext f.id ≡ true → f.id < 2 ^ 29
    by false e = let l = leb-true f.id 0x7ff e in omega (arith, l)
    by true e = let l = leb-true f.id 0x1fffffff e in omega (arith, l)

-- ---- bits

settle-short : (w : List Bool) → length (settle w) ≤ length w + 1
settle-short w = go (run w == 5)
  where
    go : (q : Bool) → length (if q then not (front w) ∷ w else w) ≤ length w + 1
    go true = omega arith
    go false = omega arith

fold-short : (w bits : List Bool) → length (fold put w bits) ≤ length w + 2 * length bits
fold-short w [] = omega arith
fold-short w (b ∷ bits) = let s = settle-short w in let r = fold-short (put w b) bits in omega (arith, s, r)

open-short : (bits : List Bool) → length (stuff_open bits) ≤ 2 * length bits
unfolding stuff_open
open-short bits = let r = length-reverse (fold put [] bits) in let s = fold-short [] bits in omega (arith, r, s)

shut-short : (bits : List Bool) → length (stuff bits) ≤ 2 * length bits + 1
unfolding stuff
shut-short bits = let r = length-reverse (settle (fold put [] bits)) in let q = settle-short (fold put [] bits) in
    let s = fold-short [] bits in omega (arith, r, q, s)

length-number_bits : (k v : ℕ) → length (number_bits k v) ≡ k
length-number_bits zero v = refl
length-number_bits (suc k) v = let r = length-number_bits k v in omega (arith, r)

length-bytes_bits : (bytes : List ℕ) → length (bytes_bits bytes) ≡ 8 * length bytes
length-bytes_bits [] = refl
length-bytes_bits (x ∷ xs) = let a = length-append (number_bits 8 x) (bytes_bits xs) in let n = length-number_bits 8 x in
    let r = length-bytes_bits xs in omega (arith, a, n, r)

arbitration-short : (ext : Bool) (id : ℕ) (r : Bool) → length (arbitration_field ext id r) ≤ 32
arbitration-short false id r = omega arith
arbitration-short true id r = omega arith

format-short : (k : Kind) (ext : Bool) → length (format_bits k ext) ≤ 3
format-short (Fd brs esi) ext = omega arith
format-short Data false = omega arith
format-short Data true = omega arith
format-short Remote false = omega arith
format-short Remote true = omega arith

error_state-short : (k : Kind) → length (error_state k) ≤ 1
error_state-short (Fd brs esi) = omega arith
error_state-short Data = omega arith
error_state-short Remote = omega arith

head-short : (f : Frame) → length (head f) ≤ 36
head-short f =
    let a = length-append (arbitration_bits f) (format_bits f.kind f.ext) in
    let b = arbitration-short f.ext f.id (remote_bit f.kind) in
    let c = format-short f.kind f.ext in
    omega (arith, a, b, c)

four : (a b c d : List Bool) → length (a ++ b ++ c ++ d) ≡ length a + length b + length c + length d
four a b c d =
    let x = length-append (a ++ b ++ c) d in
    let y = length-append (a ++ b) c in
    let z = length-append a b in
    omega (arith, x, y, z)

raw-short : (f : Frame) → is_well_formed f ≡ true → length (raw f) ≤ 553
raw-short f h =
    let l = four (head f) (error_state f.kind) (number_bits 4 (dlc f)) (bytes_bits f.bytes) in
    let a = head-short f in
    let b = error_state-short f.kind in
    let c = length-number_bits 4 (dlc f) in
    let d = length-bytes_bits f.bytes in
    let e = bytes-few f h in
    omega (arith, l, a, b, c, d, e)

stuffed_as-short : (k : Kind) (bits : List Bool) → length bits ≤ 553 → length (stuffed_as k bits) ≤ 1137
stuffed_as-short (Fd brs esi) bits h = let s = open-short bits in omega (arith, h, s)
stuffed_as-short Data bits h = with_crc bits h
  where
    with_crc : (bits : List Bool) → length bits ≤ 553 → length (stuff (bits ++ number_bits 15 (crc bits))) ≤ 1137
    with_crc bits h =
        let s = shut-short (bits ++ number_bits 15 (crc bits)) in
        let a = length-append bits (number_bits 15 (crc bits)) in
        let n = length-number_bits 15 (crc bits) in
        omega (arith, h, s, a, n)
stuffed_as-short Remote bits h =
    let s = shut-short (bits ++ number_bits 15 (crc bits)) in
    let a = length-append bits (number_bits 15 (crc bits)) in
    let n = length-number_bits 15 (crc bits) in
    omega (arith, h, s, a, n)

field-short : (k : Kind) (size : ℕ) → field_bits k size ≤ 32
field-short (Fd brs esi) size = go (nat_le size 16)
  where
    go : (q : Bool) → (if q then 27 else 32) ≤ 32
    go true = omega arith
    go false = omega arith
field-short Data size = omega arith
field-short Remote size = omega arith

body-short : (f : Frame) → is_well_formed f ≡ true → body_bits f ≤ 1169
unfolding stuffed
body-short f h = let s = stuffed_as-short f.kind (raw f) (raw-short f h) in let e = field-short f.kind (length f.bytes) in
    omega (arith, s, e)

pub wire-short : (f : Frame) → is_well_formed f ≡ true → wire_bits f < 2000
wire-short f h = let b = body-short f h in omega (arith, b)

-- ---- times

length-spread : (slow bits n d : ℕ) → length (spread slow bits n d) ≤ slow + bits
length-spread slow bits n d =
    let a = length-append (replicate slow n) (replicate (bits - slow) d) in
    let x = length-replicate slow n in
    let y = length-replicate (bits - slow) d in
    omega (arith, a, x, y)

body_times-short : (k : Kind) (f : Frame) (n d : ℕ) → is_well_formed f ≡ true → length (body_times k f n d) ≤ 1300
body_times-short (Fd true esi) f n d h =
    let l = length-spread (length (stuff_open (head f))) (body_bits f) n d in
    let b = body-short f h in
    let s = open-short (head f) in
    let e = head-short f in
    omega (arith, l, b, s, e)
body_times-short (Fd false esi) f n d h = let l = length-replicate (body_bits f) n in let b = body-short f h in omega (arith, l, b)
body_times-short Data f n d h = let l = length-replicate (body_bits f) n in let b = body-short f h in omega (arith, l, b)
body_times-short Remote f n d h = let l = length-replicate (body_bits f) n in let b = body-short f h in omega (arith, l, b)

times-short : (f : Frame) (n d : ℕ) → is_well_formed f ≡ true → length (times f n d) ≤ 1310
times-short f n d h =
    let a = length-append (body_times f.kind f n d) (replicate tail_bits n) in
    let x = body_times-short f.kind f n d h in
    let y = length-replicate tail_bits n in
    omega (arith, a, x, y)

module _ (bit n d : ℕ) (slow : n ≤ bit) (fast : d ≤ bit) where
  body_times-low : (k : Kind) (f : Frame) → All (λ x. x ≤ bit) (body_times k f n d)
  body_times-low (Fd true esi) f = let s = length (stuff_open (head f)) in
      All-append (λ x. x ≤ bit) (replicate s n) (replicate (body_bits f - s) d)
      (All-replicate (λ x. x ≤ bit) s n slow) (All-replicate (λ x. x ≤ bit) (body_bits f - s) d fast)
  body_times-low (Fd false esi) f = All-replicate (λ x. x ≤ bit) (body_bits f) n slow
  body_times-low Data f = All-replicate (λ x. x ≤ bit) (body_bits f) n slow
  body_times-low Remote f = All-replicate (λ x. x ≤ bit) (body_bits f) n slow

  times-low : (f : Frame) → All (λ x. x ≤ bit) (times f n d)
  times-low f =
      All-append (λ x. x ≤ bit) (body_times f.kind f n d) (replicate tail_bits n) (body_times-low f.kind f)
      (All-replicate (λ x. x ≤ bit) tail_bits n slow)

  more : (k m : ℕ) → k ≤ m → k * bit ≤ m * bit
  more zero m le = omega arith
  more (suc k) zero le = absurd (omega (arith, le))
  more (suc k) (suc m) le = let r = more k m (omega (arith, le)) in omega (arith, r)

  sum-short : (f : Frame) → is_well_formed f ≡ true → sum (times f n d) ≤ 1310 * bit
  sum-short f h =
      let s = sum_by-le (λ x. x) bit (times f n d) (times-low f) in
      let m = more (length (times f n d)) 1310 (times-short f n d h) in
      omega (arith, s, m)

  pub duration-short : (f : Frame) → is_well_formed f ≡ true → duration f n d ≤ 1310 * bit
  unfolding duration
  duration-short f h = sum-short f h

  pub time_of-short : (f : Frame) (k : ℕ) → is_well_formed f ≡ true → time_of f k n d ≤ 1310 * bit
  unfolding time_of
  time_of-short f k h = let t = sum_by-take-le (λ x. x) (times f n d) (k + 1) in let s = sum-short f h in omega (arith, t, s)
