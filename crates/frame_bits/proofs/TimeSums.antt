-- Sums of the times of a frame's bits.
use Rattle.std.proofs.Common.{◌≡◌, ◌≤◌, ◌-◌, ◌+◌, ◌*◌, ℕ, zero, suc, true, false, min, List, [], ◌∷◌, ◌++◌, refl, ap, ◌∙◌, arith, length, take, replicate, sum}
use Rattle.std.proofs.lemmas.List.{append-nil, length-append, length-replicate, take_all}
use Rattle.std.proofs.lemmas.List.Sums.{sum_by-append, sum_by-cons, sum_by-take-le}
use Rattle.frame_specs.specs.Frame.{Frame, Kind, Data, Remote, Fd}
use Rattle.frame_specs.specs.Wire.{body_bits, body_times, times, spread, tail_bits, time_of, duration}
use Rattle.frame_bits.specs.Timing.{slow_bits, slow_bits_as}

take-append : (k : ℕ) (xs ys : List ℕ) → take k (xs ++ ys) ≡ take k xs ++ take (k - length xs) ys
take-append zero [] ys = refl
take-append (suc k) [] ys = let e : suc k - 0 ≡ suc k = omega arith in rw e refl
take-append zero (x ∷ xs) ys = let e : 0 - suc (length xs) ≡ 0 = omega arith in rw e refl
take-append (suc k) (x ∷ xs) ys = let e : suc k - suc (length xs) ≡ k - length xs = omega arith in rw (e, take-append k xs ys) refl

sum-append : (xs ys : List ℕ) → sum (xs ++ ys) ≡ sum xs + sum ys
sum-append xs ys = sum_by-append (λ x. x) xs ys

sum-take-replicate : (k m x : ℕ) → sum (take k (replicate m x)) ≡ min k m * x
sum-take-replicate zero m x = let e : min 0 m ≡ 0 = omega arith in rw e (omega arith)
sum-take-replicate (suc k) zero x = let e : min (suc k) 0 ≡ 0 = omega arith in rw e (omega arith)
sum-take-replicate (suc k) (suc m) x =
    let e : min (suc k) (suc m) ≡ 1 + min k m = omega arith in
    rw (sum_by-cons (λ y. y) x (take k (replicate m x)), sum-take-replicate k m x, e) (omega arith)

-- the times of the first k bits
pub sum-first : (k s b t n d : ℕ) → s ≤ b → k ≤ b + t
    → sum (take k (spread s b n d ++ replicate t n)) ≡ (min k s + (k - min k b)) * n + (min k b - min k s) * d
sum-first k s b t n d order room =
    let slow : length (replicate s n) ≡ s = length-replicate s n in
    let long : length (spread s b n d) ≡ b = length-append (replicate s n) (replicate (b - s) d) ∙ (rw (length-replicate s n, length-replicate (b - s) d) (omega arith)) in
    let fast : min (k - s) (b - s) ≡ min k b - min k s = omega arith in
    let tail : min (k - b) t ≡ k - min k b = omega arith in
    rw (
      take-append k (spread s b n d) (replicate t n),
      long,
      sum-append (take k (spread s b n d)) (take (k - b) (replicate t n)),
      sum-take-replicate (k - b) t n,
      tail,
      take-append k (replicate s n) (replicate (b - s) d),
      slow,
      sum-append (take k (replicate s n)) (take (k - s) (replicate (b - s) d)),
      sum-take-replicate k s n,
      sum-take-replicate (k - s) (b - s) d,
      fast,
    )
    (omega arith)

-- with no fast bits
all-slow : (bits n d : ℕ) → spread bits bits n d ≡ replicate bits n
all-slow bits n d = let none : bits - bits ≡ 0 = omega arith in rw none (append-nil (replicate bits n))

body_times-spread : (kind : Kind) (f : Frame) (n d : ℕ) → spread (slow_bits_as kind f) (body_bits f) n d ≡ body_times kind f n d
body_times-spread (Fd true esi) f n d = refl
body_times-spread (Fd false esi) f n d = all-slow (body_bits f) n d
body_times-spread Data f n d = all-slow (body_bits f) n d
body_times-spread Remote f n d = all-slow (body_bits f) n d

times-spread : (f : Frame) (n d s b : ℕ) → s ≡ slow_bits f → b ≡ body_bits f → spread s b n d ++ replicate tail_bits n ≡ times f n d
times-spread f n d s b slow body = ap (λ xs. xs ++ replicate tail_bits n) (rw (slow, body) (body_times-spread f.kind f n d))

-- the first bits of a frame that is laid out so
pub time_of-spread : (f : Frame) (k n d s b : ℕ) → s ≡ slow_bits f → b ≡ body_bits f
    → sum (take (k + 1) (spread s b n d ++ replicate tail_bits n)) ≡ time_of f k n d
unfolding time_of
time_of-spread f k n d s b slow body = ap (λ xs. sum (take (k + 1) xs)) (times-spread f n d s b slow body)

length-spread : (s b n d : ℕ) → s ≤ b → length (spread s b n d ++ replicate tail_bits n) ≡ b + tail_bits
length-spread s b n d order =
    length-append (spread s b n d) (replicate tail_bits n)
    ∙ (rw (length-append (replicate s n) (replicate (b - s) d), length-replicate s n, length-replicate (b - s) d, length-replicate tail_bits n) (omega arith))

-- all bits of it
pub duration-spread : (f : Frame) (n d s b : ℕ) → s ≡ slow_bits f → b ≡ body_bits f → s ≤ b
    → sum (take (b + tail_bits) (spread s b n d ++ replicate tail_bits n)) ≡ duration f n d
unfolding duration
duration-spread f n d s b slow body order =
    let all : length (spread s b n d ++ replicate tail_bits n) ≤ b + tail_bits = omega (arith, length-spread s b n d order) in
    ap sum (take_all (b + tail_bits) (spread s b n d ++ replicate tail_bits n) all ∙ times-spread f n d s b slow body)

pub time_of-le : (f : Frame) (k n d : ℕ) → time_of f k n d ≤ duration f n d
unfolding time_of duration
time_of-le f k n d = sum_by-take-le (λ x. x) (times f n d) (k + 1)
