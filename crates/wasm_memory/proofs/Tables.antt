-- Tables of a pool after one of them has changed, or one more was added.
use Rattle.std.proofs.Common.{◌≡◌, ◌≢◌, ℕ, zero, suc, ◌<◌, List, [], ◌∷◌, ◌++◌, Some, length, refl, ap, arith}
use Rattle.std.specs.Prelude.{slice_get, slice_set}

pub changed : {A : Type 0} (xs : List A) (t : ℕ) (x : A) → t < length xs → slice_get (slice_set xs t x) t ≡ Some x
changed [] t x lt = absurd (omega (arith, lt))
changed (y ∷ ys) zero x lt = refl
changed (y ∷ ys) (suc t) x lt = changed ys t x (omega (arith, lt))

pub others : {A : Type 0} (xs : List A) (t : ℕ) (x : A) (u : ℕ) → u ≢ t → slice_get (slice_set xs t x) u ≡ slice_get xs u
others [] t x u other = refl
others (y ∷ ys) zero x zero other = absurd (other refl)
others (y ∷ ys) zero x (suc u) other = refl
others (y ∷ ys) (suc t) x zero other = refl
others (y ∷ ys) (suc t) x (suc u) other = others ys t x u (λ e. other (ap suc e))

pub added : {A : Type 0} (xs : List A) (x : A) → slice_get (xs ++ x ∷ []) (length xs) ≡ Some x
added [] x = refl
added (y ∷ ys) x = added ys x

pub before : {A : Type 0} (xs : List A) (x : A) (u : ℕ) → u ≢ length xs → slice_get (xs ++ x ∷ []) u ≡ slice_get xs u
before [] x zero other = absurd (other refl)
before [] x (suc u) other = refl
before (y ∷ ys) x zero other = refl
before (y ∷ ys) x (suc u) other = before ys x u (λ e. other (ap suc e))
