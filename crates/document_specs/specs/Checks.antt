-- Checks in an order: each gives a value or is refused, and the first refusal is the answer.
use Rattle.std.specs.Prelude.{Bool, true, false, List, [], ◌∷◌, ◌++◌, Option, Some, None, Result, Ok, Err}

infixl 10 ◌>>=◌
abbrev pub ◌>>=◌ : {E A B : Type 0} → Result A E → (A → Result B E) → Result B E
(Ok x) >>= f = f x
(Err e) >>= f = Err e

-- the value, or this refusal where there is none
abbrev pub needs : {E A : Type 0} → E → Option A → Result A E
needs e (Some x) = Ok x
needs e None = Err e

-- that a test holds, or this refusal
abbrev pub needs_that : {E : Type 0} → E → Bool → Result (Unit {0}) E
needs_that e true = Ok tt
needs_that e false = Err e

-- The values of the rows of an array, in their order. Each row is read with the values of those before it.
abbrev pub each : {E T A : Type 0} → (List A → T → Result A E) → List A → List T → Result (List A) E
each read before [] = Ok before
each read before (row ∷ rows) = read before row >>= λ x. each read (before ++ x ∷ []) rows
