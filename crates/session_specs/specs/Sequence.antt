-- How pieces of a session follow each other. A piece comes to a value, or to the cause that takes the unit down,
-- and leaves the unit in a state.
use Rattle.std.specs.Prelude.{ℕ, ◌+◌, List, [], ◌∷◌, Result, Ok, Err}
use Rattle.log_specs.specs.Line.{Cause}

abbrev pub continue_with : {S A B : Type 0} → Result A Cause → S
    → (A → S → Result B Cause × S) → Result B Cause × S
continue_with (Ok x) s next = next x s
continue_with (Err why) s next = (Err why, s)

-- One piece, and behind it the next, which gets what the first came to. Where the unit is down nothing follows.
infixl 10 ◌>>=◌
abbrev pub ◌>>=◌ : {S A B : Type 0} → (Result A Cause × S)
    → (A → S → Result B Cause × S) → Result B Cause × S
piece >>= next = continue_with piece.0 piece.1 next

-- a piece for each of a list in order, with its number; what one comes to goes on to the next
abbrev pub in_order : {S A B : Type 0} → (ℕ → A → B → S → Result B Cause × S)
    → ℕ → List A → B → S → Result B Cause × S
in_order piece n [] x s = (Ok x, s)
in_order piece n (first ∷ others) x s = piece n first x s >>= in_order piece (n + 1) others
