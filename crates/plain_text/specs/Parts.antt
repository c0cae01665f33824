-- The parts of a text between separators.
use Rattle.std.specs.Prelude.{◌≡◌, ℕ, ◌+◌, ◌==◌, List, [], ◌∷◌, length, if◌then◌else◌}

-- one more byte in front of the first part
abbrev pub with_front : ℕ → List (List ℕ) → List (List ℕ)
with_front b [] = (b ∷ []) ∷ []
with_front b (part ∷ parts) = (b ∷ part) ∷ parts

-- the parts between the separators, one more than there are separators
abbrev pub parts : ℕ → List ℕ → List (List ℕ)
parts separator [] = [] ∷ []
parts separator (b ∷ bs) = if b == separator then [] ∷ parts separator bs else with_front b (parts separator bs)

-- the words of a line, which are separated by one space
abbrev pub words_of : List ℕ → List (List ℕ)
words_of line = parts 32 line

-- the first part of a text, and what stands behind its separator
pub record IsCut (separator : ℕ) (text front rest : List ℕ) : Type 0 where
  pub parts_are : parts separator text ≡ front ∷ parts separator rest
  pub shorter : length front + length rest + 1 ≡ length text
