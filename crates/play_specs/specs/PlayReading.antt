-- What a file is read as: the play whose text it is, or the number of its first bad line. Nothing here reads: it says what was written.
use Rattle.std.specs.Prelude.{◌≡◌, ℕ, ◌+◌, List, [], ◌∷◌, ◌++◌, length, Result, Ok, Err}
use Rattle.play_specs.specs.Play.{Play, IsPlay}
use Rattle.play_specs.specs.PlayText.{text_lines, ended, play_text}

-- the text of some play begins with these lines
abbrev pub Begins : List (List ℕ) → Type 0
Begins lines = (p : Play) × IsPlay p × (rest : List (List ℕ)) × (text_lines p ≡ lines ++ rest)

-- Line n of a file, counted from 1, is its first bad line: the text of some play begins with the n - 1 lines in front of it, and
-- what follows them begins with no ended line with which that would still be so. Something follows, or the file is empty.
pub record IsFirstBadLine (bytes : List ℕ) (n : ℕ) : Type 0 where
  pub before : List (List ℕ)
  pub behind : List ℕ
  pub whole : bytes ≡ ended before ++ behind
  pub number : n ≡ length before + 1
  pub good : Begins before
  pub bad : (line rest : List ℕ) → behind ≡ line ++ 10 ∷ rest → ¬ Begins (before ++ line ∷ [])
  pub follows : behind ≡ [] → before ≡ []

abbrev pub IsReadAs : List ℕ → Result Play ℕ → Type 0
IsReadAs bytes (Ok p) = IsPlay p × (bytes ≡ play_text p)
IsReadAs bytes (Err n) = IsFirstBadLine bytes n

-- a reader that reads every file as what it is
abbrev pub IsExact : (List ℕ → Result Play ℕ) → Type 0
IsExact read = (bytes : List ℕ) → IsReadAs bytes (read bytes)
