-- What is read as a play has no bad line.
use Rattle.std.proofs.Common.{◌≡◌, ℕ, List}
use Rattle.std.specs.Prelude.{Result, Ok, Err}
use Rattle.play_specs.specs.Play.{Play}
use Rattle.play_specs.specs.PlayReading.{IsFirstBadLine}
use Rattle.play_file.specs.Answers.{Answers}
use Rattle.play_file.specs.declared.error.PlayError.{PlayError}

pub not_refused : (bytes : List ℕ) (result : Result Play PlayError) (p : Play) (line : ℕ)
    → ((n : ℕ) → IsFirstBadLine bytes n → Answers result (Err n)) → result ≡ Ok p → IsFirstBadLine bytes line → ⊥
not_refused bytes result p line refused is first = wrong (refused line first)
  where
    wrong : Answers result (Err line) → ⊥
    wrong h = let same : Answers (Ok p) (Err line) = rw is at h in absurd cc
