-- Texts cut at a separator, and the words of a line. No public clause cites this module.
use Rattle.std.specs.Prelude.{◌≡◌, ◌≢◌, ℕ, ◌+◌, List, [], ◌∷◌, length}
use Rattle.plain_text.specs.Parts.{parts}
use Rattle.play_file.specs.declared.text.Words.{Words}
use Rattle.play_file.specs.declared.text.Words.TheVariants.{Three, Four, Six, Other}

-- a number of words that no line has
pub record IsOther (words : List (List ℕ)) : Type 0 where
  pub not_three : length words ≢ 3
  pub not_four : length words ≢ 4
  pub not_six : length words ≢ 6

abbrev pub AreWords : Words → List (List ℕ) → Type 0
AreWords (Three a b c) words = words ≡ a.now ∷ b.now ∷ c.now ∷ []
AreWords (Four a b c d) words = words ≡ a.now ∷ b.now ∷ c.now ∷ d.now ∷ []
AreWords (Six a b c d e f) words = words ≡ a.now ∷ b.now ∷ c.now ∷ d.now ∷ e.now ∷ f.now ∷ []
AreWords Other words = IsOther words
