-- Lines of too many words.
use Rattle.std.proofs.Common.{◌≡◌, ℕ, ◌+◌, ◌==◌, Bool, true, false, List, [], ◌∷◌, length, Option, Some, None, ◌≤◌, refl, sym, ap, subst, ◌∙◌, arith}
use Rattle.std.specs.Prelude.{if◌then◌else◌}
use Rattle.plain_text.specs.Parts.{parts, with_front}
use Rattle.play_file.specs.Parts.{IsOther}

pub too_many : (words rest : List (List ℕ)) (a b c d e f : List ℕ) → words ≡ a ∷ b ∷ c ∷ d ∷ e ∷ f ∷ rest → 1 ≤ length rest → IsOther words
too_many words rest a b c d e f all more =
    let n : length words ≡ length rest + 6 = ap length all ∙ omega arith in
    record { not_three = λ h. omega arith; not_four = λ h. omega arith; not_six = λ h. omega arith }
