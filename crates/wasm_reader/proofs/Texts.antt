-- Bytes that are tested for UTF-8.
use Rattle.std.proofs.Common.{◌≡◌, ℕ, Bool, true, false, List, refl, sym, IsUtf8}
use Rattle.std.specs.Str.{is_utf8}
use Rattle.std.proofs.lemmas.Str.{IsUtf8-from_is_utf8, is_utf8-from_IsUtf8}

pub tested_ok : (bs : List ℕ) → IsUtf8 bs → true ≡ is_utf8 bs
tested_ok bs u = sym (is_utf8-from_IsUtf8 bs u)

pub tested_err : (bs : List ℕ) → ¬ (IsUtf8 bs) → false ≡ is_utf8 bs
tested_err bs not_text = by_test (is_utf8 bs) (λ e. not_text (IsUtf8-from_is_utf8 bs e))
  where
    by_test : (t : Bool) → (t ≡ true → ⊥) → false ≡ t
    by_test true f = absurd (f refl)
    by_test false f = refl
