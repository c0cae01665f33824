-- A name of ASCII bytes is a text.
use Rattle.std.proofs.Common.{◌<◌, ℕ, List, All, refl}
use Rattle.std.specs.Prelude.{Result, Ok, Err}
use Rattle.std.specs.Result.{IsOk, MatchResult}
use Rattle.std.specs.Str.{IsUtf8}
use Rattle.std.proofs.lemmas.Str.{IsUtf8-from_ascii}
use Rattle.std.proofs.lemmas.Str.Ascii.{IsAscii-from_all}

pub is_text : {T E : Type 0} (bytes : List ℕ) (r : Result T E) (A : T → Type 0) (B : E → Type 0) → All (λ b. b < 128) bytes → MatchResult r (λ s. A s × IsUtf8 bytes) (λ e. ¬ (IsUtf8 bytes) × B e) → IsOk r
is_text bytes (Ok s) A B ascii h = refl
is_text bytes (Err e) A B ascii h = absurd (h.0 (IsUtf8-from_ascii bytes (IsAscii-from_all bytes ascii)))
