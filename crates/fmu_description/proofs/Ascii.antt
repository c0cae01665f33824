-- An identifier is ASCII.
use Rattle.std.proofs.Common.{◌≡◌, ℕ, ◌<◌, true, List, [], ◌∷◌, length, All, arith}
use Rattle.std.proofs.lemmas.Bool.{and_parts}
use Rattle.std.proofs.lemmas.Bool.Decides.{nat_tests}
use Rattle.std.proofs.lemmas.List.Elements.{All-nil, All-cons}
use Rattle.std.specs.List.{list_all}
use Rattle.document_specs.specs.Documents.{is_word_byte, is_identifier, is_within}

word_byte : (b : ℕ) → is_word_byte b ≡ true → b < 128
word_byte b h = grind (arith, nat_tests)

word_bytes : (s : List ℕ) → list_all is_word_byte s ≡ true → All (λ b. b < 128) s
word_bytes [] h = All-nil (λ n. n < 128)
word_bytes (b ∷ s) h =
    let (here, more) = and_parts (is_word_byte b) (list_all is_word_byte s) h in
    All-cons (λ n. n < 128) b s (word_byte b here) (word_bytes s more)

pub identifier_is_ascii : (s : List ℕ) → is_identifier s ≡ true → All (λ b. b < 128) s
identifier_is_ascii s h = word_bytes s (and_parts (is_within 1 64 (length s)) (list_all is_word_byte s) h).1
