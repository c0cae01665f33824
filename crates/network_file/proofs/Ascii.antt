-- A name is ASCII.
use Rattle.std.proofs.Common.{◌≡◌, ℕ, ◌<◌, true, List, [], ◌∷◌, length, All, arith}
use Rattle.std.proofs.lemmas.Bool.{and_parts}
use Rattle.std.proofs.lemmas.Bool.Decides.{nat_tests}
use Rattle.std.proofs.lemmas.List.Elements.{All-nil, All-cons}
use Rattle.std.specs.List.{list_all}
use Rattle.document_specs.specs.Documents.{is_within}
use Rattle.network_specs.specs.Buses.{is_name_byte, is_name}

name_byte : (b : ℕ) → is_name_byte b ≡ true → b < 128
name_byte b h = grind (arith, nat_tests)

name_bytes : (s : List ℕ) → list_all is_name_byte s ≡ true → All (λ b. b < 128) s
name_bytes [] h = All-nil (λ n. n < 128)
name_bytes (b ∷ s) h =
    let (here, more) = and_parts (is_name_byte b) (list_all is_name_byte s) h in
    All-cons (λ n. n < 128) b s (name_byte b here) (name_bytes s more)

pub name_is_ascii : (s : List ℕ) → is_name s ≡ true → All (λ b. b < 128) s
name_is_ascii s h = name_bytes s (and_parts (is_within 1 32 (length s)) (list_all is_name_byte s) h).1
