-- Names in ASCII.
use Rattle.std.proofs.Common.{◌≡◌, ◌<◌, ℕ, Bool, true, List, [], ◌∷◌, ◌&&◌, nat_lt}
use Rattle.std.specs.Prelude.{All}
use Rattle.std.specs.List.{AllByRecursion}
use Rattle.std.proofs.lemmas.Bool.{and_parts, ltb-true}
use Rattle.std.proofs.lemmas.List.Elements.{All-from_recursion}

abbrev is_ascii : List ℕ → Bool
is_ascii [] = true
is_ascii (b ∷ bs) = nat_lt b 128 && is_ascii bs

each : (bs : List ℕ) → is_ascii bs ≡ true → AllByRecursion (λ b. b < 128) bs
each [] e = tt
each (b ∷ bs) e = let both = and_parts (nat_lt b 128) (is_ascii bs) e in (ltb-true b 128 both.0, each bs both.1)

pub ascii : (bs : List ℕ) → is_ascii bs ≡ true → All (λ b. b < 128) bs
ascii bs e = All-from_recursion (λ b. b < 128) bs (each bs e)
