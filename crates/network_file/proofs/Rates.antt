-- Whether a bit lasts a whole number of ticks.
use Rattle.std.proofs.Common.{◌≡◌, ℕ, ◌%◌, true, false, arith}
use Rattle.std.proofs.lemmas.Bool.Decides.{nat_tests}
use Rattle.network_specs.specs.Buses.{divides}

pub is_divided : (resolution bits : ℕ) → resolution % bits ≡ 0 → divides resolution bits ≡ true
is_divided resolution bits h = grind (arith, nat_tests)

pub is_not_divided : (resolution bits : ℕ) → (resolution % bits ≡ 0 → ⊥) → divides resolution bits ≡ false
is_not_divided resolution bits h = grind (arith, nat_tests)
