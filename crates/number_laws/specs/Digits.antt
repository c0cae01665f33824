-- Binary digits by halving.
use Rattle.std.specs.Prelude.{ℕ, zero, suc, ◌+◌, ◌/◌, ◌%◌}

-- the sum of so many digits, the lowest first
abbrev pub digit_sum : ℕ → ℕ → ℕ
digit_sum zero i = 0
digit_sum (suc n) i = i % 2 + digit_sum n (i / 2)
