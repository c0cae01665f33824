-- The hexadecimal digits that no text here has.
use Rattle.std.specs.Prelude.{ℕ, Bool, nat_le, ◌&&◌}

-- whether a byte is one of the digits A to F
abbrev pub is_upper : ℕ → Bool
is_upper c = nat_le 65 c && nat_le c 70
