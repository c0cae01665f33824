-- Numbers in a row of bytes. No public clause cites this module.
use Rattle.std.specs.Prelude.{ℕ, ◌+◌, List, slice_range}
use Rattle.code_specs.specs.Stores.{number_of_bytes}

-- the number that so many bytes from a place on are
abbrev pub number_at : List ℕ → (place count : ℕ) → ℕ
number_at bytes place count = number_of_bytes (slice_range bytes place (place + count))
