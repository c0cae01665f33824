use Rattle.std.proofs.Common.{◌≡◌, ◌≤◌, drop}
use Rattle.std.specs.Prelude.{option_and_then}
use Rattle.plain_text.specs.Decimal.{digits_value, within}
use Rattle.plain_text.proofs.numbers.digits.Given as goal

-- The number so far and the digits that are left are the whole.
abbrev pub invariant-loop-byte : goal.invariant-loop-byte
invariant-loop-byte l =
    record { whole : option_and_then (within l.low l.high) (digits_value l.value (drop l.byte-index l.text)) ≡ option_and_then (within l.low l.high) (digits_value 0 l.text); small : l.value ≤ l.high }
