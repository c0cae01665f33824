use Rattle.std.proofs.Common.{◌≡◌, ◌<◌, ◌^◌, drop}
use Rattle.frame_specs.specs.FrameReading.{number_from}
use Rattle.can_frame.proofs.reading.number.Given as goal

-- The number so far and the digits that are left are the whole.
abbrev pub invariant-loop-byte : goal.invariant-loop-byte
invariant-loop-byte l =
    record { whole : number_from l.value (drop l.byte-index l.digits) ≡ number_from 0 l.digits; small : l.value < 16 ^ l.byte-index }
