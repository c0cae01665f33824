-- A sink in memory, and what its calls do to it.
-- No clause of `Sink` cites this.
use Rattle.std.specs.Prelude.{◌≡◌, ◌==◌, ◌+◌, ℕ, Bool, false, ◌&&◌, List, [], ◌∷◌, ◌++◌, refl}
use Rattle.std.specs.Prelude.{Option, Some, None, if◌then◌else◌, is_none, nat_le, take, length}
use Rattle.std.specs.Option.{option_map_or}
use Rattle.bench_outside.specs.Causes.{next_count}

-- What was written, the room for it in bytes, how many writes were made, and how many failed.
-- A write that is to fail stands by its number, from 1, with how many of its bytes are kept.
pub record MemSink : Type 0 where
  pub bytes : List ℕ
  pub room : ℕ
  pub made : ℕ
  pub failing : List (ℕ × ℕ)
  pub faults : ℕ

abbrev pub empty_sink : ℕ → MemSink
empty_sink room = record { bytes = []; room = room; made = 0; failing = []; faults = 0 }

-- this sink, and the write of this number is to fail too
abbrev pub with_failing : MemSink → ℕ → ℕ → MemSink
with_failing sink n kept = record sink { failing = sink.failing ++ (n, kept) ∷ [] }

-- How many bytes are kept of the write of this number, if it is to fail.
-- Where a number was added twice, the first time counts.
abbrev pub kept_at : List (ℕ × ℕ) → ℕ → Option ℕ
kept_at [] n = None
kept_at (entry ∷ entries) n = if entry.0 == n then Some entry.1 else kept_at entries n

abbrev pub kept_next : MemSink → Option ℕ
kept_next sink = kept_at sink.failing (next_count sink.made)

-- the first bytes of a piece that are kept, or all
abbrev pub kept_part : Option ℕ → List ℕ → List ℕ
kept_part kept bytes = option_map_or (λ n. take n bytes) kept bytes

-- what the next write is to append
abbrev pub part_of : MemSink → List ℕ → List ℕ
part_of sink bytes = kept_part (kept_next sink) bytes

-- there is room for these bytes behind what was written
abbrev pub has_room : MemSink → List ℕ → Bool
has_room sink bytes = nat_le (length sink.bytes + length bytes) sink.room

-- the next write of these bytes succeeds: it isn't to fail, and they fit
abbrev pub succeeds : MemSink → List ℕ → Bool
succeeds sink bytes = is_none (kept_next sink) && has_room sink bytes

-- After a write of these bytes. Where what it is to append doesn't fit, nothing is appended.
abbrev pub after_write : MemSink → List ℕ → MemSink
after_write sink bytes =
    let part = part_of sink bytes in
    record sink {
      bytes = if has_room sink part then sink.bytes ++ part else sink.bytes;
      made = next_count sink.made;
      faults = if succeeds sink bytes then sink.faults else next_count sink.faults;
    }

-- the second write is to fail after one byte
abbrev failing_sink : MemSink
failing_sink = with_failing (empty_sink 4) 2 1

abbrev after_two : MemSink
after_two = after_write (after_write failing_sink (7 ∷ 8 ∷ [])) (9 ∷ 10 ∷ [])

two_writes : after_two.bytes ≡ 7 ∷ 8 ∷ 9 ∷ []
two_writes = refl

one_fault : after_two.faults ≡ 1
one_fault = refl

second_fails : succeeds (after_write failing_sink (7 ∷ 8 ∷ [])) (9 ∷ 10 ∷ []) ≡ false
second_fails = refl

over_the_room : (after_write (empty_sink 4) (1 ∷ 2 ∷ 3 ∷ 4 ∷ 5 ∷ [])).bytes ≡ []
over_the_room = refl
